use Rattle.irtext_grammar.specs.Names.TextScopes.{facts}
use Rattle.irtext_grammar.proofs.Names.LabelPlaces.{left_at_brace, all_at_brace}
use Rattle.pliron_text.proofs.laws.places.labels_left_open.Goals as goal

pub returns-clause-reported : goal.returns-clause-reported
returns-clause-reported g c place scopes isolated body following name user = left_at_brace scopes isolated place body following name user

pub returns-clause-nowhere_else : goal.returns-clause-nowhere_else
returns-clause-nowhere_else g c place isolated body failure = all_at_brace place isolated (facts body) failure
