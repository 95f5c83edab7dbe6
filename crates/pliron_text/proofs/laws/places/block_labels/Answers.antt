use Rattle.std.specs.Prelude.{length}
use Rattle.irtext_grammar.proofs.Names.LabelPlaces.{defined_again, defined_first}
use Rattle.pliron_text.proofs.laws.places.block_labels.Goals as goal

pub returns-clause-again : goal.returns-clause-again
returns-clause-again g c types owns formats n text rest scopes place scope label = defined_again scopes n (length text) label.0 place scope

pub returns-clause-first : goal.returns-clause-first
returns-clause-first g c n scopes place scope = defined_first scopes n place scope
