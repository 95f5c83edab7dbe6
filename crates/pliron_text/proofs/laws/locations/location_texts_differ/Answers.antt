use Rattle.irtext_grammar.proofs.Locations.ComesBack.{location_same}
use Rattle.pliron_text.proofs.laws.locations.location_texts_differ.Goals as goal

pub returns : goal.returns
returns g c = location_same
