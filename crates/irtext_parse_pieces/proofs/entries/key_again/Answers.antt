use Rattle.std.proofs.Common.{refl}
use Rattle.irtext_parse_pieces.proofs.WordSteps.{nothing_taken}
use Rattle.irtext_parse_pieces.proofs.Lenses.{lens_of}
use Rattle.irtext_parse_pieces.proofs.entries.key_again.Goals as goal

pub returns-in-None : goal.returns-in-None
returns-in-None g c = nothing_taken (lens_of g.world g.met.S.CharStream) refl
