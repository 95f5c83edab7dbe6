use Rattle.irtext_parse_pieces.proofs.PieceSteps.{may_itself}
use Rattle.irtext_parse_pieces.proofs.Lenses.{lens_of}
use Rattle.irtext_parse_pieces.proofs.types.type_parse.Goals as goal

pub returns : goal.returns
returns g c = may_itself (lens_of g.world g.met.S.CharStream) c.read_own.result c.read_own.ensures
