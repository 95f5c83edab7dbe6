use Rattle.std.proofs.Common.{sym, ◌∙◌}
use Rattle.irtext_parse_pieces.proofs.Meanings.{must_fail}
use Rattle.irtext_parse_pieces.proofs.PieceSteps.{no_tree, must_miss}
use Rattle.irtext_parse_pieces.proofs.Lenses.{lens_of}
use Rattle.irtext_parse_pieces.proofs.pieces.no_piece.Goals as goal

pub returns-then-has_failed : goal.returns-then-has_failed
returns-then-has_failed g c = λ names. must_fail (lens_of g.world g.met.S.CharStream) no_tree (sym c.has_failed.ensures ∙ c.if-has_failed.true) c.refuse.ensures

pub returns : goal.returns
returns g c = λ names. must_miss (lens_of g.world g.met.S.CharStream) no_tree (sym c.has_failed.ensures ∙ c.if-has_failed.false) c.commit_unexpected.ensures
