use Rattle.std.proofs.Common.{sym, ◌∙◌}
use Rattle.irtext_tokens.specs.AttrTexts.{attr_at}
use Rattle.irtext_parse_pieces.proofs.PieceSteps.{outlined_taken, not_outlined, read_failed}
use Rattle.irtext_parse_pieces.proofs.Lenses.{lens_of}
use Rattle.irtext_parse_pieces.proofs.pieces.outlined_or_demanded.Goals as goal

pub returns-then-has_failed : goal.returns-then-has_failed
returns-then-has_failed g c = read_failed (lens_of g.world g.met.S.CharStream) (sym c.has_failed.ensures ∙ c.if-has_failed.true) c.refuse.ensures

pub returns-then-accepts : goal.returns-then-accepts
returns-then-accepts g c = outlined_taken (lens_of g.world g.met.S.CharStream) (attr_at g.A.IrText.reading) (sym c.has_failed.ensures ∙ c.if-has_failed.false) c.if-accepts.ensures

pub returns : goal.returns
returns g c = not_outlined (lens_of g.world g.met.S.CharStream) (attr_at g.A.IrText.reading) c.if-accepts.ensures c.attr_demanded-answer.result c.present.ensures c.attr_demanded-answer.ensures
