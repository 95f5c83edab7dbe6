use Rattle.std.proofs.Common.{sym, ◌∙◌}
use Rattle.irtext_parse_pieces.proofs.MarkSteps.{no_mark}
use Rattle.irtext_parse_pieces.proofs.Lenses.{lens_of}
use Rattle.irtext_parse_pieces.proofs.marks.mark_parse.Goals as goal

pub returns-then-not-next_is : goal.returns-then-not-next_is
returns-then-not-next_is g c = no_mark (lens_of g.world g.met.S.CharStream) (sym c.has_failed.ensures ∙ c.if-has_failed.false) (sym c.next_is.ensures ∙ c.if-not-next_is.true)
