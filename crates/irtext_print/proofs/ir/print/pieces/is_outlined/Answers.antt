use Rattle.std.proofs.Common.{◌∙◌}
use Rattle.irtext_print.proofs.Givens.{outlined_same}
use Rattle.irtext_print.proofs.ir.print.pieces.is_outlined.Goals as goal

pub returns : goal.returns
returns g c = c.is_outlined.ensures ∙ outlined_same g.A.AttrText.outlined c.args.attr.now
