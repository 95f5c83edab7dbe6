use Rattle.std.proofs.Common.{◌∙◌}
use Rattle.irtext_print_ops.proofs.Fronts.{none_is}
use Rattle.irtext_print_ops.proofs.front.begin_front.Goals as goal

pub fmt_front-requires : goal.fmt_front-requires
fmt_front-requires g c = record { live = c.requires.live; form = none_is c.in_ok-directives.directives c.is_none.result c.is_none.ensures ∙ c.in_ok-directives.ensures.form }
