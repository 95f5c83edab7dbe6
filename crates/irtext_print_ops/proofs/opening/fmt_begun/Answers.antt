use Rattle.std.proofs.Common.{◌++◌, ◌∙◌, sym, ap, string_bytes}
use Rattle.irtext_print_ops.proofs.Lines.{opening_bytes}
use Rattle.irtext_print_ops.proofs.opening.fmt_begun.Goals as goal

pub returns-in-Ok-clause-text : goal.returns-in-Ok-clause-text
returns-in-Ok-clause-text c = c.in-Ok.ensures.text ∙ ap (λ z. string_bytes c.args.f.now ++ z) (sym (opening_bytes c.args.joins c.args.indent c.args.inner))
