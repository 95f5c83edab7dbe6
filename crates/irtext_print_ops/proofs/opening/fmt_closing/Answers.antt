use Rattle.std.proofs.Common.{◌++◌, ◌∙◌, sym, ap, string_bytes}
use Rattle.irtext_print.proofs.Printers.Appended.{after_call}
use Rattle.irtext_print_ops.proofs.Lines.{closing_bytes}
use Rattle.irtext_print_ops.proofs.opening.fmt_closing.Goals as goal

pub returns-clause-text : goal.returns-clause-text
returns-clause-text c =
    after_call c.memory_alone.result c.fmt_closing.result c.memory_alone.ensures.ok c.fmt_closing.ensures.text (λ w. w ∙ ap (λ z. string_bytes c.args.f.now ++ z) (sym (closing_bytes c.args.indent)))
