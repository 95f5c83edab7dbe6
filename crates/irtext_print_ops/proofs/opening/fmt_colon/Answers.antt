use Rattle.std.proofs.Common.{◌++◌, ◌∙◌, sym, ap, arith, string_bytes}
use Rattle.irtext_print.proofs.Printers.Appended.{after_call}
use Rattle.irtext_print_ops.proofs.Lines.{line_bytes}
use Rattle.irtext_print_ops.proofs.opening.fmt_colon.Goals as goal

pub returns-clause-text : goal.returns-clause-text
returns-clause-text c =
    after_call c.memory_alone.result c.fmt_colon_newline.result c.memory_alone.ensures.ok c.fmt_colon_newline.ensures.text (λ w. w ∙ ap (λ z. string_bytes c.args.f.now ++ z) (sym (line_bytes 58 c.args.indent (omega arith))))
