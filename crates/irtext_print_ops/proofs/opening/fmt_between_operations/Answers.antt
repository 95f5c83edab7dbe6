use Rattle.std.proofs.Common.{◌++◌, ◌∙◌, sym, ap, arith, string_bytes}
use Rattle.std.specs.Str.{encode_utf8_all}
use Rattle.irtext_print.proofs.Printers.Appended.{after_call}
use Rattle.irtext_print_ops.specs.Opened.{between_operations, unless_first}
use Rattle.irtext_print_ops.proofs.Lines.{line_bytes}
use Rattle.irtext_print_ops.proofs.opening.fmt_between_operations.Goals as goal

pub returns-clause-text : goal.returns-clause-text
returns-clause-text c =
    after_call c.memory_alone.result c.fmt_semicolon_newline.result c.memory_alone.ensures.ok c.fmt_semicolon_newline.ensures.text (λ w. w ∙ (ap (λ z. string_bytes c.args.f.now ++ z) (sym (line_bytes 59 c.args.indent (omega arith)))
    ∙ ap (λ b. string_bytes c.args.f.now ++ encode_utf8_all (unless_first b (between_operations c.args.indent))) (sym c.if-first.false)))
