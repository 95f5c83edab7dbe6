use Rattle.std.proofs.Common.{◌++◌, ◌∙◌, ap, codes}
use Rattle.std.specs.Fmt.{signed_decimal}
use Rattle.std.specs.Str.{encode_utf8_all}
use Rattle.irtext_print.proofs.entries.fmt_memory_slowly.Goals as goal

pub returns-clause-text : goal.returns-clause-text
returns-clause-text c =
    let numbers = encode_utf8_all (signed_decimal c.args.pos.now.line ++ (codes ", column: " ++ signed_decimal c.args.pos.now.column)) in
    c.in_ok-push_str-2.ensures.bytes
    ∙ ap (λ z. z ++ codes "], [") (c.in_ok-fmt_numbers.ensures.text ∙ ap (λ z. z ++ numbers) (c.in_ok-push_str.ensures.bytes ∙ ap (λ z. z ++ codes " = @[<in-memory>: line: ") c.in_ok-fmt_index.ensures.text))
