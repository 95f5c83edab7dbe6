use Rattle.std.proofs.Common.{◌++◌, ◌∙◌, ap, codes, string_bytes}
use Rattle.std.specs.Fmt.{decimal}
use Rattle.irtext_print.proofs.Texts.{seven_put}
use Rattle.irtext_print.proofs.entries.fmt_memory.Goals as goal

pub returns-clause-text : goal.returns-clause-text
returns-clause-text c =
    c.in_ok-push_str.ensures.bytes
    ∙ ap (λ z. string_bytes c.args.f.now ++ z) (c.as_str.ensures.value
    ∙ seven_put (codes "!") (decimal c.args.index) (codes " = @[<in-memory>: line: ") (decimal c.args.line) (codes ", column: ") (decimal c.args.column) (codes "], [")
    c.new-front.result.bytes c.push_str.new.self.bytes c.put_number.new.text.bytes c.push_str-2.new.self.bytes c.put_number-2.new.text.bytes c.push_str-3.new.self.bytes c.put_number-3.new.text.bytes c.push_str-4.new.self.bytes
    c.new-front.ensures c.push_str.ensures.bytes c.put_number.ensures.bytes c.push_str-2.ensures.bytes c.put_number-2.ensures.bytes c.push_str-3.ensures.bytes c.put_number-3.ensures.bytes c.push_str-4.ensures.bytes)
