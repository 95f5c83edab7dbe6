use Rattle.std.proofs.Common.{[], ◌++◌, ◌∙◌, sym, ap, string_bytes}
use Rattle.std.specs.Fmt.{decimal}
use Rattle.irtext_demo.specs.IntegerTypeLaws.{encodes-integer_type}
use Rattle.irtext_demo.proofs.TypeTexts.{then, joined_type}
use Rattle.irtext_demo.proofs.integer_type.IntegerTypePart.write_text.Goals as goal

pub returns-clause-text : goal.returns-clause-text
returns-clause-text g c =
    then c.write_width.result (λ w. joined_type c.args.self.now (string_bytes c.args.f.now) (string_bytes c.write_sign.new.f) (string_bytes c.write_width.new.f) [] c.in_ok-write_sign.ensures.text
    (w ∙ ap (λ n. string_bytes c.write_sign.new.f ++ decimal n) c.bits.ensures) ∙ ap (λ z. string_bytes c.args.f.now ++ z) (sym (encodes-integer_type c.args.self.now))) c.write_width.ensures.text
