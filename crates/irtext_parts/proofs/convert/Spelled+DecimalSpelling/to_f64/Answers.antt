use Rattle.std.proofs.Common.{◌≡◌, ◌∙◌, true, Some, None, sym, ap}
use Rattle.std.specs.Float.{binary64}
use Rattle.std.specs.List.{list_all}
use Rattle.fast_float.specs.Parse.{parse_float}
use Rattle.irtext_base.specs.Text.{begins}
use Rattle.irtext_base.proofs.Characters.{and_left, and_right}
use Rattle.irtext_parts.specs.Literals.{begins_number, in_decimal, after_minus, is_decimal}
use Rattle.irtext_parts.proofs.Floats.{decimal_parses}
use Rattle.irtext_parts.proofs.convert.Spelled+DecimalSpelling.to_f64.Goals as goal

pub unreachable-requires : goal.unreachable-requires
unreachable-requires c =
    let text = c.args.self.now.text.characters in
    let first : begins begins_number text ≡ true = and_left (begins begins_number text) _ c.args.self.now.spelled in
    let test : is_decimal (after_minus text) ≡ true = and_right (list_all in_decimal text) _ (and_right (begins begins_number text) _ c.args.self.now.spelled) in
    let p = decimal_parses binary64 text first test in
    let e : Some p.0 ≡ None = sym p.1 ∙ (ap (parse_float binary64) (sym (c.as_bytes.ensures.value ∙ c.as_str.ensures)) ∙ c.in-Err.ensures.exact) in
    absurd (cc)
