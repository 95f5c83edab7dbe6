use Rattle.std.proofs.Common.{◌++◌, ◌∙◌, ap, refl, codes, string_bytes}
use Rattle.std.proofs.lemmas.Int.{to_z-of_z}
use Rattle.std.specs.Fmt.{signed_decimal}
use Rattle.std.specs.Int.{w32}
use Rattle.std.specs.Str.{encode_utf8_all}
use Rattle.irtext_print.proofs.Printers.Appended.{then}
use Rattle.irtext_print.proofs.Printers.Locations.{between_two}
use Rattle.irtext_print.proofs.location.print.fmt_numbers.Goals as goal

pub returns-clause-text : goal.returns-clause-text
returns-clause-text c =
    let line = to_z-of_z w32 c.args.pos.now.line c.number_fits.ensures in
    let column = to_z-of_z w32 c.args.pos.now.column c.number_fits-2.ensures in
    then c.fmt_signed-2.result (λ q. between_two (signed_decimal c.args.pos.now.line) (codes ", column: ") (signed_decimal c.args.pos.now.column) (string_bytes c.args.f.now) (string_bytes c.fmt_signed.new.f) (string_bytes c.push_str.new.text) (string_bytes c.fmt_signed-2.new.f)
    refl (c.in_ok-fmt_signed.ensures.text ∙ ap (λ n. string_bytes c.args.f.now ++ encode_utf8_all (signed_decimal n)) line) c.in_ok-push_str.ensures.bytes
    (q ∙ ap (λ n. string_bytes c.push_str.new.text ++ encode_utf8_all (signed_decimal n)) column)) c.fmt_signed-2.ensures.text
