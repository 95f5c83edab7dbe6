use Rattle.std.proofs.Common.{◌++◌, ◌∙◌, ap, string_bytes}
use Rattle.std.proofs.lemmas.Int.{to_z-of_z}
use Rattle.std.specs.Fmt.{signed_decimal}
use Rattle.std.specs.Int.{w32}
use Rattle.std.specs.Str.{encode_utf8_all}
use Rattle.irtext_print.proofs.Printers.Appended.{then}
use Rattle.irtext_print.proofs.printable.numbers.fmt_signed.Goals as goal

pub returns-clause-text : goal.returns-clause-text
returns-clause-text c =
    then c.fmt_any.result (λ w. w ∙ ap (λ n. string_bytes c.args.f.now ++ encode_utf8_all (signed_decimal n)) (to_z-of_z w32 c.args.number c.ranges.number)) c.fmt_any.ensures.text
