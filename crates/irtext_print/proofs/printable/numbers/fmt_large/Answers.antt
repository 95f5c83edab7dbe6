use Rattle.std.proofs.Common.{◌++◌, ◌/◌, ◌%◌, ◌<◌, ◌^◌, ◌∙◌, refl, ap, arith, string_bytes}
use Rattle.std.specs.Fmt.{decimal}
use Rattle.std.proofs.lemmas.Fmt.{IsAscii-decimal}
use Rattle.irtext_print.proofs.Digits.{pair, digits-joined}
use Rattle.irtext_print.proofs.Printers.Appended.{then, number_appended}
use Rattle.irtext_print.proofs.printable.numbers.fmt_large.Goals as goal

pub returns-clause-text : goal.returns-clause-text
returns-clause-text c =
    let few : c.args.number < 1000000 = omega (arith, c.if-number-ge1000000.false) in
    let fits : c.args.number < 2 ^ 64 = omega (arith, few) in
    then c.fmt_joined.result (λ w. number_appended (decimal c.args.number) (decimal c.args.number) (string_bytes c.args.f.now) (string_bytes c.fmt_joined.new.f) refl (IsAscii-decimal c.args.number fits)
    (digits-joined c.args.number (string_bytes c.args.f.now) (string_bytes c.fmt_short.new.f) (string_bytes c.fmt_joined.new.f) c.requires few c.in_ok-fmt_short.ensures.text
    (w ∙ ap (λ z. string_bytes c.fmt_short.new.f ++ z) (ap (λ z. z ++ c.pair-2.result.now) c.pair.ensures.value ∙ ap (λ z. pair (c.args.number / 100 % 100) ++ z) c.pair-2.ensures.value)))) c.fmt_joined.ensures.text
