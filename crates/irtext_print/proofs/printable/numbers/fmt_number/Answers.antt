use Rattle.std.proofs.Common.{◌<◌, ◌^◌, arith, refl, string_bytes}
use Rattle.std.specs.Fmt.{decimal}
use Rattle.std.proofs.lemmas.Fmt.{IsAscii-decimal}
use Rattle.irtext_print.proofs.Printers.Appended.{then, number_appended}
use Rattle.irtext_print.proofs.printable.numbers.fmt_number.Goals as goal

pub returns-then-has_room-clause-text : goal.returns-then-has_room-clause-text
returns-then-has_room-clause-text c =
    let few : c.args.number < 2 ^ 64 = omega (arith, c.if-number-ge10000.false) in
    then c.fmt_small.result (λ w. number_appended (decimal c.args.number) (decimal c.args.number) (string_bytes c.args.f.now) (string_bytes c.fmt_small.new.f) refl (IsAscii-decimal c.args.number few) w) c.fmt_small.ensures.text

pub returns-clause-text : goal.returns-clause-text
returns-clause-text c =
    let few : c.args.number < 2 ^ 64 = omega (arith, c.if-number-ge10000.false) in
    then c.fmt_slowly.result (λ w. number_appended (decimal c.args.number) (decimal c.args.number) (string_bytes c.args.f.now) (string_bytes c.fmt_slowly.new.f) refl (IsAscii-decimal c.args.number few) w) c.fmt_slowly.ensures.text
