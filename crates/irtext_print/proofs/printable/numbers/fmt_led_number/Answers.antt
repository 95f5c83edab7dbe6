use Rattle.std.proofs.Common.{◌++◌, ◌<◌, ◌^◌, ◌∙◌, arith, sym, ap, refl, string_bytes}
use Rattle.std.specs.Fmt.{decimal}
use Rattle.std.proofs.lemmas.Fmt.{IsAscii-decimal}
use Rattle.std.proofs.lemmas.Str.{IsAscii-append}
use Rattle.irtext_grammar.proofs.Lists.Ascii.{encodes-ascii}
use Rattle.irtext_print.proofs.Printers.Appended.{then, number_appended}
use Rattle.irtext_print.proofs.Printers.Locations.{more}
use Rattle.irtext_print.proofs.printable.numbers.fmt_led_number.Goals as goal

pub returns-then-has_room-clause-text : goal.returns-then-has_room-clause-text
returns-then-has_room-clause-text c =
    let few : c.args.number < 2 ^ 64 = omega (arith, c.if-number-lt10000.true) in
    let all = c.args.front.now ++ decimal c.args.number in
    then c.fmt_led.result (λ w. number_appended all all (string_bytes c.args.f.now) (string_bytes c.fmt_led.new.f) refl (IsAscii-append c.args.front.now (decimal c.args.number) c.requires.ascii (IsAscii-decimal c.args.number few)) w) c.fmt_led.ensures.text

pub returns-clause-text : goal.returns-clause-text
returns-clause-text c =
    then c.fmt_number.result (λ w. more (string_bytes c.args.f.now) (string_bytes c.push_str.new.text) (string_bytes c.fmt_number.new.f) c.args.front.now (decimal c.args.number)
    (c.in_ok-push_str.ensures.bytes ∙ ap (λ z. string_bytes c.args.f.now ++ z) (sym (encodes-ascii c.args.front.now c.requires.ascii))) w) c.fmt_number.ensures.text
