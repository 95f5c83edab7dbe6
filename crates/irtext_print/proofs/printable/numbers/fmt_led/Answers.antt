use Rattle.std.proofs.Common.{◌++◌, ◌/◌, ◌≤◌, ◌<◌, ◌∙◌, sym, ap, arith, string_bytes}
use Rattle.std.specs.Fmt.{decimal}
use Rattle.irtext_print.proofs.Digits.{decimal-two, decimal-hundreds}
use Rattle.irtext_print.proofs.Printers.Appended.{then}
use Rattle.irtext_print.proofs.printable.numbers.fmt_led.Goals as goal

pub returns-then-number-lt10-clause-text : goal.returns-then-number-lt10-clause-text
returns-then-number-lt10-clause-text c = then c.fmt_joined.result (λ w. w ∙ ap (λ z. string_bytes c.args.f.now ++ (c.args.front.now ++ z)) c.digit.ensures.value) c.fmt_joined.ensures.text

pub returns-then-number-lt100-clause-text : goal.returns-then-number-lt100-clause-text
returns-then-number-lt100-clause-text c =
    let two : 10 ≤ c.args.number = omega (arith, c.if-number-lt10.false) in
    then c.fmt_joined-then-number-lt100.result (λ w. w ∙ ap (λ z. string_bytes c.args.f.now ++ (c.args.front.now ++ z)) (c.pair.ensures.value ∙ sym (decimal-two c.args.number two c.if-number-lt100.true))) c.fmt_joined-then-number-lt100.ensures.text

pub returns-then-number-lt1000-clause-text : goal.returns-then-number-lt1000-clause-text
returns-then-number-lt1000-clause-text c =
    let high : 100 ≤ c.args.number = omega (arith, c.if-number-lt100.false) in
    let few : c.args.number < 1000000 = omega (arith, c.requires.few) in
    then c.fmt_joined-then-number-lt1000.result (λ w. w ∙ ap (λ z. string_bytes c.args.f.now ++ (c.args.front.now ++ z)) (ap (λ z. z ++ c.pair-then-number-lt1000.result.now) c.digit-then-number-lt1000.ensures.value ∙ ap (λ z. decimal (c.args.number / 100) ++ z) c.pair-then-number-lt1000.ensures.value
    ∙ sym (decimal-hundreds c.args.number high few))) c.fmt_joined-then-number-lt1000.ensures.text

pub returns-clause-text : goal.returns-clause-text
returns-clause-text c =
    let high : 100 ≤ c.args.number = omega (arith, c.if-number-lt100.false) in
    let few : c.args.number < 1000000 = omega (arith, c.requires.few) in
    let two : 10 ≤ c.args.number / 100 = omega (arith, c.if-number-lt1000.false) in
    let below : c.args.number / 100 < 100 = omega (arith, c.requires.few) in
    then c.fmt_joined-2.result (λ w. w ∙ ap (λ z. string_bytes c.args.f.now ++ (c.args.front.now ++ z)) (ap (λ z. z ++ c.pair-3.result.now) (c.pair-2.ensures.value ∙ sym (decimal-two (c.args.number / 100) two below)) ∙ ap (λ z. decimal (c.args.number / 100) ++ z) c.pair-3.ensures.value
    ∙ sym (decimal-hundreds c.args.number high few))) c.fmt_joined-2.ensures.text
