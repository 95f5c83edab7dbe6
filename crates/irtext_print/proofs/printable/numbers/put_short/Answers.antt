use Rattle.std.proofs.Common.{◌++◌, ◌∙◌, sym, ap}
use Rattle.irtext_print.proofs.Digits.{decimal-two}
use Rattle.irtext_print.proofs.printable.numbers.put_short.Goals as goal

pub returns-then-number-ge10-clause-bytes : goal.returns-then-number-ge10-clause-bytes
returns-then-number-ge10-clause-bytes c = c.push_str.ensures.bytes ∙ ap (λ z. c.args.text.now.bytes ++ z) (c.pair.ensures.value ∙ sym (decimal-two c.args.number c.if-number-ge10.true c.requires.few))

pub returns-clause-bytes : goal.returns-clause-bytes
returns-clause-bytes c = c.push_str-2.ensures.bytes ∙ ap (λ z. c.args.text.now.bytes ++ z) c.digit.ensures.value
