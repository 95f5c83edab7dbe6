use Rattle.std.proofs.Common.{◌++◌, ◌∙◌, sym, ap, string_bytes}
use Rattle.irtext_print.proofs.Digits.{decimal-two}
use Rattle.irtext_print.proofs.printable.numbers.fmt_short.Goals as goal

pub returns-then-number-ge10-clause-text : goal.returns-then-number-ge10-clause-text
returns-then-number-ge10-clause-text c = c.in_ok-push_str.ensures.bytes ∙ ap (λ z. string_bytes c.args.f.now ++ z) (c.pair.ensures.value ∙ sym (decimal-two c.args.number c.if-number-ge10.true c.requires))

pub returns-clause-text : goal.returns-clause-text
returns-clause-text c = c.in_ok-push_str-2.ensures.bytes ∙ ap (λ z. string_bytes c.args.f.now ++ z) c.digit.ensures.value
