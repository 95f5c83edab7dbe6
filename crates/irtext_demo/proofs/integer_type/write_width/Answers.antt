use Rattle.std.proofs.Common.{◌++◌, ◌∙◌, sym, ap, arith, string_bytes}
use Rattle.std.specs.Fmt.{decimal}
use Rattle.irtext_demo.proofs.TypeTexts.{one_digit, two_digits}
use Rattle.irtext_demo.proofs.integer_type.write_width.Goals as goal

pub returns-in_ok-push_str-in-1-clause-text : goal.returns-in_ok-push_str-in-1-clause-text
returns-in_ok-push_str-in-1-clause-text c = c.in_ok-push_str-in-1.ensures.bytes ∙ ap (λ z. string_bytes c.args.f.now ++ z) (one_digit 1 (omega arith) ∙ ap decimal (sym c.in-1.is))

pub returns-in_ok-push_str-in-8-clause-text : goal.returns-in_ok-push_str-in-8-clause-text
returns-in_ok-push_str-in-8-clause-text c = c.in_ok-push_str-in-8.ensures.bytes ∙ ap (λ z. string_bytes c.args.f.now ++ z) (one_digit 8 (omega arith) ∙ ap decimal (sym c.in-8.is))

pub returns-in_ok-push_str-in-16-clause-text : goal.returns-in_ok-push_str-in-16-clause-text
returns-in_ok-push_str-in-16-clause-text c = c.in_ok-push_str-in-16.ensures.bytes ∙ ap (λ z. string_bytes c.args.f.now ++ z) (two_digits 16 (omega arith) (omega arith) ∙ ap decimal (sym c.in-16.is))

pub returns-in_ok-push_str-in-32-clause-text : goal.returns-in_ok-push_str-in-32-clause-text
returns-in_ok-push_str-in-32-clause-text c = c.in_ok-push_str-in-32.ensures.bytes ∙ ap (λ z. string_bytes c.args.f.now ++ z) (two_digits 32 (omega arith) (omega arith) ∙ ap decimal (sym c.in-32.is))

pub returns-in_ok-push_str-in-64-clause-text : goal.returns-in_ok-push_str-in-64-clause-text
returns-in_ok-push_str-in-64-clause-text c = c.in_ok-push_str-in-64.ensures.bytes ∙ ap (λ z. string_bytes c.args.f.now ++ z) (two_digits 64 (omega arith) (omega arith) ∙ ap decimal (sym c.in-64.is))
