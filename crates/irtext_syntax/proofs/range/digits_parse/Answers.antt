use Rattle.std.proofs.Common.{◌≡◌, ◌⊎◌, ℕ, Option, subst, Bool, false, true, None, sym, ◌∙◌, ap, refl, []}
use Rattle.std.specs.Char.{is_ascii_digit}
use Rattle.irtext_base.specs.Text.{Text, begins, front, after}
use Rattle.irtext_base.specs.Faults.{NumberRange}
use Rattle.irtext_base.specs.Answers.{RunsOutHere, FailsAfter, Bad, unless_failed}
use Rattle.irtext_base.proofs.Compose.{refuses_before, seen_after}
use Rattle.irtext_tokens.proofs.Words.{encodes-front_digits}
use Rattle.irtext_tokens.specs.Tokens.{value_of}
use Rattle.irtext_syntax.specs.Ranges.{digits_at}
use Rattle.irtext_syntax.proofs.range.digits_parse.Goals as goal

-- digits of a number of which no value is made are out of range
out : {X : Type 0} (make : Option ℕ → Option X) (text : Text) (b : Bool) → b ≡ false → begins is_ascii_digit text ≡ true → make (value_of (front is_ascii_digit text)) ≡ None → unless_failed b (digits_at make text) ≡ Bad (NumberRange (front is_ascii_digit text)) []
out make text b f e n = rw (f, e, n) refl

pub returns-in-None : goal.returns-in-None
returns-in-None g c =
    let old = c.args.stream.now in
    let mid = c.take_digits-number.new.stream in
    let taken = front is_ascii_digit old.rest in
    let k = c.take_digits-number.ensures.takes in
    let same = sym (ap (λ v. v.passed) (seen_after (λ s. s) (λ s v. v) (λ s v. refl) (λ s v w. refl) old mid taken (after is_ascii_digit old.rest) k)) in
    let r = c.out_of_range.ensures in
    let o = out g.N.FromDigits.made old.rest old.failed (sym c.has_failed.ensures ∙ c.if-has_failed.false) (sym c.begins.ensures ∙ c.if-not-begins.false) (ap g.N.FromDigits.made (sym c.take_digits-number.ensures.value) ∙ (sym c.from_digits.ensures ∙ c.in-None.is)) in
    let end = c.out_of_range.new.stream in
    let fault = c.out_of_range.result in
    let cause = subst (λ z. RunsOutHere (λ s. s) (λ s v. v) mid fault end ⊎ FailsAfter (λ s. s) (λ s v. v) (NumberRange z) old.passed mid fault end) (encodes-front_digits old.rest) (r old.passed taken same c.position-place.ensures) in
    let q = refuses_before (λ s. s) (λ s v. v) (λ s v. refl) (λ s v w. refl) (NumberRange taken) old mid end taken (after is_ascii_digit old.rest) fault (sym c.has_failed.ensures ∙ c.if-has_failed.false) k cause in
    record { answers = rw o q }
