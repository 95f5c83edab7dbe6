-- A sign before a digit, and what is an error without one.
use Rattle.std.proofs.Common.{◌≡◌, ℕ, Bool, true, false, cond, Option, is_some, Err, [], ◌∷◌, refl, sym, ◌∙◌, ap, subst, inr}
use Rattle.std.specs.Char.{is_ascii_digit}
use Rattle.irtext_base.specs.Text.{Text, begins}
use Rattle.irtext_base.specs.Stream.{first_of}
use Rattle.irtext_base.specs.Faults.{ADigit, Unexpected}
use Rattle.irtext_base.specs.Answers.{Outcome, Missing, Bad, Takes, Gives, Passes, Demands, Answers, unless_failed, prefixed}
use Rattle.irtext_base.specs.declared.parsable.fault.ParseFault.{ParseFault}
use Rattle.irtext_base.proofs.Compose.{seen_after, answers_demanded, answers_after}
use Rattle.irtext_tokens.specs.Tokens.{is_sign, sign_of, after_sign}
use Rattle.irtext_tokens.specs.Integers.{sign_text, no_digit_after, sign_at}
use Rattle.irtext_tokens.proofs.Spelling.{takes_none_is}
use Rattle.irtext_tokens.proofs.Steps.{Lens}

one_sign : (b : Bool) (c : ℕ) → sign_text (first_of (cond b (c ∷ []) [])) ≡ cond b (c ∷ []) []
one_sign true c = refl
one_sign false c = refl

-- the sign is its only character
sign_of-first : (text : Text) → sign_text (first_of (sign_of text)) ≡ sign_of text
sign_of-first [] = refl
sign_of-first (c ∷ text) = one_sign (is_sign c) c

-- after a sign a missing digit is bad
after_one : {X : Type 0} (sign text : Text) → is_some (first_of sign) ≡ true → no_digit_after {X = X} sign text ≡ Bad (Unexpected (first_of text) ADigit) sign
after_one [] text e = absurd (cc)
after_one (c ∷ sign) text e = refl

-- without a sign there is no number
after_none : {X : Type 0} (sign text : Text) → is_some (first_of sign) ≡ false → no_digit_after {X = X} sign text ≡ Missing (Unexpected (first_of text) ADigit)
after_none [] text e = refl
after_none (c ∷ sign) text e = absurd (cc)

no_sign : (sign : Text) → is_some (first_of sign) ≡ false → sign ≡ []
no_sign [] e = refl
no_sign (c ∷ sign) e = absurd (cc)

module _ {S : Type 0} (l : Lens S) (old mid : S) (sign : Option ℕ) (f : (l.view old).failed ≡ false) (s : sign ≡ first_of (sign_of (l.view old).rest)) (k : Takes l.view l.at (sign_of (l.view old).rest) (after_sign (l.view old).rest) old mid) where
  left_after : (l.view mid).rest ≡ after_sign (l.view old).rest
  left_after = ap (λ v. v.rest) (seen_after l.view l.at l.view_at l.at_at old mid (sign_of (l.view old).rest) (after_sign (l.view old).rest) k)

  digit_after : (b : Bool) → begins is_ascii_digit (l.view mid).rest ≡ b → begins is_ascii_digit (after_sign (l.view old).rest) ≡ b
  digit_after b d = subst (λ z. begins is_ascii_digit z ≡ b) left_after d

  -- before a digit it is parsed
  pub sign_gives : begins is_ascii_digit (l.view mid).rest ≡ true → Gives l.view l.at (unless_failed (l.view old).failed (sign_at (l.view old).rest)) old (sign_text sign) mid
  sign_gives d = rw (f, digit_after true d) (ap sign_text s ∙ sign_of-first (l.view old).rest, k)

  module _ {A : Type 0} (fault : ParseFault A) (d : begins is_ascii_digit (l.view mid).rest ≡ false) (p : Passes l.view l.at (Unexpected (first_of (l.view mid).rest) ADigit) mid fault mid) where
    -- a sign without a digit after it is a committed error
    pub sign_alone : (last : ParseFault A) (new : S) → is_some sign ≡ true → Demands l.view l.at fault mid last new → Answers l.view l.at sign_text (unless_failed (l.view old).failed (sign_at (l.view old).rest)) old (Err last) new
    sign_alone last new i q =
        let n : no_digit_after {X = Text} (sign_of (l.view old).rest) (after_sign (l.view old).rest) ≡ Bad (Unexpected (first_of (after_sign (l.view old).rest)) ADigit) (sign_of (l.view old).rest) = after_one _ _ (subst (λ z. is_some z ≡ true) s i) in
        let o : Outcome Text = Missing (Unexpected (first_of (l.view mid).rest) ADigit) in
        let e : unless_failed (l.view old).failed (sign_at (l.view old).rest) ≡ prefixed (sign_of (l.view old).rest) o = rw (f, left_after, digit_after false d, n) refl in
        let a = answers_demanded l.view l.at l.view_at l.at_at sign_text o mid mid new (Err fault) (Err last) (inr p) (last, refl, q) in
        subst (λ z. Answers l.view l.at sign_text z old (Err last) new) (sym e) (answers_after l.view l.at l.view_at l.at_at sign_text o old mid new (sign_of (l.view old).rest) (after_sign (l.view old).rest) (Err last) k a)

    -- without a sign and a digit nothing is consumed
    pub sign_missing : is_some sign ≡ false → Answers l.view l.at sign_text (unless_failed (l.view old).failed (sign_at (l.view old).rest)) old (Err fault) mid
    sign_missing i =
        let j : is_some (first_of (sign_of (l.view old).rest)) ≡ false = subst (λ z. is_some z ≡ false) s i in
        let n : no_digit_after {X = Text} (sign_of (l.view old).rest) (after_sign (l.view old).rest) ≡ Missing (Unexpected (first_of (after_sign (l.view old).rest)) ADigit) = after_none _ _ j in
        let o : Outcome Text = Missing (Unexpected (first_of (l.view mid).rest) ADigit) in
        let e : unless_failed (l.view old).failed (sign_at (l.view old).rest) ≡ o = rw (f, left_after, digit_after false d, n) refl in
        let t : Takes l.view l.at [] (after_sign (l.view old).rest) old mid = subst (λ z. Takes l.view l.at z (after_sign (l.view old).rest) old mid) (no_sign (sign_of (l.view old).rest) j) k in
        let m : mid ≡ old = takes_none_is l.view l.at l.view_at l.at_view l.at_at old mid (after_sign (l.view old).rest) t in
        subst (λ z. Answers l.view l.at sign_text z old (Err fault) mid) (sym e) (inr (subst (λ z. Passes l.view l.at (Unexpected (first_of (l.view mid).rest) ADigit) z fault mid) m p))
