-- The test of texts is equality.
use Rattle.std.proofs.Common.{◌≡◌, ℕ, Bool, true, false, ◌&&◌, ◌==◌, [], ◌∷◌, refl, sym, ap₂, subst, true≢false, arith}
use Rattle.irtext_base.specs.Text.{Text}
use Rattle.irtext_base.specs.Format.{same_text}
use Rattle.std.proofs.lemmas.Bool.Decides.{nat_tests}
use Rattle.std.specs.Str.{bytes_eq}

-- a character is the same as itself
pub same_itself : (c : ℕ) → (c == c) ≡ true
same_itself c = grind (arith, nat_tests)

-- characters that the test calls the same are equal
pub same_character : (c d : ℕ) → (c == d) ≡ true → c ≡ d
same_character c d e = grind (arith, nat_tests)

both_true : (a b : Bool) → (a && b) ≡ true → (a ≡ true) × (b ≡ true)
both_true true b e = (refl, e)
both_true false b e = absurd (true≢false (sym e))

-- a text is the same as itself
pub same_text_refl : (s : Text) → same_text s s ≡ true
same_text_refl [] = refl
same_text_refl (c ∷ s) = ap₂ ◌&&◌ (same_itself c) (same_text_refl s)

-- texts that the test calls the same are equal
pub same_text_true : (s t : Text) → same_text s t ≡ true → s ≡ t
same_text_true [] [] e = refl
same_text_true [] (d ∷ t) e = absurd (true≢false (sym e))
same_text_true (c ∷ s) [] e = absurd (true≢false (sym e))
same_text_true (c ∷ s) (d ∷ t) e = let k = both_true (c == d) (same_text s t) e in ap₂ ◌∷◌ (same_character c d k.0) (same_text_true s t k.1)

-- equal texts are the same to the test
pub same_text_eq : (s t : Text) → s ≡ t → same_text s t ≡ true
same_text_eq s t e = subst (λ z. same_text s z ≡ true) e (same_text_refl s)

-- texts that differ are not the same to the test
pub other_text : (s t : Text) → (s ≡ t → ⊥) → same_text s t ≡ false
other_text s t n = go (same_text s t) refl
  where
    go : (b : Bool) → same_text s t ≡ b → b ≡ false
    go true e = absurd (n (same_text_true s t e))
    go false e = refl

-- the test on texts is std's
pub same_text-bytes_eq : (s t : Text) → same_text s t ≡ bytes_eq s t
same_text-bytes_eq [] [] = refl
same_text-bytes_eq [] (d ∷ t) = refl
same_text-bytes_eq (c ∷ s) [] = refl
same_text-bytes_eq (c ∷ s) (d ∷ t) = rw (same_text-bytes_eq s t) refl
