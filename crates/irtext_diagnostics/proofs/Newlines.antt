-- A text without the newline at its end.
use Rattle.std.proofs.Common.{◌≡◌, ◌∙◌, ℕ, Bool, true, false, cond, ◌==◌, List, [], ◌∷◌, ◌++◌, refl, sym, ap, arith}
use Rattle.std.proofs.lemmas.Bool.Decides.{nat_tests}
use Rattle.irtext_diagnostics.specs.Messages.{without_newline}

-- a text that ends with a newline
ended : (xs : List ℕ) → without_newline (xs ++ 10 ∷ []) ≡ xs
ended [] = refl
ended (c ∷ []) = refl
ended (c ∷ d ∷ xs) = ap (λ t. c ∷ t) (ended (d ∷ xs))

-- one that does not
unended : (xs : List ℕ) → ((ys : List ℕ) → xs ≡ ys ++ 10 ∷ [] → ⊥) → without_newline xs ≡ xs
unended [] h = refl
unended (c ∷ []) h = go (c == 10) refl
  where
    go : (b : Bool) → (c == 10) ≡ b → cond b [] (c ∷ []) ≡ c ∷ []
    go true e = let same : c ≡ 10 = grind (arith, nat_tests) in absurd (h [] (ap (λ z. z ∷ []) same))
    go false e = refl
unended (c ∷ d ∷ xs) h = ap (λ t. c ∷ t) (unended (d ∷ xs) (λ ys e. h (c ∷ ys) (ap (λ t. c ∷ t) e)))

pub newline_found : (bs xs : List ℕ) → bs ≡ xs ++ 10 ∷ [] → xs ≡ without_newline bs
newline_found bs xs e = sym (ap without_newline e ∙ ended xs)

pub newline_missed : (bs : List ℕ) → ((xs : List ℕ) → bs ≡ xs ++ 10 ∷ [] → ⊥) → bs ≡ without_newline bs
newline_missed bs h = sym (unended bs h)
