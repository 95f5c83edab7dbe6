-- Laws of ASCII characters are computed.
use Rattle.std.proofs.Common.{◌≡◌, ℕ, zero, suc, ◌<◌, Bool, true, false, ◌&&◌, refl, sym, ap, ◌∙◌, true≢false, arith, ⊎_elim, eq-or-lt_of_le, le_of_suc-le-suc}

-- the first of two tests that hold together
pub and_left : (a b : Bool) → (a && b) ≡ true → a ≡ true
and_left true b e = refl
and_left false b e = e

-- the second of two tests that hold together
pub and_right : (a b : Bool) → (a && b) ≡ true → b ≡ true
and_right true b e = e
and_right false b e = absurd (true≢false (sym e))

abbrev all_below : ℕ → (ℕ → Bool) → Bool
all_below zero test = true
all_below (suc n) test = test n && all_below n test

below_all : (n : ℕ) (test : ℕ → Bool) → all_below n test ≡ true → (c : ℕ) → c < n → test c ≡ true
below_all zero test e c h = absurd (omega arith)
below_all (suc n) test e c h = ⊎_elim (λ (i : c ≡ n). ap test i ∙ and_left (test n) (all_below n test) e) (λ (l : c < n). below_all n test (and_right (test n) (all_below n test) e) c l) (eq-or-lt_of_le (le_of_suc-le-suc h))

-- a law of ASCII characters is computed
pub ascii : (test : ℕ → Bool) → all_below 128 test ≡ true → (c : ℕ) → c < 128 → test c ≡ true
ascii test e c h = below_all 128 test e c h
