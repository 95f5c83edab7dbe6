-- What the vector of noted scopes has after it grew, and after one was put into it.
use Rattle.std.proofs.Common.{◌≡◌, ◌⊎◌, ◌&&◌, Bool, true, false, refl, ◌++◌, ◌<◌, arith, sym, ap, length, slice_index_or, inl, inr, ℕ, zero, suc, List, [], ◌∷◌, slice_get, slice_set, Option, Some, None}

-- the same without the last of three
pub two_hold : (a b : Bool) → (a && (b && true)) ≡ true → (a && b) ≡ true
two_hold true true e = refl
two_hold true false e = absurd (cc)
two_hold false b e = absurd (cc)

-- what is read at an index, whatever else would be read where there is none
pub got : {X : Type 0} (xs : List X) (i : ℕ) (x : X) → i < length xs → ((d : X) → x ≡ slice_index_or xs i d) → slice_get xs i ≡ Some x
got [] i x l h = absurd (omega (arith, l))
got (y ∷ ys) zero x l h = ap Some (sym (h y))
got (y ∷ ys) (suc i) x l h = got ys i x (omega (arith, l)) h

-- a place that is empty has nothing
pub one_longer : {X : Type 0} (xs : List (Option X)) (i : ℕ) (n : X) → slice_get (xs ++ None ∷ []) i ≡ Some (Some n) → slice_get xs i ≡ Some (Some n)
one_longer [] zero n e = absurd (cc)
one_longer [] (suc i) n e = absurd (cc)
one_longer (x ∷ xs) zero n e = e
one_longer (x ∷ xs) (suc i) n e = one_longer xs i n e

-- what is there is what was put, or was there before
pub put_at : {X : Type 0} (xs : List (Option X)) (k i : ℕ) (m n : X) → slice_get (slice_set xs k (Some m)) i ≡ Some (Some n) → (n ≡ m) ⊎ (slice_get xs i ≡ Some (Some n))
put_at [] k i m n e = inr e
put_at (x ∷ xs) zero zero m n e = inl (cc)
put_at (x ∷ xs) zero (suc i) m n e = inr e
put_at (x ∷ xs) (suc k) zero m n e = inr e
put_at (x ∷ xs) (suc k) (suc i) m n e = put_at xs k i m n e
