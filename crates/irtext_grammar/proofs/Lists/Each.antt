-- What holds of each member of a list.
use Rattle.std.proofs.Common.{ℕ, zero, suc, Bool, true, false, cond, List, [], ◌∷◌, ◌++◌, drop, filter, slice_get, Option, Some, None}
use Rattle.std.specs.Prelude.{⊤}
use Rattle.irtext_grammar.specs.Spelling.Spellable.{Each}

-- what holds of the members of two lists holds of those of both joined
pub each_both : {X : Type 0} (Q : X → Type 0) (xs ys : List X) → Each Q xs → Each Q ys → Each Q (xs ++ ys)
each_both Q [] ys a b = b
each_both Q (x ∷ xs) ys a b = (a.0, each_both Q xs ys a.1 b)

-- what holds of the members of two lists joined holds of those of the first
pub each_left : {X : Type 0} (Q : X → Type 0) (xs ys : List X) → Each Q (xs ++ ys) → Each Q xs
each_left Q [] ys a = tt
each_left Q (x ∷ xs) ys a = (a.0, each_left Q xs ys a.1)

-- and of those of the second
pub each_right : {X : Type 0} (Q : X → Type 0) (xs ys : List X) → Each Q (xs ++ ys) → Each Q ys
each_right Q [] ys a = a
each_right Q (x ∷ xs) ys a = each_right Q xs ys a.1

-- what holds of each holds of those that pass a test
pub each_filter : {X : Type 0} (Q : X → Type 0) (test : X → Bool) (xs : List X) → Each Q xs → Each Q (filter test xs)
each_filter Q test [] e = tt
each_filter Q test (x ∷ xs) e = go (test x) (each_filter Q test xs e.1)
  where
    go : (b : Bool) → Each Q (filter test xs) → Each Q (cond b (x ∷ filter test xs) (filter test xs))
    go true k = (e.0, k)
    go false k = k

-- what holds of each element holds of each after the first n
pub each_drop : {X : Type 0} (Q : X → Type 0) (n : ℕ) (xs : List X) → Each Q xs → Each Q (drop n xs)
each_drop Q zero xs e = e
each_drop Q (suc n) [] e = tt
each_drop Q (suc n) (x ∷ xs) e = each_drop Q n xs e.1

-- it holds of the value, if there is one
abbrev pub OfOption : {X : Type 0} → (X → Type 0) → Option X → Type 0
OfOption Q None = ⊤
OfOption Q (Some x) = Q x

-- what holds of each holds at a place
pub each_at : {X : Type 0} (Q : X → Type 0) (xs : List X) (i : ℕ) → Each Q xs → OfOption Q (slice_get xs i)
each_at Q [] zero e = tt
each_at Q [] (suc i) e = tt
each_at Q (x ∷ xs) zero e = e.0
each_at Q (x ∷ xs) (suc i) e = each_at Q xs i e.1
