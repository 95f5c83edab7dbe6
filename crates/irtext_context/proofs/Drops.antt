-- What `drop` leaves of a list.
use Rattle.std.specs.Prelude.{◌≡◌, ℕ, ◌+◌, ◌≤◌, List, [], ◌∷◌, zero, suc, length, drop, slice_get, Option, Some, None, refl}
use Rattle.std.proofs.Common.{◌∙◌, ap, sym, subst, arith}

pub none_left : {X : Type 0} (xs : List X) (i : ℕ) → length xs ≤ i → drop i xs ≡ []
none_left [] zero h = refl
none_left [] (suc i) h = refl
none_left (x ∷ xs) zero h = absurd (omega (arith, h))
none_left (x ∷ xs) (suc i) h = none_left xs i (omega (arith, h))

pub nothing : {X : Type 0} (xs : List X) → length xs ≡ 0 → xs ≡ []
nothing [] h = refl
nothing (x ∷ xs) h = absurd (omega (arith, h))

abbrev some_here : {X : Type 0} → Option X → Type 0
some_here None = ⊥
some_here (Some _) = Unit {0}

abbrev from_some : {X : Type 0} → X → Option X → X
from_some d None = d
from_some d (Some z) = z

pub one_left : {X : Type 0} (xs : List X) (i : ℕ) (x : X) → Some x ≡ slice_get xs i → drop i xs ≡ x ∷ drop (i + 1) xs
one_left [] zero x e = absurd (subst some_here e tt)
one_left [] (suc i) x e = absurd (subst some_here e tt)
one_left (y ∷ ys) zero x e = ap (λ z. z ∷ ys) (sym (ap (from_some x) e))
one_left (y ∷ ys) (suc i) x e =
    let one : suc (i + 1) ≡ suc i + 1 = omega arith in
    one_left ys i x e ∙ ap (λ n. x ∷ drop n (y ∷ ys)) one
