-- How many children there are, and lists of objects.
use Rattle.std.proofs.Common.{◌≡◌, ◌<◌, ◌≤◌, ℕ, zero, suc, sym, ap, arith, List, [], ◌∷◌, length, slice_get, IsSome, set, get_or, sum_by}
use Rattle.std.proofs.lemmas.List.Sums.{sum_by-set}
use Rattle.irtext_graph.specs.declared.arena.Slot.{Slot}
use Rattle.irtext_graph.specs.Arena.{found}

pub entry-low : {X : Type 0} (xs : List (Slot X)) (p g : ℕ) → IsSome (found (slice_get xs p) g) → p < length xs
entry-low [] p g h = absurd (cc)
entry-low (x ∷ xs) zero g h = omega arith
entry-low (x ∷ xs) (suc p) g h = omega (arith, entry-low xs p g h)

-- an element that counts for less takes another's place
pub sum-less : {X : Type 0} (f : X → ℕ) (xs : List X) (i : ℕ) (x y : X) → i < length xs → y ≡ get_or xs i y → f x < f y → sum_by f (set xs i x) < sum_by f xs
sum-less f xs i x y low at less =
    let k = sum_by-set f xs i x y low in
    let e : f (get_or xs i y) ≡ f y = ap f (sym at) in
    omega (arith, k, e, less)

-- an element that counts for nothing takes another's place
pub sum-nothing : {X : Type 0} (f : X → ℕ) (xs : List X) (i : ℕ) (x : X) → i < length xs → f x ≡ 0 → sum_by f (set xs i x) ≤ sum_by f xs
sum-nothing f xs i x low e = let k = sum_by-set f xs i x x low in omega (arith, k, e)
