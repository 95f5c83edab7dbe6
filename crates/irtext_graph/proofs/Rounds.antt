-- The ancestor a given number of levels above an object: where the levels end.
use Rattle.std.proofs.Common.{◌≡◌, ◌<◌, ◌+◌, ◌∙◌, ℕ, zero, suc, refl, ap, arith, Option, Some, None}
use Rattle.irtext_graph.specs.Nested.{climb}

none_climbs : {X : Type 0} (up : X → Option X) (n : ℕ) → climb up n None ≡ None
none_climbs up zero = refl
none_climbs up (suc n) = refl

-- an object without a parent has no ancestors
pub ended : {X : Type 0} (up : X → Option X) (x : X) (n : ℕ) → up x ≡ None → 0 < n → climb up n (Some x) ≡ None
ended up x zero e l = absurd (omega (arith, l))
ended up x (suc n) e l = ap (climb up n) e ∙ none_climbs up n

-- one level further up
pub risen : {X : Type 0} (up : X → Option X) (x y : X) (n m : ℕ) → up x ≡ Some y → m ≡ n + 1 → climb up n (Some y) ≡ climb up m (Some x)
risen up x y n m e k =
    let s : m ≡ suc n = omega (arith, k) in
    rw s (rw e refl)
