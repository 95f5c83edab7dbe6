-- The sites of uses as they are stored.
use Rattle.std.specs.Prelude.{◌≡◌, ℕ, zero, suc, ◌<◌, ◌+◌, ◌*◌, ◌/◌, ◌%◌, Option, Some, None}
use Rattle.std.proofs.Common.{refl, ap, sym, arith}
use Rattle.irtext_graph.specs.declared.arena.Ptr.{Ptr}
use Rattle.irtext_graph.specs.declared.object.Operation.{Operation}
use Rattle.irtext_graph.specs.declared.object.Site.{Site}
use Rattle.irtext_graph.specs.declared.object.Site.TheVariants.{AtOperand, AtSuccessor}
use Rattle.irtext_graph.specs.declared.near.Near.TheInside.{Inside}

-- the operand at an index if the last number is 0, and otherwise the successor
abbrev pub of_side : Ptr Operation → ℕ → ℕ → Site
of_side p i zero = AtOperand p i
of_side p i (suc _) = AtSuccessor p i

-- the site with this number among the uses of an operation, and none for 0: operands have odd numbers, successors even ones
abbrev pub placed : Ptr Operation → ℕ → Option Site
placed p zero = None
placed p (suc k) = Some (of_side p (k / 2) (k % 2))

-- the index of the site is small enough
abbrev pub IsNear : Site → Type 0
IsNear (AtOperand _ i) = i < 2147483648
IsNear (AtSuccessor _ i) = i < 2147483647

-- the pointer that is stored for no site
abbrev pub nobody : Ptr Operation
nobody = record { index = 0; generation = 0; of = record {} }

-- no site is stored in one way
abbrev pub IsPlain : Inside → Type 0
IsPlain n = n.place ≡ 0 → n.user ≡ nobody

-- how a site is stored
abbrev pub stored : Option Site → Inside
stored None = record { user = nobody; place = 0 }
stored (Some (AtOperand p i)) = record { user = p; place = i * 2 + 1 }
stored (Some (AtSuccessor p i)) = record { user = p; place = i * 2 + 2 }

-- what is stored is the only way to store the site
pub stored_is : (n : Inside) → IsPlain n → stored (placed n.user n.place) ≡ n
stored_is n plain = by_place n.user n.place plain
  where
    by_side : (p : Ptr Operation) (k r : ℕ) → k % 2 ≡ r → stored (Some (of_side p (k / 2) r)) ≡ record { user = p; place = suc k }
    by_side p k zero e = ap (λ m. record { user = p; place = m }) (omega (arith, e))
    by_side p k (suc zero) e = ap (λ m. record { user = p; place = m }) (omega (arith, e))
    by_side p k (suc (suc r)) e = absurd (omega (arith, e))

    by_place : (p : Ptr Operation) (m : ℕ) → (m ≡ 0 → p ≡ nobody) → stored (placed p m) ≡ record { user = p; place = m }
    by_place p zero h = ap (λ q. record { user = q; place = 0 }) (sym (h refl))
    by_place p (suc k) h = by_side p k (k % 2) refl
