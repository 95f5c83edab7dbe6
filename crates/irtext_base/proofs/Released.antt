-- That each turn of the release of a location leaves less to be let go.
use Rattle.std.specs.Prelude.{◌==◌}
use Rattle.std.proofs.Common.{zero, suc, false, ◌≡◌, ℕ, ◌+◌, ◌<◌, List, [], ◌∷◌, ◌++◌, length, set, get_or, Box, Vec, Global, Option, arith, ap}
use Rattle.irtext_base.specs.declared.base.attributes.AttrObj.{AttrObj}
use Rattle.irtext_base.specs.declared.location.Location.{Location}
use Rattle.irtext_base.specs.declared.location.Location.TheVariants.{Fused}
use Rattle.irtext_base.specs.Weights.{waiting, weight_of, waiting_of, weight_all, waiting_all, left_of}
use Rattle.irtext_base.proofs.LocationViews.{seen-fused}

pub positive : (n : ℕ) → n == 0 ≡ false → 0 < n
positive zero h = cc
positive (suc n) h = omega arith

module _ {A : Type 0} where
  pub weight_pushed : (xs : List (Location A)) (x : Location A) → weight_all (xs ++ x ∷ []) ≡ weight_all xs + (1 + weight_of x)
  weight_pushed [] x = omega arith
  weight_pushed (y ∷ xs) x = omega (arith, weight_pushed xs x)

  waits_pushed : (xs : List (Location A)) (x : Location A) → 0 < length xs → waiting_all (xs ++ x ∷ []) ≡ waiting_all xs + (1 + weight_of x)
  waits_pushed [] x l = absurd (omega (arith, l))
  waits_pushed (y ∷ xs) x l = omega (arith, weight_pushed xs x)

  replaced : (xs : List (Location A)) (x r : Location A) → 0 < length xs → x ≡ get_or xs 0 x → weight_of x + (1 + waiting_all (set xs 0 r)) ≡ weight_all xs + waiting_of r
  replaced [] x r l e = absurd (omega (arith, l))
  replaced (y ∷ xs) x r l e = omega (arith, ap weight_of e)

  fused_waiting : (m : Box (Option (AttrObj A)) Global) (ls : Box (Vec (Location A) Global) Global) → waiting_of (Fused m ls) ≡ 1 + waiting_all ls.value.items
  fused_waiting m ls = ap waiting (seen-fused m ls)

  -- a turn that takes the last of what waits, and one that goes into the first of several
  pub last_less : (m : Box (Option (AttrObj A)) Global) (ls : Box (Vec (Location A) Global) Global) (items : List (Location A)) (x : Location A) → items ≡ ls.value.items ++ x ∷ [] → 0 < length ls.value.items → left_of x (Fused m ls) < 1 + waiting_all items
  last_less m ls items x e l = omega (arith, fused_waiting m ls, waits_pushed ls.value.items x l, ap waiting_all e)

  pub first_less : (m : Box (Option (AttrObj A)) Global) (ls : Box (Vec (Location A) Global) Global) (items : List (Location A)) (x r : Location A) → ls.value.items ≡ set items 0 r → x ≡ get_or items 0 x → 0 < length items → left_of x (Fused m ls) < 1 + weight_all items + waiting_of r
  first_less m ls items x r e g l = omega (arith, fused_waiting m ls, ap waiting_all e, replaced items x r l g)
