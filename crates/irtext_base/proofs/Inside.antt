-- That what is nested in a location weighs less than the location.
use Rattle.std.proofs.Common.{◌≡◌, ◌∙◌, ℕ, zero, suc, ◌+◌, ◌<◌, List, [], ◌∷◌, ◌++◌, length, get_or, Box, Vec, Global, Option, ap, arith}
use Rattle.irtext_base.specs.declared.base.attributes.AttrObj.{AttrObj}
use Rattle.irtext_base.specs.declared.location.Location.{Location}
use Rattle.irtext_base.specs.declared.location.Location.TheVariants.{Fused}
use Rattle.irtext_base.specs.Weights.{weight, weight_of, weight_all}
use Rattle.irtext_base.proofs.LocationViews.{at-fused}
use Rattle.irtext_base.proofs.Released.{weight_pushed}

module _ {A : Type 0} where
  -- of several locations, the last and all before it
  pub fused_weight : (l : Location A) (m : Box (Option (AttrObj A)) Global) (ls : Box (Vec (Location A) Global) Global) (items others : List (Location A)) (last : Location A) → l ≡ Fused m ls → items ≡ ls.value.items → items ≡ others ++ last ∷ [] → weight_of l ≡ 2 + (weight_all others + weight_of last)
  fused_weight l m ls items others last e h k =
      omega (arith, ap weight (at-fused l m ls items e h), ap weight_all k, weight_pushed others last)

  -- one of several
  pub item_weight : (ls : List (Location A)) (i : ℕ) (l : Location A) → i < length ls → l ≡ get_or ls i l → weight_of l < weight_all ls
  item_weight [] i l h e = absurd (omega (arith, h))
  item_weight (k ∷ ls) zero l h e = omega (arith, ap weight_of e)
  item_weight (k ∷ ls) (suc i) l h e = omega (arith, item_weight ls i l (omega (arith, h)) e)

  -- a row that is taken apart into its last location and the others
  pub row_weight : (ls others : List (Location A)) (last : Location A) → ls ≡ others ++ last ∷ [] → weight_all ls ≡ weight_all others + (1 + weight_of last)
  row_weight ls others last h = ap weight_all h ∙ weight_pushed others last
