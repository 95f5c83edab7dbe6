-- The item before an index of a list, and the last item.
use Rattle.std.proofs.Common.{◌≡◌, ◌∙◌, ℕ, zero, suc, refl, ap, arith, List, [], ◌∷◌, Option, Some, None, length, map, slice_get}
use Rattle.std.specs.Option.{option_map}
use Rattle.std.specs.List.{last_or}
use Rattle.std.proofs.lemmas.Option.{slice_get-map}
use Rattle.irtext_walks.specs.Siblings.{item_before, last_item}

module _ {X : Type 0} where
  at_last : (x : X) (xs : List X) → slice_get (x ∷ xs) (length xs) ≡ last_or (Some x) xs
  at_last x [] = refl
  at_last x (y ∷ ys) = at_last y ys

  pub last_here : (xs : List X) (i : ℕ) → suc i ≡ length xs → slice_get xs i ≡ last_item xs
  last_here [] i e = absurd (omega (arith, e))
  last_here (x ∷ xs) i e =
      let n : i ≡ length xs = omega (arith, e) in
      ap (slice_get (x ∷ xs)) n ∙ at_last x xs

-- the same of the images of a list
module _ {X Y : Type 0} (f : X → Y) where
  pub before_mapped : (xs : List X) (i : ℕ) → item_before (map f xs) i ≡ option_map f (item_before xs i)
  before_mapped xs zero = refl
  before_mapped xs (suc i) = slice_get-map f xs i

  last_from : (o : Option X) (xs : List X) → last_or (option_map f o) (map f xs) ≡ option_map f (last_or o xs)
  last_from o [] = refl
  last_from o (x ∷ xs) = last_from (Some x) xs

  pub last_mapped : (xs : List X) → last_item (map f xs) ≡ option_map f (last_item xs)
  last_mapped xs = last_from None xs
