-- Where a test finds something in a list, in terms of what is seen of each element.
use Rattle.std.proofs.Common.{◌≡◌, refl, Bool, not, List, [], ◌∷◌, length, map, position}
use Rattle.std.specs.List.{prefix_len}

module _ {X Y : Type 0} (see : X → Y) where
  prefix_len-seen : (p : Y → Bool) (xs : List X) → prefix_len p (map see xs) ≡ prefix_len (λ x. p (see x)) xs
  prefix_len-seen p [] = refl
  prefix_len-seen p (x ∷ xs) = rw (prefix_len-seen p xs) refl

  length-seen : (xs : List X) → length (map see xs) ≡ length xs
  length-seen [] = refl
  length-seen (x ∷ xs) = rw (length-seen xs) refl

  -- a test finds what is seen of a list where it finds it in the list
  pub position-seen : (p : Y → Bool) (xs : List X) → position p (map see xs) ≡ position (λ x. p (see x)) xs
  position-seen p xs = rw (prefix_len-seen (λ y. not (p y)) xs, length-seen xs) refl
