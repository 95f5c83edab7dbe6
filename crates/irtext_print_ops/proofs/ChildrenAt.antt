-- A list of objects of one kind, and what is at an index of it.
use Rattle.std.proofs.Common.{◌≡◌, ◌≤◌, ℕ, suc, List, [], ◌∷◌, None, length, map, slice_get, arith, ap, sym, refl}
use Rattle.std.proofs.lemmas.Option.{slice_get_past}

-- as many objects as things that they are made of
pub counted : {X Y : Type 0} (v : X → Y) (xs : List X) → length (map v xs) ≡ length xs
counted v [] = refl
counted v (x ∷ xs) = ap suc (counted v xs)

-- past the last there is none
pub past_last : {X Y : Type 0} (v : X → Y) (xs : List X) (n i : ℕ) → n ≡ length (map v xs) → n ≤ i → None ≡ slice_get xs i
past_last v xs n i e h = sym (slice_get_past xs i (omega (arith, e, h, counted v xs)))
