-- What a row of heads feeds a hasher.
use Rattle.std.proofs.Common.{◌≡◌, Bool, true, false, List, [], ◌∷◌, ◌++◌, refl, sym, ap₂, true≢false}
use Rattle.std.specs.Prelude.{◌&&◌}
use Rattle.std.specs.Cmp.Lexicographic.{pointwise}
use Rattle.std.specs.Hash.{HashWrites, Alike, slice, items_Alike}
use Rattle.irtext_base.proofs.Characters.{and_left, and_right}

-- the first head, and then the others as a slice
abbrev pub heads_fed : {H : Type 0} → (H → HashWrites) → List H → HashWrites
heads_fed feed [] = []
heads_fed feed (h ∷ hs) = feed h ++ slice feed hs

-- rows that are equal are fed alike
pub heads_alike : {H : Type 0} {E : H → H → Bool} {F : H → HashWrites} → Alike E F → Alike (pointwise E) (heads_fed F)
heads_alike {H} {E} {F} a = record { fed = by }
  where
    by : (x y : List H) → pointwise E x y ≡ true → heads_fed F x ≡ heads_fed F y
    by [] [] e = refl
    by [] (h ∷ hs) e = absurd (true≢false (sym e))
    by (g ∷ gs) [] e = absurd (true≢false (sym e))
    by (g ∷ gs) (h ∷ hs) e = ap₂ (λ s t. s ++ t) (a.fed g h (and_left (E g h) (pointwise E gs hs) e)) ((items_Alike a).fed gs hs (and_right (E g h) (pointwise E gs hs) e))
