-- What is left of a list of locations from a place on; and conjunctions of truth values.
use Rattle.std.proofs.Common.{◌≡◌, ◌<◌, ◌+◌, ◌∙◌, ap, ap₂, sym, refl, suc, arith, Bool, true, false, ◌&&◌, ℕ, List, ◌∷◌, map, drop, length, get_or}
use Rattle.std.proofs.Math.Seq.{drop-cons}
use Rattle.irtext_base.specs.declared.location.Location.{Location}
use Rattle.irtext_base.specs.Locations.{location_view, location, in_row}

pub with_true : (b : Bool) → (b && true) ≡ b
with_true true = refl
with_true false = refl

pub and_same : (b c d e : Bool) → d ≡ (c && e) → (b && d) ≡ ((b && c) && e)
and_same true c d e h = h
and_same false c d e h = refl

-- what is left of a list from a place on is the location there, and what is left after it
pub first_left : {A : Type 0} (all : List (Location A)) (i : ℕ) (l : Location A) → i < length all → l ≡ get_or all i l
    → in_row (map location_view (drop i all)) ≡ location (location_view l) (in_row (map location_view (drop (i + 1) all)))
first_left all i l h e =
    let next : suc i ≡ i + 1 = omega arith in
    ap (λ k. in_row (map location_view k)) (drop-cons all i l h ∙ ap₂ (λ k n. k ∷ drop n all) (sym e) next)
