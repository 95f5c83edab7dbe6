-- That two rows are equal where all but their last locations are, and these; and rows of two lengths are not.
use Rattle.std.specs.Prelude.{◌==◌}
use Rattle.std.proofs.Common.{◌≡◌, ◌∙◌, ap, ap₂, sym, refl, arith, Bool, true, false, ◌&&◌, ℕ, suc, ◌<◌, ◌+◌, List, [], ◌∷◌, ◌++◌, length, map, drop, get_or, Box, Vec, Global, Option}
use Rattle.std.proofs.lemmas.Bool.Decides.{Decides-eqb}
use Rattle.std.specs.Option.{option_eq}
use Rattle.irtext_base.specs.declared.base.attributes.AttrObj.{AttrObj}
use Rattle.irtext_base.specs.declared.location.Location.{Location}
use Rattle.irtext_base.specs.declared.location.Location.TheVariants.{Fused}
use Rattle.irtext_base.specs.Locations.{location_view, in_row, attr_view_in}
use Rattle.irtext_base.specs.SameLocations.{same_attr, same_view, same_rows}
use Rattle.irtext_base.specs.SameLeft.{several}
use Rattle.irtext_base.proofs.LocationViews.{at-fused}
use Rattle.irtext_base.proofs.RowEnds.{first_left, with_true, and_same}

with_false : (b : Bool) → (b && false) ≡ false
with_false true = refl
with_false false = refl

not_true : (b : Bool) → (b ≡ true → ⊥) → b ≡ false
not_true true h = absurd (h refl)
not_true false h = refl

not_zero : (n : ℕ) → (suc n == 0) ≡ false
not_zero n = not_true (suc n == 0) (λ h. absurd (omega (arith, (Decides-eqb (suc n) 0).0 h)))

module _ {A : Type 0} (E : A → A → Bool) where
  abbrev rows : List (Location A) → List (Location A) → Bool
  rows ls ks = same_rows E (in_row (map location_view ls)) (in_row (map location_view ks))

  abbrev views : Location A → Location A → Bool
  views l k = same_view E (location_view l) (location_view k)

  rows_last : (ls ks : List (Location A)) (l k : Location A) → rows (ls ++ l ∷ []) (ks ++ k ∷ []) ≡ (rows ls ks && views l k)
  rows_last [] [] l k = with_true (views l k)
  rows_last [] (h ∷ []) l k = with_false (views l h)
  rows_last [] (h ∷ i ∷ ks) l k = with_false (views l h)
  rows_last (h ∷ []) [] l k = with_false (views h k)
  rows_last (h ∷ i ∷ ls) [] l k = with_false (views h k)
  rows_last (h ∷ ls) (i ∷ ks) l k = and_same (views h i) (rows ls ks) (rows (ls ++ l ∷ []) (ks ++ k ∷ [])) (views l k) (rows_last ls ks l k)

  pub none_same : (ls ks : List (Location A)) → length ls ≡ 0 → rows ls ks ≡ (length ks == 0)
  none_same [] [] h = refl
  none_same [] (k ∷ ks) h = sym (not_zero (length ks))
  none_same (l ∷ ls) ks h = absurd (omega (arith, h))

  some_not_same : (others ks : List (Location A)) (l : Location A) → length ks ≡ 0 → rows (others ++ l ∷ []) ks ≡ false
  some_not_same [] [] l h = refl
  some_not_same (o ∷ others) [] l h = refl
  some_not_same others (k ∷ ks) l h = absurd (omega (arith, h))

  -- two rows that are taken apart, each into its last location and the others
  pub ends_same : (ls ks others front : List (Location A)) (last end : Location A) → ls ≡ others ++ last ∷ [] → ks ≡ front ++ end ∷ [] → rows ls ks ≡ (rows others front && views last end)
  ends_same ls ks others front last end h g = ap₂ rows h g ∙ rows_last others front last end

  -- a row that is taken apart, and one that is empty
  pub none_left : (ls ks others : List (Location A)) (last : Location A) → ls ≡ others ++ last ∷ [] → length ks ≡ 0 → rows ls ks ≡ false
  none_left ls ks others last h e = ap (λ all. rows all ks) h ∙ some_not_same others ks last e

  pub lengths_differ : (ls ks : List (Location A)) → (length ls ≡ length ks → ⊥) → rows ls ks ≡ false
  lengths_differ [] [] h = absurd (h refl)
  lengths_differ [] (k ∷ ks) h = refl
  lengths_differ (l ∷ ls) [] h = refl
  lengths_differ (l ∷ ls) (k ∷ ks) h = ap (λ b. views l k && b) (lengths_differ ls ks (λ e. h (omega (arith, e)))) ∙ with_false (views l k)

  -- two rows from their items of the same number on
  pub rows_next : (ls ks : List (Location A)) (i : ℕ) (l k : Location A) → i < length ls → i < length ks → l ≡ get_or ls i l → k ≡ get_or ks i k → rows (drop i ls) (drop i ks) ≡ (views l k && rows (drop (i + 1) ls) (drop (i + 1) ks))
  rows_next ls ks i l k h g d e = ap₂ (same_rows E) (first_left ls i l h d) (first_left ks i k g e)

  -- the same where it was looked whether the first of each are equal, and all that are looked at so far decide nothing
  pub rows_on : (ls ks : List (Location A)) (i : ℕ) (l k : Location A) (looked alike : Bool) → i < length ls → i < length ks → l ≡ get_or ls i l → k ≡ get_or ks i k → looked ≡ views l k → looked ≡ alike
      → rows (drop i ls) (drop i ks) ≡ rows ls ks → (alike && rows (drop (i + 1) ls) (drop (i + 1) ks)) ≡ rows ls ks
  rows_on ls ks i l k looked alike h g d e by found before =
      ap (λ b. b && rows (drop (i + 1) ls) (drop (i + 1) ks)) (sym found ∙ by) ∙ (sym (rows_next ls ks i l k h g d e) ∙ before)

  -- several locations as one and several others, with equal metadata
  pub fused_same : (k : Location A) (n : Box (Option (AttrObj A)) Global) (some : Box (Vec (Location A) Global) Global) (ls ks : List (Location A)) (v w : Option (AttrObj A)) → k ≡ Fused n some → ks ≡ some.value.items → w ≡ n.value
      → option_eq (same_attr E) (attr_view_in v) (attr_view_in w) ≡ true → same_view E (several v ls) (location_view k) ≡ rows ls ks
  fused_same k n some ls ks v w it g e same =
      ap (same_view E (several v ls)) (at-fused k n some ks it g)
      ∙ ap (λ b. b && rows ls ks) (ap (λ y. option_eq (same_attr E) (attr_view_in v) (attr_view_in y)) (sym e) ∙ same)
