-- What a visit makes of a state: of a list the last is visited after the others; a visit that writes at each location writes all of it.
use Rattle.std.proofs.Common.{◌≡◌, ◌∙◌, ◌+◌, ◌<◌, ap, ap₂, sym, refl, arith, ℕ, zero, suc, get_or, drop, List, [], ◌∷◌, ◌++◌, map, fold, length, Box, Vec, Global, Option}
use Rattle.std.proofs.lemmas.List.Sums.{fold-append}
use Rattle.std.specs.Hash.{HashWrites}
use Rattle.irtext_base.specs.declared.base.attributes.AttrObj.{AttrObj}
use Rattle.irtext_base.specs.declared.location.Location.{Location}
use Rattle.irtext_base.specs.declared.location.Location.TheVariants.{Fused, CallSite}
use Rattle.irtext_base.specs.declared.location.Source.{Source}
use Rattle.irtext_stream.specs.declared.position.SourcePosition.{SourcePosition}
use Rattle.irtext_base.specs.Text.{Text}
use Rattle.irtext_base.specs.Locations.{AttrView, LocationView, LocationViews, src_pos, fused, named, call_site, unknown, no_location, location, location_view, in_row, attr_view_in}
use Rattle.irtext_base.specs.StableHash.{row_len}
use Rattle.irtext_base.specs.Visits.{Visit, visited, row_visited}
use Rattle.irtext_base.proofs.LocationViews.{at-fused, at-call_site}
use Rattle.irtext_base.proofs.StableHashes.{row_len_seen}

module _ {S A : Type 0} (v : Visit S A) where
  row_last : (s : S) (ls : List (Location A)) (l : Location A) → row_visited v s (in_row (map location_view (ls ++ l ∷ []))) ≡ visited v (row_visited v s (in_row (map location_view ls))) (location_view l)
  row_last s [] l = refl
  row_last s (k ∷ ls) l = row_last (visited v s (location_view k)) ls l

  -- the visit of several locations, and then of all but the last, leaves that of the last
  pub fused_visited : (l : Location A) (m : Box (Option (AttrObj A)) Global) (ls : Box (Vec (Location A) Global) Global) (items others : List (Location A)) (last : Location A) (inside : Option (AttrObj A)) (n : ℕ) (s head mid : S)
      → l ≡ Fused m ls → items ≡ ls.value.items → items ≡ others ++ last ∷ [] → inside ≡ m.value → n ≡ length items
      → head ≡ v.fused s (attr_view_in inside) n → mid ≡ row_visited v head (in_row (map location_view others))
      → visited v mid (location_view last) ≡ visited v s (location_view l)
  fused_visited l m ls items others last inside n s head mid is all parts about counted h k =
      let row = λ (ks : List (Location A)). in_row (map location_view ks) in
      ap (λ z. visited v z (location_view last)) k
      ∙ (sym (row_last head others last)
      ∙ (ap (λ ks. row_visited v head (row ks)) (sym parts)
      ∙ (ap (λ z. row_visited v z (row items)) (h ∙ ap₂ (λ i c. v.fused s (attr_view_in i) c) about (counted ∙ sym (row_len_seen items)))
      ∙ sym (ap (visited v s) (at-fused l m ls items is all)))))

  none_left : (s : S) (about : Option (AttrView A)) (ks : List (Location A)) → length ks ≡ 0 → v.fused s about (length ks) ≡ row_visited v (v.fused s about (row_len (in_row (map location_view ks)))) (in_row (map location_view ks))
  none_left s about [] h = refl
  none_left s about (k ∷ ks) h = absurd (omega (arith, h))

  -- the visit of no locations as one
  pub none_visited : (l : Location A) (m : Box (Option (AttrObj A)) Global) (ls : Box (Vec (Location A) Global) Global) (items : List (Location A)) (inside : Option (AttrObj A)) (n : ℕ) (s head : S)
      → l ≡ Fused m ls → items ≡ ls.value.items → length items ≡ 0 → inside ≡ m.value → n ≡ length items → head ≡ v.fused s (attr_view_in inside) n → head ≡ visited v s (location_view l)
  none_visited l m ls items inside n s head is all none about counted h =
      h ∙ (ap₂ (λ i c. v.fused s (attr_view_in i) c) about counted ∙ (none_left s (attr_view_in m.value) items none ∙ sym (ap (visited v s) (at-fused l m ls items is all))))

  -- in a row, one more is visited
  pub row_on : (ls : List (Location A)) (i : ℕ) (l : Location A) (s mid : S) → i < length ls → l ≡ get_or ls i l → mid ≡ visited v s (location_view l)
      → row_visited v mid (in_row (map location_view (drop (i + 1) ls))) ≡ row_visited v s (in_row (map location_view (drop i ls)))
  row_on [] i l s mid h e m = absurd (omega (arith, h))
  row_on (k ∷ ls) zero l s mid h e m = ap (λ z. row_visited v z (in_row (map location_view ls))) (m ∙ ap (λ j. visited v s (location_view j)) e)
  row_on (k ∷ ls) (suc i) l s mid h e m =
      let one : suc i + 1 ≡ suc (i + 1) = omega arith in
      ap (λ n. row_visited v mid (in_row (map location_view (drop n (k ∷ ls))))) one ∙ row_on ls i l s mid (omega (arith, h)) e m

  -- the visit of a callee leaves that of its caller
  pub call_site_visited : (l : Location A) (callee caller : Box (Location A) Global) (a b : Location A) (s head mid : S) → l ≡ CallSite callee caller → a ≡ callee.value → b ≡ caller.value
      → head ≡ v.called s → mid ≡ visited v head (location_view a) → visited v mid (location_view b) ≡ visited v s (location_view l)
  call_site_visited l callee caller a b s head mid is p q h k =
      ap (λ z. visited v z (location_view b)) (k ∙ ap (λ z. visited v z (location_view a)) h) ∙ sym (ap (visited v s) (at-call_site l callee caller a b is p q))

module _ {S : Type 0} (write : S → List ℕ → S) where
  -- what is written in two turns, or in three
  pub in_two : (s : S) (a b c : HashWrites) → fold write (fold write s (a ++ b)) c ≡ fold write s (a ++ (b ++ c))
  in_two s a b c = ap (λ z. fold write z c) (fold-append write s a b) ∙ sym (fold-append write s a (b ++ c) ∙ fold-append write (fold write s a) b c)

  pub apart : (s : S) (a b c : HashWrites) → fold write (fold write (fold write s a) b) c ≡ fold write s (a ++ (b ++ c))
  apart s a b c = sym (fold-append write s a (b ++ c) ∙ fold-append write (fold write s a) b c)

  pub in_three : (s : S) (a b c d : HashWrites) → fold write (fold write s (a ++ (b ++ c))) d ≡ fold write s (a ++ (b ++ (c ++ d)))
  in_three s a b c d = ap (λ z. fold write z d) (sym (apart s a b c)) ∙ sym (fold-append write s a (b ++ (c ++ d)) ∙ (fold-append write (fold write s a) b (c ++ d) ∙ fold-append write (fold write (fold write s a) b) c d))

  module _ {A : Type 0} (v : Visit S A) (whole : LocationView A → HashWrites) (row : LocationViews A → HashWrites)
      (at_place : (s : S) (src : Source) (at : SourcePosition) → v.place s src at ≡ fold write s (whole (src_pos src at)))
      (at_fused : (s : S) (m : Option (AttrView A)) (ls : LocationViews A) → fold write (v.fused s m (row_len ls)) (row ls) ≡ fold write s (whole (fused m ls)))
      (at_named : (s : S) (name : Text) (child : LocationView A) → fold write (v.named s name) (whole child) ≡ fold write s (whole (named name child)))
      (at_called : (s : S) (a b : LocationView A) → fold write (fold write (v.called s) (whole a)) (whole b) ≡ fold write s (whole (call_site a b)))
      (at_unknown : (s : S) → v.unknown s ≡ fold write s (whole unknown))
      (at_none : (s : S) → s ≡ fold write s (row no_location))
      (at_more : (s : S) (l : LocationView A) (ls : LocationViews A) → fold write (fold write s (whole l)) (row ls) ≡ fold write s (row (location l ls))) where
    mutual
      -- a visit that writes at each location what is written of the location before those nested in it
      pub written_visited : (s : S) (l : LocationView A) → visited v s l ≡ fold write s (whole l)
      written_visited s (src_pos src at) = at_place s src at
      written_visited s (fused m ls) = row_written (v.fused s m (row_len ls)) ls ∙ at_fused s m ls
      written_visited s (named name child) = written_visited (v.named s name) child ∙ at_named s name child
      written_visited s (call_site a b) =
          ap (λ z. visited v z b) (written_visited (v.called s) a) ∙ (written_visited (fold write (v.called s) (whole a)) b ∙ at_called s a b)
      written_visited s unknown = at_unknown s

      row_written : (s : S) (ls : LocationViews A) → row_visited v s ls ≡ fold write s (row ls)
      row_written s no_location = at_none s
      row_written s (location l ls) = ap (λ z. row_visited v z ls) (written_visited s l) ∙ (row_written (fold write s (whole l)) ls ∙ at_more s l ls)
