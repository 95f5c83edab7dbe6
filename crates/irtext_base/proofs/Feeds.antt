-- That the two visits that feed a hasher write what a location is written as; and that the visit of sources finds whether all are known.
use Rattle.std.proofs.Common.{◌≡◌, ◌∙◌, ap, sym, refl, Bool, ◌&&◌, ℕ, List, fold}
use Rattle.std.proofs.lemmas.List.Sums.{fold-append}
use Rattle.std.specs.Prelude.{pos}
use Rattle.std.specs.Hash as fed
use Rattle.std.specs.Hash.{HashWrites}
use Rattle.irtext_base.specs.declared.location.files.Among.{Among}
use Rattle.irtext_base.specs.Locations.{LocationView, LocationViews, src_pos, fused, named, call_site, unknown, no_location, location}
use Rattle.irtext_base.specs.Paths.{are_known, row_known}
use Rattle.irtext_base.specs.SameLocations.{fed_view, fed_rows}
use Rattle.irtext_base.specs.Seen.{more_among}
use Rattle.irtext_base.specs.StableHash.{attr_writes, metadata_writes, location_writes, row_writes, row_len}
use Rattle.irtext_base.specs.Feeds.{feeding, hashing}
use Rattle.irtext_base.specs.Visits.{visited, row_visited, of_sources}
use Rattle.irtext_base.proofs.RowEnds.{with_true, and_same}
use Rattle.irtext_base.proofs.Visits.{in_two, in_three, apart, written_visited}

module _ {S A : Type 0} (write : S → List ℕ → S) (feeds : A → HashWrites) where
  pub all_fed : (s : S) (l : LocationView A) → visited (feeding write feeds) s l ≡ fold write s (fed_view feeds l)
  all_fed =
      let whole = fed_view feeds in
      let row = fed_rows feeds in
      written_visited write (feeding write feeds) whole row (λ s src at. refl)
      (λ s m ls. in_three write s (fed.isize (pos 1)) (fed.option (attr_writes feeds) m) (fed.usize (row_len ls)) (row ls))
      (λ s name l. in_two write s (fed.isize (pos 2)) (fed.str name) (whole l))
      (λ s k l. apart write s (fed.isize (pos 3)) (whole k) (whole l)) (λ s. refl) (λ s. refl) (λ s l ls. sym (fold-append write s (whole l) (row ls)))

  pub all_hashed : (paths : List (List ℕ)) (s : S) (l : LocationView A) → visited (hashing write feeds paths) s l ≡ fold write s (location_writes feeds paths l)
  all_hashed paths =
      let whole = location_writes feeds paths in
      let row = row_writes feeds paths in
      written_visited write (hashing write feeds paths) whole row (λ s src at. refl)
      (λ s m ls. in_three write s (fed.u8 1) (metadata_writes feeds m) (fed.u64 (row_len ls)) (row ls))
      (λ s name l. in_two write s (fed.u8 2) (fed.str name) (whole l))
      (λ s k l. apart write s (fed.u8 3) (whole k) (whole l)) (λ s. refl) (λ s. refl) (λ s l ls. sym (fold-append write s (whole l) (row ls)))

abbrev among : ℕ → Bool → Among
among count all = record { count = count; all = all }

module _ {A : Type 0} (count : ℕ) where
  mutual
    -- whether all sources are known once those of a location are looked at
    pub all_among : (b : Bool) (l : LocationView A) → visited (of_sources more_among) (among count b) l ≡ among count (b && are_known count l)
    all_among b (src_pos src at) = refl
    all_among b (fused m ls) = row_among b ls
    all_among b (named name child) = all_among b child
    all_among b (call_site k l) =
        ap (λ z. visited (of_sources more_among) z l) (all_among b k)
        ∙ (all_among (b && are_known count k) l ∙ ap (among count) (sym (and_same b (are_known count k) (are_known count k && are_known count l) (are_known count l) refl)))
    all_among b unknown = ap (among count) (sym (with_true b))

    row_among : (b : Bool) (ls : LocationViews A) → row_visited (of_sources more_among) (among count b) ls ≡ among count (b && row_known count ls)
    row_among b no_location = ap (among count) (sym (with_true b))
    row_among b (location l ls) =
        ap (λ z. row_visited (of_sources more_among) z ls) (all_among b l)
        ∙ (row_among (b && are_known count l) ls ∙ ap (among count) (sym (and_same b (are_known count l) (are_known count l && row_known count ls) (row_known count ls) refl)))
