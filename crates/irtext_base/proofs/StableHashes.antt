-- How many locations are in a list that is seen; and that what is hashed depends on the texts of paths alone.
use Rattle.std.proofs.Common.{◌≡◌, ◌∙◌, ap, ap₂, sym, refl, ℕ, suc, true, Option, Some, None, List, [], ◌∷◌, ◌++◌, length, map, arith}
use Rattle.std.specs.Prelude.{slice_get}
use Rattle.std.specs.Hash as fed
use Rattle.std.specs.Hash.{HashWrites}
use Rattle.irtext_base.specs.declared.location.Location.{Location}
use Rattle.irtext_base.specs.declared.location.Source.{Source}
use Rattle.irtext_base.specs.declared.location.Source.TheVariants.{File, InMemory}
use Rattle.irtext_base.specs.Locations.{LocationsOf, LocationView, LocationViews, src_pos, fused, named, call_site, unknown, no_location, location, row_sourced, location_view, in_row}
use Rattle.irtext_base.specs.Paths.{Written, path_of, is_known, are_known, row_known, written_with}
use Rattle.irtext_base.specs.StableHash.{path_writes, source_writes, position_writes, metadata_writes, location_writes, row_writes, row_len}
use Rattle.irtext_base.proofs.Characters.{and_left, and_right}
use Rattle.irtext_base.proofs.PathKeys.{within}

pub row_len_seen : {A : Type 0} (ls : List (Location A)) → row_len (in_row (map location_view ls)) ≡ length ls
row_len_seen [] = refl
row_len_seen (l ∷ ls) = omega (arith, row_len_seen ls)

-- the writes for a source whose path is this
abbrev writes_of : Option (List ℕ) → HashWrites
writes_of None = fed.u8 1
writes_of (Some path) = fed.u8 0 ++ fed.str path

-- a known source is written as its path alone says
of_path : (paths : List (List ℕ)) (s : Source) → is_known (length paths) s ≡ true → source_writes paths s ≡ writes_of (path_of paths s)
of_path paths (File key) h = by (slice_get paths key.index) refl
  where
    by : (o : Option (List ℕ)) → slice_get paths key.index ≡ o → fed.u8 0 ++ path_writes o ≡ writes_of o
    by None e = absurd (within paths key.index e h)
    by (Some path) e = refl
of_path paths InMemory h = refl

pub sources_agree : (paths others : List (List ℕ)) (s t : Source) → is_known (length paths) s ≡ true → is_known (length others) t ≡ true → path_of paths s ≡ path_of others t → source_writes paths s ≡ source_writes others t
sources_agree paths others s t h k e = of_path paths s h ∙ (ap writes_of e ∙ sym (of_path others t k))

module _ {A : Type 0} (feeds : A → HashWrites) where
  abbrev count : {S : Type 0} → LocationsOf S A → ℕ
  count no_location = 0
  count (location l ls) = suc (count ls)

  abbrev mutual
    -- the writes for a location whose text is this
    text_writes : Written A → HashWrites
    text_writes (src_pos src at) = fed.u8 0 ++ (writes_of src ++ position_writes at)
    text_writes (fused metadata locations) = fed.u8 1 ++ (metadata_writes feeds metadata ++ (fed.u64 (count locations) ++ row_text_writes locations))
    text_writes (named name child) = fed.u8 2 ++ (fed.str name ++ text_writes child)
    text_writes (call_site callee caller) = fed.u8 3 ++ (text_writes callee ++ text_writes caller)
    text_writes unknown = fed.u8 4

    row_text_writes : LocationsOf (Option (List ℕ)) A → HashWrites
    row_text_writes no_location = []
    row_text_writes (location l ls) = text_writes l ++ row_text_writes ls

  same_count : (paths : List (List ℕ)) (ls : LocationViews A) → row_len ls ≡ count (row_sourced (path_of paths) ls)
  same_count paths no_location = refl
  same_count paths (location l ls) = ap suc (same_count paths ls)

  mutual
    -- a location whose files are known is written as its text alone says
    of_text : (paths : List (List ℕ)) (l : LocationView A) → are_known (length paths) l ≡ true → location_writes feeds paths l ≡ text_writes (written_with paths l)
    of_text paths (src_pos src pos) h = ap (λ w. fed.u8 0 ++ (w ++ position_writes pos)) (of_path paths src h)
    of_text paths (fused metadata locations) h =
        ap₂ (λ n w. fed.u8 1 ++ (metadata_writes feeds metadata ++ (fed.u64 n ++ w))) (same_count paths locations) (of_row_text paths locations h)
    of_text paths (named name child) h = ap (λ w. fed.u8 2 ++ (fed.str name ++ w)) (of_text paths child h)
    of_text paths (call_site callee caller) h =
        let both = are_known (length paths) callee in
        ap₂ (λ v w. fed.u8 3 ++ (v ++ w)) (of_text paths callee (and_left both (are_known (length paths) caller) h)) (of_text paths caller (and_right both (are_known (length paths) caller) h))
    of_text paths unknown h = refl

    of_row_text : (paths : List (List ℕ)) (ls : LocationViews A) → row_known (length paths) ls ≡ true → row_writes feeds paths ls ≡ row_text_writes (row_sourced (path_of paths) ls)
    of_row_text paths no_location h = refl
    of_row_text paths (location l ls) h =
        let first = are_known (length paths) l in
        ap₂ (λ v w. v ++ w) (of_text paths l (and_left first (row_known (length paths) ls) h)) (of_row_text paths ls (and_right first (row_known (length paths) ls) h))

  pub locations_agree : (paths others : List (List ℕ)) (k l : LocationView A) → are_known (length paths) k ≡ true → are_known (length others) l ≡ true → written_with paths k ≡ written_with others l → location_writes feeds paths k ≡ location_writes feeds others l
  locations_agree paths others k l h i e = of_text paths k h ∙ (ap text_writes e ∙ sym (of_text others l i))
