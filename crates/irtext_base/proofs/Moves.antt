-- A location in another context says the same text, and what paths were kept on the way can be taken back.
use Rattle.std.proofs.Common.{◌≡◌, ◌∙◌, ap, ap₂, refl, sym, ℕ, Bool, Option, Some, None, List, [], ◌∷◌, ◌++◌, length, take, position, append_assoc, true, false, ◌&&◌, ◌≢◌, fold}
use Rattle.std.proofs.Math.Seq.{take-append_seam}
use Rattle.std.specs.Prelude.{slice_get}
use Rattle.std.specs.Str.{bytes_eq}
use Rattle.irtext_base.specs.Locations.{LocationsOf, LocationView, LocationViews, src_pos, fused, named, call_site, unknown, location, no_location, location_view, row_sourced}
use Rattle.irtext_interner.specs.Interned.{found_or_last}
use Rattle.irtext_base.specs.Paths.{KeepsPaths, Written, path_of, path_index, with_path, is_known, are_known, row_known, written_with}
use Rattle.irtext_base.specs.Walks.{taken, row_taken, made, joined, Reached, moving}
use Rattle.irtext_base.specs.Moves.{path_kept, all_kept, row_kept, all_under, row_under, is_free, KeepsMore}
use Rattle.irtext_base.specs.declared.location.Location.{Location}
use Rattle.irtext_base.specs.declared.location.Location.TheVariants.{SrcPos}
use Rattle.irtext_base.specs.declared.location.Source.{Source}
use Rattle.irtext_base.specs.declared.location.Source.TheVariants.{File, InMemory}
use Rattle.irtext_stream.specs.declared.position.SourcePosition.{SourcePosition}
use Rattle.irtext_base.proofs.LocationViews.{seen-src_pos}
use Rattle.irtext_base.proofs.PathKeys.{within, path_found, path_known, paths_stay, stays_known, written_same, both_true}

path_keeps : (paths : List (List ℕ)) (o : Option (List ℕ)) → KeepsPaths paths (path_kept paths o)
path_keeps paths None = λ i p h. h
path_keeps paths (Some path) = paths_stay paths path

mutual
  -- each path stays under its key as those of a location are kept
  pub all_keep : {A : Type 0} (paths : List (List ℕ)) (l : Written A) → KeepsPaths paths (all_kept paths l)
  all_keep paths (src_pos src pos) = path_keeps paths src
  all_keep paths (fused metadata locations) = row_keep paths locations
  all_keep paths (named name child) = all_keep paths child
  all_keep paths (call_site callee caller) = λ i p h. all_keep (all_kept paths callee) caller i p (all_keep paths callee i p h)
  all_keep paths unknown = λ i p h. h

  pub row_keep : {A : Type 0} (paths : List (List ℕ)) (ls : LocationsOf (Option (List ℕ)) A) → KeepsPaths paths (row_kept paths ls)
  row_keep paths no_location = λ i p h. h
  row_keep paths (location l ls) = λ i p h. row_keep (all_kept paths l) ls i p (all_keep paths l i p h)

-- a location has known sources while other paths are kept, and so have the others
both_known : {A : Type 0} (before after : List (List ℕ)) → KeepsPaths before after → (l : LocationView A) {others : Bool} → are_known (length before) l ≡ true → others ≡ true → (are_known (length after) l && others) ≡ true
both_known before after keeps l known others = both_true _ _ (stays_known before after keeps l known) others

mutual
  -- the location that a text says has known sources once its paths are kept
  pub under_known : {A : Type 0} (paths : List (List ℕ)) (l : Written A) → are_known (length (all_kept paths l)) (all_under paths l) ≡ true
  under_known paths (src_pos None pos) = refl
  under_known paths (src_pos (Some path) pos) = path_known paths (with_path paths path) path (record { index = path_index paths path }) refl refl
  under_known paths (fused metadata locations) = row_under_known paths locations
  under_known paths (named name child) = under_known paths child
  under_known paths (call_site callee caller) =
      let before = all_kept paths callee in
      both_known before (all_kept before caller) (all_keep before caller) (all_under paths callee) (under_known paths callee) (under_known before caller)
  under_known paths unknown = refl

  pub row_under_known : {A : Type 0} (paths : List (List ℕ)) (ls : LocationsOf (Option (List ℕ)) A) → row_known (length (row_kept paths ls)) (row_under paths ls) ≡ true
  row_under_known paths no_location = refl
  row_under_known paths (location l ls) =
      let before = all_kept paths l in
      both_known before (row_kept before ls) (row_keep before ls) (all_under paths l) (under_known paths l) (row_under_known before ls)

mutual
  -- the location that a text says has this text
  pub under_written : {A : Type 0} (paths : List (List ℕ)) (l : Written A) → written_with (all_kept paths l) (all_under paths l) ≡ l
  under_written paths unknown = refl
  under_written paths (src_pos None pos) = refl
  under_written paths (src_pos (Some path) pos) = ap (λ s. src_pos s pos) (path_found paths (with_path paths path) path (record { index = path_index paths path }) refl refl)
  under_written paths (fused metadata locations) = ap (fused metadata) (row_under_written paths locations)
  under_written paths (named name child) = ap (named name) (under_written paths child)
  under_written paths (call_site callee caller) =
      let before = all_kept paths callee in
      ap₂ call_site
      (written_same before (all_kept before caller) (all_keep before caller) (all_under paths callee) (under_known paths callee) ∙ under_written paths callee)
      (under_written before caller)

  pub row_under_written : {A : Type 0} (paths : List (List ℕ)) (ls : LocationsOf (Option (List ℕ)) A) → row_sourced (path_of (row_kept paths ls)) (row_under paths ls) ≡ ls
  row_under_written paths no_location = refl
  row_under_written paths (location l ls) =
      let before = all_kept paths l in
      ap₂ location
      (written_same before (row_kept before ls) (row_keep before ls) (all_under paths l) (under_known paths l) ∙ under_written paths l)
      (row_under_written before ls)

append-none : (xs : List (List ℕ)) → xs ++ [] ≡ xs
append-none [] = refl
append-none (x ∷ xs) = ap (λ ys. x ∷ ys) (append-none xs)

-- no path was added
pub keeps_none : (paths : List (List ℕ)) → KeepsMore paths paths
keeps_none paths = record { more = []; with_more = sym (append-none paths) }

-- the path of one source was added, if it has one that is new
pub keeps_path : {old new : List (List ℕ)} (o : Option (List ℕ)) → new ≡ path_kept old o → KeepsMore old new
keeps_path {old} None e = rw e (keeps_none old)
keeps_path {old} (Some path) e = rw e (by (position (bytes_eq path) old))
  where
    by : (found : Option ℕ) → KeepsMore old (found_or_last found old path)
    by (Some i) = keeps_none old
    by None = record { more = path ∷ []; with_more = refl }

-- paths were added, and then more
pub keeps_again : {a b c : List (List ℕ)} → KeepsMore a b → KeepsMore b c → KeepsMore a c
keeps_again {a} {b} {c} h k = record {
  more = h.more ++ k.more;
  with_more = k.with_more ∙ (ap (λ paths. paths ++ k.more) h.with_more ∙ append_assoc a h.more k.more);
}

-- the first of the paths are those that were kept before
pub taken_back : {old new : List (List ℕ)} → KeepsMore old new → take (length old) new ≡ old
taken_back {old} h = rw h.with_more (take-append_seam old h.more)

-- each source on the way kept a path more, or none
pub reached_keeps : (from old new : List (List ℕ)) → Reached (moving from) old new → KeepsMore old new
reached_keeps from old new h = rw h.by_sources (by h.sources old)
  where
    by : (sources : List Source) (paths : List (List ℕ)) → KeepsMore paths (fold (moving from).after paths sources)
    by [] paths = keeps_none paths
    by (s ∷ sources) paths = keeps_again (keeps_path (path_of from s) refl) (by sources (path_kept paths (path_of from s)))

mutual
  -- a location whose sources move is the location over the other paths
  pub moving_taken : {A : Type 0} (from paths : List (List ℕ)) (l : LocationView A)
      → taken (moving from) paths l ≡ record { known = are_known (length from) l; value = all_under paths (written_with from l); after = all_kept paths (written_with from l) }
  moving_taken from paths (src_pos src pos) = refl
  moving_taken from paths (fused metadata locations) = ap (made (fused metadata)) (moving_row_taken from paths locations)
  moving_taken from paths (named name child) = ap (made (named name)) (moving_taken from paths child)
  moving_taken from paths (call_site callee caller) =
      ap (λ t. joined call_site t (λ u. taken (moving from) u caller)) (moving_taken from paths callee)
      ∙ ap (λ t. record { known = are_known (length from) callee && t.known; value = call_site (all_under paths (written_with from callee)) t.value; after = t.after })
      (moving_taken from (all_kept paths (written_with from callee)) caller)
  moving_taken from paths unknown = refl

  pub moving_row_taken : {A : Type 0} (from paths : List (List ℕ)) (ls : LocationViews A)
      → row_taken (moving from) paths ls ≡ record { known = row_known (length from) ls; value = row_under paths (row_sourced (path_of from) ls); after = row_kept paths (row_sourced (path_of from) ls) }
  moving_row_taken from paths no_location = refl
  moving_row_taken from paths (location l ls) =
      ap (λ t. joined location t (λ u. row_taken (moving from) u ls)) (moving_taken from paths l)
      ∙ ap (λ t. record { known = are_known (length from) l && t.known; value = location (all_under paths (written_with from l)) t.value; after = t.after })
      (moving_row_taken from (all_kept paths (written_with from l)) ls)

-- a known file has a path that is kept
file_is_kept : (A : Type 0) (from : List (List ℕ)) (src : Source) (pos : SourcePosition) → is_known (length from) src ≡ true → src ≢ InMemory → is_free {A = A} (src_pos (path_of from src) pos) ≡ false
file_is_kept A from InMemory pos h outside = absurd (outside refl)
file_is_kept A from (File key) pos h _ = by (slice_get from key.index) refl
  where
    by : (o : Option (List ℕ)) → slice_get from key.index ≡ o → is_free {A = A} (src_pos o pos) ≡ false
    by None e = absurd (within from key.index e h)
    by (Some path) e = refl

module _ {A : Type 0} (from paths : List (List ℕ)) (l : Location A) where
  -- the same of a location that is a place of it
  pub place_is_kept : (src : Source) (pos : SourcePosition) → l ≡ SrcPos src pos → are_known (length from) (location_view l) ≡ true → src ≢ InMemory → is_free (written_with from (location_view l)) ≡ false
  place_is_kept src pos e h outside =
      let look : location_view l ≡ src_pos src pos = ap location_view e ∙ seen-src_pos src pos in
      ap (λ v. is_free (written_with from v)) look ∙ file_is_kept A from src pos (sym (ap (are_known (length from)) look) ∙ h) outside
