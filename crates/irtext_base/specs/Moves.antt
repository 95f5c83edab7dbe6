-- Sources and locations in another context: with the same texts of paths, under the keys that these have or get in that context.
use Rattle.std.specs.Prelude.{◌≡◌, ℕ, Bool, true, false, Option, Some, None, List, ◌++◌}
use Rattle.irtext_base.specs.declared.location.Source.{Source}
use Rattle.irtext_base.specs.declared.location.Source.TheVariants.{File, InMemory}
use Rattle.irtext_base.specs.Locations.{LocationView, LocationViews, LocationsOf, src_pos, fused, named, call_site, unknown, no_location, location}
use Rattle.irtext_base.specs.Paths.{Written, path_index, with_path}

-- the file with a path, under the key that the path has or gets among these paths; without a path the source is in memory
abbrev pub source_under : List (List ℕ) → Option (List ℕ) → Source
source_under paths None = InMemory
source_under paths (Some path) = File (record { index = path_index paths path })

-- the paths with that of a source added, if it has one and it is new
abbrev pub path_kept : List (List ℕ) → Option (List ℕ) → List (List ℕ)
path_kept paths None = paths
path_kept paths (Some path) = with_path paths path

abbrev mutual
  -- the paths with those of a location added that are new, in the order in which it mentions them
  pub all_kept : {A : Type 0} → List (List ℕ) → Written A → List (List ℕ)
  all_kept paths (src_pos src pos) = path_kept paths src
  all_kept paths (fused metadata locations) = row_kept paths locations
  all_kept paths (named name child) = all_kept paths child
  all_kept paths (call_site callee caller) = all_kept (all_kept paths callee) caller
  all_kept paths unknown = paths

  -- the same for each location of a row
  pub row_kept : {A : Type 0} → List (List ℕ) → LocationsOf (Option (List ℕ)) A → List (List ℕ)
  row_kept paths no_location = paths
  row_kept paths (location l ls) = row_kept (all_kept paths l) ls

abbrev mutual
  -- the location whose files are given by their paths, with its files under the keys that these have or get among these paths
  pub all_under : {A : Type 0} → List (List ℕ) → Written A → LocationView A
  all_under paths (src_pos src pos) = src_pos (source_under paths src) pos
  all_under paths (fused metadata locations) = fused metadata (row_under paths locations)
  all_under paths (named name child) = named name (all_under paths child)
  all_under paths (call_site callee caller) = call_site (all_under paths callee) (all_under (all_kept paths callee) caller)
  all_under paths unknown = unknown

  -- the same for each location of a row
  pub row_under : {A : Type 0} → List (List ℕ) → LocationsOf (Option (List ℕ)) A → LocationViews A
  row_under paths no_location = no_location
  row_under paths (location l ls) = location (all_under paths l) (row_under (all_kept paths l) ls)

-- no path and no allocation is needed for the location: it is a position in a text in memory, or unknown
abbrev pub is_free : {A : Type 0} → Written A → Bool
is_free (src_pos None pos) = true
is_free (src_pos (Some path) pos) = false
is_free (fused metadata locations) = false
is_free (named name child) = false
is_free (call_site callee caller) = false
is_free unknown = true

-- the old paths, and any number of paths after them
pub record KeepsMore (old new : List (List ℕ)) : Type 0 where
  pub more : List (List ℕ)
  pub with_more : new ≡ old ++ more
