-- The file paths that a context keeps, each in bytes, and the locations whose files are among them.
use Rattle.std.specs.Prelude.{◌≡◌, ◌≤◌, ◌^◌, ◌⊎◌, ℕ, Bool, true, false, ◌&&◌, nat_lt, Option, Some, None, List, length, slice_get}
use Rattle.std.specs.List.{list_any}
use Rattle.std.specs.Str.{bytes_eq}
use Rattle.irtext_interner.specs.Interned.{number_of, with_text, KeepsTexts}
use Rattle.irtext_base.specs.declared.location.Source.{Source}
use Rattle.irtext_base.specs.declared.location.Source.TheVariants.{File, InMemory}
use Rattle.irtext_base.specs.Locations.{LocationOf, LocationView, sourced, src_pos, fused, named, call_site, unknown, LocationViews, no_location, location}

-- each path keeps its key
abbrev pub KeepsPaths : List (List ℕ) → List (List ℕ) → Type 0
KeepsPaths = KeepsTexts

-- the index that a path has or gets
abbrev pub path_index : List (List ℕ) → List ℕ → ℕ
path_index = number_of

-- the paths with one more, at the end if it is new
abbrev pub with_path : List (List ℕ) → List ℕ → List (List ℕ)
with_path = with_text

-- keeping the path may fail: it is not kept yet, or its index needs more than 32 bits
abbrev pub MayBeRefused : List (List ℕ) → List ℕ → Type 0
MayBeRefused paths path = (list_any (bytes_eq path) paths ≡ false) ⊎ (2 ^ 32 ≤ path_index paths path)

-- the path of a source, if it is a file whose path is kept
abbrev pub path_of : List (List ℕ) → Source → Option (List ℕ)
path_of paths (File key) = slice_get paths key.index
path_of paths InMemory = None

-- the source is in memory, or its key is below this number
abbrev pub is_known : ℕ → Source → Bool
is_known count (File key) = nat_lt key.index count
is_known count InMemory = true

abbrev mutual
  -- the same for each source that the location mentions
  pub are_known : {A : Type 0} → ℕ → LocationView A → Bool
  are_known count (src_pos src pos) = is_known count src
  are_known count (fused metadata locations) = row_known count locations
  are_known count (named name child) = are_known count child
  are_known count (call_site callee caller) = are_known count callee && are_known count caller
  are_known count unknown = true

  -- the same for each location of a row
  pub row_known : {A : Type 0} → ℕ → LocationViews A → Bool
  row_known count no_location = true
  row_known count (location l ls) = are_known count l && row_known count ls

-- a location whose files are given by the bytes of their paths; a source without a path is in memory
abbrev pub Written : Type 0 → Type 0
Written A = LocationOf (Option (List ℕ)) A

-- the location with the paths of its files in place of their keys, where these are the paths
abbrev pub written_with : {A : Type 0} → List (List ℕ) → LocationView A → Written A
written_with paths l = sourced (path_of paths) l
