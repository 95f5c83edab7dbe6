-- What the stable hash of a location feeds a hasher: the same for the same location in any context, whatever the keys of its paths.
use Rattle.std.specs.Prelude.{ℕ, zero, suc, Option, Some, None, List, [], ◌++◌, pos, slice_get}
use Rattle.std.specs.Hash as fed
use Rattle.std.specs.Hash.{HashWrites}
use Rattle.irtext_base.specs.declared.location.Source.{Source}
use Rattle.irtext_base.specs.declared.location.Source.TheVariants.{File, InMemory}
pub use Rattle.irtext_stream.specs.Places.{position_writes}
use Rattle.irtext_base.specs.Locations.{AttrView, given_names, ident, own, LocationView, src_pos, fused, named, call_site, unknown, LocationViews, no_location, location}

-- what the text of a path feeds a hasher, if there is one
abbrev pub path_writes : Option (List ℕ) → HashWrites
path_writes None = []
path_writes (Some path) = fed.str path

-- what a source feeds a hasher, in a context with these paths: 0 and the path of a file, or 1
abbrev pub source_writes : List (List ℕ) → Source → HashWrites
source_writes paths (File key) = fed.u8 0 ++ path_writes (slice_get paths key.index)
source_writes paths InMemory = fed.u8 1

-- the number of locations in a row
abbrev pub row_len : {A : Type 0} → LocationViews A → ℕ
row_len no_location = zero
row_len (location l ls) = suc (row_len ls)

module _ {A : Type 0} (feeds : A → HashWrites) where
  -- what an attribute feeds a hasher, by its `Hash`
  abbrev pub attr_writes : AttrView A → HashWrites
  attr_writes (given_names names) = fed.isize (pos 0) ++ fed.slice (fed.option fed.str) names
  attr_writes (ident name) = fed.isize (pos 1) ++ fed.str name
  attr_writes (own a) = fed.isize (pos 2) ++ feeds a

  -- what metadata feeds a hasher: 0, or 1 and the attribute
  abbrev pub metadata_writes : Option (AttrView A) → HashWrites
  metadata_writes None = fed.u8 0
  metadata_writes (Some attr) = fed.u8 1 ++ attr_writes attr

  module _ (paths : List (List ℕ)) where
    abbrev mutual
      -- what a location feeds a hasher: the number of its variant, and then its parts in order
      pub location_writes : LocationView A → HashWrites
      location_writes (src_pos src at) = fed.u8 0 ++ (source_writes paths src ++ position_writes at)
      location_writes (fused metadata locations) = fed.u8 1 ++ (metadata_writes metadata ++ (fed.u64 (row_len locations) ++ row_writes locations))
      location_writes (named name child) = fed.u8 2 ++ (fed.str name ++ location_writes child)
      location_writes (call_site callee caller) = fed.u8 3 ++ (location_writes callee ++ location_writes caller)
      location_writes unknown = fed.u8 4

      -- what the locations of a row feed a hasher, one after the other
      pub row_writes : LocationViews A → HashWrites
      row_writes no_location = []
      row_writes (location l ls) = location_writes l ++ row_writes ls
