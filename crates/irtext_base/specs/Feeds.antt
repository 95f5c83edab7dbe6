-- The visits that feed a location to a hasher: by its `Hash`, and by its stable hash, which is the same in any context.
use Rattle.std.specs.Prelude.{ℕ, List, ◌++◌, fold, pos}
use Rattle.std.specs.Hash as fed
use Rattle.std.specs.Hash.{HashWrites}
use Rattle.irtext_base.specs.SameLocations.{fed_source}
use Rattle.irtext_base.specs.StableHash.{source_writes, position_writes, attr_writes, metadata_writes}
use Rattle.irtext_base.specs.Visits.{Visit}

-- the visit that feeds a hasher what the `Hash` of a location does, where a caller's attribute feeds `feeds`
abbrev pub feeding : {S A : Type 0} → (S → List ℕ → S) → (A → HashWrites) → Visit S A
feeding write feeds = record {
  place = λ s src at. fold write s (fed.isize (pos 0) ++ (fed_source src ++ position_writes at));
  fused = λ s metadata count. fold write s (fed.isize (pos 1) ++ (fed.option (attr_writes feeds) metadata ++ fed.usize count));
  named = λ s name. fold write s (fed.isize (pos 2) ++ fed.str name);
  called = λ s. fold write s (fed.isize (pos 3));
  unknown = λ s. fold write s (fed.isize (pos 4));
}

-- the visit that feeds a hasher what the stable hash of a location does, with these paths
abbrev pub hashing : {S A : Type 0} → (S → List ℕ → S) → (A → HashWrites) → List (List ℕ) → Visit S A
hashing write feeds paths = record {
  place = λ s src at. fold write s (fed.u8 0 ++ (source_writes paths src ++ position_writes at));
  fused = λ s metadata count. fold write s (fed.u8 1 ++ (metadata_writes feeds metadata ++ fed.u64 count));
  named = λ s name. fold write s (fed.u8 2 ++ fed.str name);
  called = λ s. fold write s (fed.u8 3);
  unknown = λ s. fold write s (fed.u8 4);
}
