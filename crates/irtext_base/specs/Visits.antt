-- Visits of locations: what is done to a state at a location, and then at those that are nested in it.
use Rattle.std.specs.Prelude.{ℕ, Option}
use Rattle.irtext_stream.specs.declared.position.SourcePosition.{SourcePosition}
use Rattle.irtext_base.specs.Text.{Text}
use Rattle.irtext_base.specs.declared.location.Source.{Source}
use Rattle.irtext_base.specs.Locations.{AttrView, LocationView, LocationViews, src_pos, fused, named, call_site, unknown, no_location, location}
use Rattle.irtext_base.specs.StableHash.{row_len}

-- what a visit does to a state S at a location of each kind; the locations nested in it are visited after it
pub record Visit (S A : Type 0) : Type 0 where
  -- at a position of a source
  pub place : S → Source → SourcePosition → S
  -- at this number of locations as one, with their metadata
  pub fused : S → Option (AttrView A) → ℕ → S
  -- at a name
  pub named : S → Text → S
  -- at a callee with its caller
  pub called : S → S
  -- at an unknown location
  pub unknown : S → S

abbrev mutual
  -- the state after the visit of a location
  pub visited : {S A : Type 0} → Visit S A → S → LocationView A → S
  visited v s (src_pos src pos) = v.place s src pos
  visited v s (fused metadata locations) = row_visited v (v.fused s metadata (row_len locations)) locations
  visited v s (named name child) = visited v (v.named s name) child
  visited v s (call_site callee caller) = visited v (visited v (v.called s) callee) caller
  visited v s unknown = v.unknown s

  -- the state after the visit of each location of a row
  pub row_visited : {S A : Type 0} → Visit S A → S → LocationViews A → S
  row_visited v s no_location = s
  row_visited v s (location l ls) = row_visited v (visited v s l) ls

-- the visit that looks only at sources
abbrev pub of_sources : {S A : Type 0} → (S → Source → S) → Visit S A
of_sources more = record { place = λ s src at. more s src; fused = λ s metadata count. s; named = λ s name. s; called = λ s. s; unknown = λ s. s }
