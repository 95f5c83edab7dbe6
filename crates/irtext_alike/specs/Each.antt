-- Whether dialects know each operation alike that is registered with others.
use Rattle.std.specs.Prelude.{◌≡◌, ℕ, List, Some, slice_get}
use Rattle.std.specs.Map.{values_of}
use Rattle.irtext_base.specs.declared.base.identifier.OpId.{OpId}
use Rattle.irtext_base.specs.Text.{Text}
use Rattle.irtext_context.specs.Dialects.{Known, Table}
use Rattle.irtext_context.specs.DialectTable.{registered}

module _ (dialects other : List (Text × Table)) where
  -- the others know the entry at an index alike, if there is one
  abbrev pub KnowsAt : List (OpId × Known) → ℕ → Type 0
  KnowsAt entries i = (e : OpId × Known) → slice_get entries i ≡ Some e → registered other e.0 ≡ registered dialects e.0

  -- they know each operation of a dialect alike
  abbrev pub KnowsTable : Table → Type 0
  KnowsTable table = (i : ℕ) → KnowsAt table.entries i

  -- they know each operation of the dialect at an index alike, if there is one
  abbrev pub KnowsTableAt : ℕ → Type 0
  KnowsTableAt i = (table : Table) → slice_get (values_of dialects) i ≡ Some table → KnowsTable table

  -- they know each registered operation alike
  abbrev pub KnowsEach : Type 0
  KnowsEach = (i : ℕ) → KnowsTableAt i
