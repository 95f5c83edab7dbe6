-- How far above an object the nearest object of each kind is.
use Rattle.std.specs.Prelude.{ℕ}
use Rattle.irtext_graph.specs.declared.object.Object.{Object}
use Rattle.irtext_graph.specs.declared.object.Object.TheVariants.{TheOperation, TheBlock, TheRegion}

-- the first number for an operation, the second for a block, and the third for a region
abbrev pub by_kind : Object → ℕ → ℕ → ℕ → ℕ
by_kind (TheOperation _) i j k = i
by_kind (TheBlock _) i j k = j
by_kind (TheRegion _) i j k = k

-- how many levels above an object the nearest operation is
abbrev pub to_operation : Object → ℕ
to_operation o = by_kind o 3 2 1

-- how many levels above an object the nearest block is
abbrev pub to_block : Object → ℕ
to_block o = by_kind o 1 3 2

-- how many levels above an object the nearest region is
abbrev pub to_region : Object → ℕ
to_region o = by_kind o 2 1 3
