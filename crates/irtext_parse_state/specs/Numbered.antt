-- The order of items by their indices.
use Rattle.std.specs.Prelude.{ℕ, List, ◌++◌}
use Rattle.std.specs.List.{enumerate_from}

-- the items with the indices 0, 1, 2, .., and then the others with their indices
abbrev pub all_numbered : {X : Type 0} → List X → List (ℕ × X) → List (ℕ × X)
all_numbered dense others = enumerate_from 0 dense ++ others
