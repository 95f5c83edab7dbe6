-- What changes between two lists of lines, and what it means that these changes lead from one to the other.
use Rattle.std.specs.Prelude.{◌≡◌, ◌+◌, ◌<◌, ℕ, List, [], ◌∷◌, Option, length, option_map, slice_get}
use Rattle.std.specs.Borrow.{Bor}
use Rattle.irtext_diff.specs.declared.changes.Change.{Change}

-- a line, as its bytes
abbrev pub Line : Type 0
Line = List ℕ

-- the line with an index, if the list has one
abbrev pub line : List (Bor Line) → ℕ → Option Line
line lines k = option_map (λ s. s.now) (slice_get lines k)

-- the n lines from one index on are those from another index on in another list
abbrev pub SameLines : List (Bor Line) → List (Bor Line) → ℕ → ℕ → ℕ → Type 0
SameLines old new i j n = (k : ℕ) → k < n → line old (i + k) ≡ line new (j + k)

-- the changes lead from a place in both lists to another: the lines between changes are the same in both, and so are those after the last one
abbrev pub Leads : List (Bor Line) → List (Bor Line) → ℕ → ℕ → List Change → ℕ → ℕ → Type 0
Leads old new a b [] i j = (n : ℕ) × (a + n ≡ i) × (b + n ≡ j) × SameLines old new a b n
Leads old new a b (c ∷ changes) i j = (n : ℕ) × (a + n ≡ c.old_at) × (b + n ≡ c.new_at) × SameLines old new a b n
    × Leads old new (c.old_at + c.removed) (c.new_at + c.added) changes i j

-- the changes turn the old lines into the new ones: they lead from the beginning of both lists to the end of both
abbrev pub AreChanges : List (Bor Line) → List (Bor Line) → List Change → Type 0
AreChanges old new changes = Leads old new 0 0 changes (length old) (length new)
