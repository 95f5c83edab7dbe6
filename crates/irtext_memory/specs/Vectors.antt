-- What contracts say of a vector to which elements were appended.
use Rattle.std.specs.Prelude.{◌≡◌, ◌≤◌, ◌-◌, ℕ, List, slice_index_or}
use Rattle.std.specs.List.{SameBelow}

-- the elements before the index are the same, and the one at the index is the value if it was stored
abbrev pub IsPutAt : {T : Type 0} → List T → List T → ℕ → T → Type 0 → Type 0
IsPutAt {T} old new i value Stored = SameBelow old new i × ((d : T) → Stored → slice_index_or new i d ≡ value)

-- the elements before the index are the same, and those from it on are the others if they were stored
abbrev pub ArePutFrom : {T : Type 0} → List T → List T → ℕ → List T → Type 0 → Type 0
ArePutFrom {T} old new i others Stored = SameBelow old new i × ((k : ℕ) (d : T) → Stored → i ≤ k → slice_index_or new k d ≡ slice_index_or others (k - i) d)
