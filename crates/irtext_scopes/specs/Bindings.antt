-- The open scopes as one vector of bindings: the bindings of a scope begin at its mark, which is an index, and each binding holds the index
-- of the one that it hides.
use Rattle.std.specs.Prelude.{◌≡◌, ℕ, suc, Bool, true, false, cond, List, [], ◌∷◌, reverse, length, take, drop, Option, Some, None, option_map, nat_eq, nat_le, nat_lt, is_some, slice_get}
use Rattle.std.specs.Option.{option_or, option_flatten}
use Rattle.irtext_scopes.specs.declared.scopes.Binding.{Binding}
use Rattle.irtext_scopes.specs.declared.scopes.Entry.TheVariants.{Defined}
use Rattle.irtext_scopes.specs.Scopes.{Scope, find, names_held}

-- the names of bindings, each with what it refers to
abbrev pub entries_of : {V : Type 0} → List (Binding V) → Scope V
entries_of [] = []
entries_of (b ∷ bs) = (b.name, b.entry) ∷ entries_of bs

-- the scopes that begin at these marks, of which the innermost comes first
abbrev pub scopes_from : {V : Type 0} → List ℕ → List (Binding V) → List (Scope V)
scopes_from [] bs = []
scopes_from (m ∷ ms) bs = entries_of (drop m bs) ∷ scopes_from ms (take m bs)

-- the scopes that begin at these marks, of which the outermost comes first
abbrev pub scopes_at : {V : Type 0} → List ℕ → List (Binding V) → List (Scope V)
scopes_at marks bs = scopes_from (reverse marks) bs

-- the index of the last binding of a name
abbrev pub newest : {V : Type 0} → ℕ → List (Binding V) → Option ℕ
newest n [] = None
newest n (b ∷ bs) = option_or (option_map suc (newest n bs)) (cond (nat_eq b.name n) (Some 0) None)

-- the index that is held for a name
abbrev pub head_at : List (Option ℕ) → ℕ → Option ℕ
head_at heads n = option_flatten (slice_get heads n)

-- the binding with this definition
abbrev pub rebound : {V : Type 0} → V → Binding V → Binding V
rebound v b = record { name = b.name; entry = Defined v; hidden = b.hidden }

-- the first of some marks, if there is one
abbrev pub first : List ℕ → Option ℕ
first [] = None
first (m ∷ ms) = Some m

-- the index, if there is a mark and the index is not below it
abbrev pub from_mark : Option ℕ → Option ℕ → Option ℕ
from_mark None o = None
from_mark (Some m) None = None
from_mark (Some m) (Some i) = cond (nat_lt i m) None (Some i)

-- the index of the binding that the innermost scope has of a name
abbrev pub place_in : List (Option ℕ) → List ℕ → ℕ → Option ℕ
place_in heads marks n = from_mark (first (reverse marks)) (head_at heads n)

-- no mark is greater than the one before it, and the first is not greater than this number
abbrev pub falls : ℕ → List ℕ → Bool
falls high [] = true
falls high (m ∷ ms) = cond (nat_le m high) (falls m ms) false

-- no name comes twice in the scope
abbrev pub are_apart : {V : Type 0} → Scope V → Bool
are_apart [] = true
are_apart (e ∷ es) = cond (is_some (find e.0 es)) false (are_apart es)

-- no name comes twice in any of the scopes
abbrev pub are_maps : {V : Type 0} → List (Scope V) → Bool
are_maps [] = true
are_maps (s ∷ ss) = cond (are_apart s) (are_maps ss) false

-- for each name the index of its newest binding is held, and in each binding the index of the one that it hides
pub record Chained {V : Type 0} (heads : List (Option ℕ)) (bs : List (Binding V)) : Type 0 where
  pub heads_lead : (n : ℕ) → head_at heads n ≡ newest n bs
  pub links_lead : (i : ℕ) (b : Binding V) → slice_get bs i ≡ Some b → b.hidden ≡ newest b.name (take i bs)

-- heads, bindings and marks that fit together: the indices that are held are right, the marks ascend, no name comes twice in a scope, and
-- each binding belongs to a scope
pub record IsSound {V : Type 0} (heads : List (Option ℕ)) (bs : List (Binding V)) (marks : List ℕ) : Type 0 where
  pub chained : Chained heads bs
  pub marks_fall : falls (length bs) (reverse marks) ≡ true
  pub maps : are_maps (scopes_at marks bs) ≡ true
  pub counted : length bs ≡ names_held (scopes_at marks bs)
