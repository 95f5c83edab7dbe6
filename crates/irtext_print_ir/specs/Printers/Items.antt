-- For callers: items that are printed one after another, with separators between.
use Rattle.std.specs.Prelude.{◌≡◌, ℕ, List, ◌++◌, Bool, true, false, MatchBool, string_bytes, Option}
use Rattle.std.specs.List.{FoldsTo}
use Rattle.std.specs.Iterator.{Drains}
use Rattle.std.specs.declared.string.String.{String}
use Rattle.std.specs.declared.alloc.Global.{Global}
use Rattle.irtext_tokens.specs.declared.irfmt.separator.ListSeparator.{ListSeparator}
use Rattle.irtext_print_ir.specs.Printers.Separator.{separator_text}
use Rattle.irtext_print.specs.Printers.Shown.{Shown}
use Rattle.irtext_print.specs.Printers.Appended.{Writes}

-- how far a list is printed: whether the next item is the first, the state, and the text so far
pub record Place (U : Type 0) : Type 0 where
  pub first : Bool
  pub state : Shown U
  pub text : String Global

-- what is before an item was appended: nothing before the first, otherwise the separator
abbrev pub Separates : {U : Type 0} → Bool → ListSeparator → Shown U → String Global → String Global → Type 0
Separates first sep s old new = MatchBool first (new ≡ old) (string_bytes new ≡ string_bytes old ++ separator_text sep s)

-- an item is printed by one call, after a separator if it is not the first
pub record WritesItem {U X : Type 0} (call : X → Shown U → String Global → Shown U → String Global → Type 0) (sep : ListSeparator) (p : Place U) (x : X) (q : Place U) : Type 0 where
  pub between : String Global
  pub separated : Separates p.first sep p.state p.text between
  pub called : call x p.state between q.state q.text
  pub next : q.first ≡ false

-- the items are printed in their order
pub record WritesItems {U X : Type 0} (call : X → Shown U → String Global → Shown U → String Global → Type 0) (sep : ListSeparator) (xs : List X) (s : Shown U) (b : String Global) (t : Shown U) (d : String Global) : Type 0 where
  pub last : Bool
  pub steps : FoldsTo (WritesItem call sep) (record { first = true; state = s; text = b }) xs (record { first = last; state = t; text = d })

-- an item prints itself: what its printing may do, and the text that it gives
pub record PrintsItem {U X C : Type 0} (prints : X → C → Shown U → String Global → Shown U → String Global → Type 0) (gives : X → C → Shown U → Option (List ℕ × Shown U)) (c : C) (x : X) (s : Shown U) (b : String Global) (t : Shown U) (d : String Global) : Type 0 where
  pub printed : prints x c s b t d
  pub written : Writes (gives x c s) t (string_bytes b) (string_bytes d)

-- a clone of the iterator yields the items xs and then ends
abbrev pub CloneGives : {I X : Type 0} → (I → I → Type 0) → (I → Option X → I → Type 0) → I → List X → Type 0
CloneGives {I} is_clone steps i xs = (j : I) × is_clone i j × Drains steps j xs

-- the iterator yields items, and they are printed in their order
abbrev pub WritesGiven : {I U X : Type 0} → (I → Option X → I → Type 0) → (X → Shown U → String Global → Shown U → String Global → Type 0) → I → ListSeparator → Shown U → String Global → Shown U → String Global → Type 0
WritesGiven {X = X} steps call i sep s b t d = (xs : List X) × Drains steps i xs × WritesItems call sep xs s b t d

-- the same for a clone of the iterator
abbrev pub WritesCloned : {I U X : Type 0} → (I → I → Type 0) → (I → Option X → I → Type 0) → (X → Shown U → String Global → Shown U → String Global → Type 0) → I → ListSeparator → Shown U → String Global → Shown U → String Global → Type 0
WritesCloned {X = X} is_clone steps call i sep s b t d = (xs : List X) × CloneGives is_clone steps i xs × WritesItems call sep xs s b t d
