-- For callers: what a printing that fails leaves of the printing state and of the text.
use Rattle.std.specs.Prelude.{◌≡◌, ◌<◌, ◌≤◌, ◌+◌, ◌⊎◌, List, ℕ, [], ◌∷◌, ◌++◌, length, true, false, Option, Some, string_bytes, string_len, string_capacity}
use Rattle.std.specs.Char.{encode_utf8}
use Rattle.std.specs.Iterator.{Yields}
use Rattle.std.specs.List.{FoldsTo}
use Rattle.std.specs.declared.string.String.{String}
use Rattle.std.specs.declared.alloc.Global.{Global}
use Rattle.irtext_base.specs.Appending.{OnlyAppends}
use Rattle.irtext_tokens.specs.declared.irfmt.separator.ListSeparator.{ListSeparator}
use Rattle.irtext_tokens.specs.declared.irfmt.separator.ListSeparator.TheVariants as separators
use Rattle.irtext_print.specs.Printers.Printing.{gathered_of, with_gathered}
use Rattle.irtext_print.specs.Printers.Shown.{Shown}
use Rattle.irtext_print_ir.specs.Printers.Items.{Place, Separates, WritesItem}

-- all of the state but the gathered items is kept
abbrev pub KeepsLayout : {U : Type 0} → Shown U → Shown U → Type 0
KeepsLayout s t = t ≡ with_gathered s (gathered_of t)

-- the state is unchanged, and the text was only appended to
abbrev pub HasAppended : {U : Type 0} → Shown U → String Global → Shown U → String Global → Type 0
HasAppended s b t d = (t ≡ s) × OnlyAppends b d

-- all of the state but the gathered items is kept, and the text was only appended to
abbrev pub HasGathered : {U : Type 0} → Shown U → String Global → Shown U → String Global → Type 0
HasGathered s b t d = KeepsLayout s t × OnlyAppends b d

-- the state and the text are unchanged
abbrev pub IsUntouched : {U : Type 0} → Shown U → String Global → Shown U → String Global → Type 0
IsUntouched s b t d = (t ≡ s) × (string_bytes d ≡ string_bytes b)

-- what was allocated for the text has no room for this after it
abbrev pub IsFull : String Global → List ℕ → Type 0
IsFull b text = string_capacity b < string_len b + length text

-- there was no room for this, so the state and the text are unchanged
abbrev pub HasNoRoom : {U : Type 0} → List ℕ → Shown U → String Global → Shown U → String Global → Type 0
HasNoRoom text s b t d = IsUntouched s b t d × IsFull b text

-- there was no room for the first of two texts, or the first was appended and there was no room for both
abbrev pub HasNoRoomAfter : {U : Type 0} → List ℕ → List ℕ → Shown U → String Global → Shown U → String Global → Type 0
HasNoRoomAfter first second s b t d = HasNoRoom first s b t d ⊎ ((t ≡ s) × (string_bytes d ≡ string_bytes b ++ first) × IsFull b (first ++ second))

-- a separator: one with a new line was appended in part; without, it failed since there was no room for its characters
abbrev pub RefusesSeparator : {U : Type 0} → ListSeparator → Shown U → String Global → Shown U → String Global → Type 0
RefusesSeparator separators.None s b t d = ⊥
RefusesSeparator separators.Newline s b t d = HasAppended s b t d
RefusesSeparator (separators.CharNewline c) s b t d = HasAppended s b t d
RefusesSeparator (separators.Char c) s b t d = HasNoRoom (encode_utf8 c) s b t d
RefusesSeparator (separators.CharSpace c) s b t d = HasNoRoomAfter (encode_utf8 c) (32 ∷ []) s b t d

-- a value between two texts: there was no room for the left one, the value failed, or there was no room for the right one
abbrev pub RefusesEnclosed : {U : Type 0} → (Shown U → String Global → Shown U → String Global → Type 0) → (Shown U → String Global → Shown U → String Global → Type 0) → List ℕ → List ℕ → Shown U → String Global → Shown U → String Global → Type 0
RefusesEnclosed call stop left right s b t d = HasNoRoom left s b t d
    ⊎ ((begun : String Global) × (string_bytes begun ≡ string_bytes b ++ left) × (string_capacity b ≤ string_capacity begun) × (stop s begun t d
    ⊎ ((filled : String Global) × call s begun t filled × (string_bytes d ≡ string_bytes filled) × IsFull filled right)))

-- a list: these items were printed, and it failed at the separator before the next one, or in the call that prints the next one
pub record StopsAfter {U X : Type 0} (call stop : X → Shown U → String Global → Shown U → String Global → Type 0) (sep : ListSeparator) (xs : List X) (x : X) (s : Shown U) (b : String Global) (t : Shown U) (d : String Global) : Type 0 where
  pub reached : Place U
  pub printed : FoldsTo (WritesItem call sep) (record { first = true; state = s; text = b }) xs reached
  pub stopped : ((reached.first ≡ false) × RefusesSeparator sep reached.state reached.text t d) ⊎ ((between : String Global) × Separates reached.first sep reached.state reached.text between × stop x reached.state between t d)

-- the same for the items that an iterator yields
pub record StopsGiven {I U X : Type 0} (steps : I → Option X → I → Type 0) (call stop : X → Shown U → String Global → Shown U → String Global → Type 0) (i : I) (sep : ListSeparator) (s : Shown U) (b : String Global) (t : Shown U) (d : String Global) : Type 0 where
  pub items : List X
  pub next : X
  pub before : I
  pub after : I
  pub yields : Yields steps i items before
  pub step : steps before (Some next) after
  pub stops : StopsAfter call stop sep items next s b t d

-- the same for a clone of the iterator; or there was no memory for the clone
abbrev pub StopsCloned : {I U X : Type 0} → (I → I → Type 0) → (I → Option X → I → Type 0) → (X → Shown U → String Global → Shown U → String Global → Type 0) → (X → Shown U → String Global → Shown U → String Global → Type 0) → I → ListSeparator → Shown U → String Global → Shown U → String Global → Type 0
StopsCloned {I = I} is_clone steps call stop i sep s b t d = IsUntouched s b t d ⊎ ((j : I) × is_clone i j × StopsGiven steps call stop j sep s b t d)
