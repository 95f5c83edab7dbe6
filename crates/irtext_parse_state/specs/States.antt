-- The state of a parse beside its text.
use Rattle.std.specs.Prelude.{◌≡◌, ℕ, ◌==◌, Bool, true, false, List, [], ◌∷◌, ◌++◌, None}
use Rattle.std.specs.Map.{lookup}
use Rattle.irtext_base.specs.Text.{Text}
use Rattle.irtext_base.specs.Stream.{IsAt}
use Rattle.irtext_context.specs.declared.base.item.Item.{Item}
use Rattle.irtext_base.specs.declared.location.Location.{Location, SrcPos}
use Rattle.irtext_base.specs.declared.location.Source.{Source}
use Rattle.irtext_stream.specs.declared.position.SourcePosition.{SourcePosition}
use Rattle.irtext_parse_state.specs.declared.parsable.state.State.{State}
use Rattle.irtext_parse_state.specs.declared.parsable.state.StateStream.{StateStream}

-- whether two indices are the same
abbrev pub same_index : ℕ → ℕ → Bool
same_index i j = i == j

-- the recorded marks of a state, in the order in which they were parsed
abbrev pub marks_of : {T A U : Type 0} → State T A U → List (ℕ × Item)
marks_of s = s.marks

-- an item was recorded last with its index; or the index was recorded already, and nothing changed
abbrev pub Notes : {X : Type 0} → ℕ → X → Bool → List (ℕ × X) → List (ℕ × X) → Type 0
Notes index item true old new = (lookup (same_index index) old ≡ None) × (new ≡ old ++ (index, item) ∷ [])
Notes index item false old new = (lookup (same_index index) old ≡ None → ⊥) × (new ≡ old)

-- the location of the position after a text, in a source
pub record LocatesAt {A : Type 0} (src : Source) (passed : Text) (location : Location A) : Type 0 where
  pub at : SourcePosition
  pub is : location ≡ SrcPos src at
  pub positioned : IsAt at.line at.column passed

module _ {T A U : Type 0} where
  -- the source and the caller's data are unchanged
  pub record KeepsRest (old new : State T A U) : Type 0 where
    pub src : new.src ≡ old.src
    pub aux_data : new.aux_data ≡ old.aux_data

  -- no mark is recorded, and the stream has not failed
  pub record IsFresh (s : StateStream T A U) : Type 0 where
    pub marks : marks_of s.state ≡ []
    pub fine : s.stream.failed ≡ false
