-- Between functions: what parsing a section does to the state of the parse, and which indices its entries may have.
use Rattle.std.specs.Prelude.{◌≡◌, ℕ, Bool, not, ◌&&◌, is_some, List}
use Rattle.std.specs.Map.{lookup}
use Rattle.irtext_parse_state.specs.States.{KeepsRest, marks_of, same_index}
use Rattle.irtext_parse_state.specs.declared.parsable.state.State.{State}
use Rattle.irtext_grammar.specs.Readers.NewPaths.{AddsPaths}

-- paths may have been added to the context, to which the state still refers; the rest of the state and the recorded marks are unchanged
pub record AddsOnlyPaths {T A U : Type 0} (old new : State T A U) : Type 0 where
  pub lent : new.ctx.ghost_name ≡ old.ctx.ghost_name
  pub rest : KeepsRest old new
  pub marks : marks_of new ≡ marks_of old
  pub adds : AddsPaths old.ctx.now new.ctx.now

-- an entry may have this index: that of a recorded mark, and of no earlier entry
abbrev pub may_follow : {X Y : Type 0} → List (ℕ × X) → List (ℕ × Y) → ℕ → Bool
may_follow marks entries i = is_some (lookup (same_index i) marks) && not (is_some (lookup (same_index i) entries))
