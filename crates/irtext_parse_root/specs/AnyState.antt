-- For callers: what parsing an operation promises on any state, in which marks of earlier roots may be recorded.
use Rattle.std.specs.Prelude.{◌≡◌, ℕ, Bool, true, cond, ◌&&◌, List, [], ◌++◌, length, Some}
use Rattle.irtext_base.specs.Text.{Text}
use Rattle.irtext_base.specs.Format.{Id}
use Rattle.irtext_base.specs.Answers.{Outcome}
use Rattle.irtext_base.specs.Locations.{AttrView}
use Rattle.irtext_base.specs.declared.parsable.fault.ParseFault.{ParseFault}
use Rattle.irtext_context.specs.declared.base.item.Item.{Item}
use Rattle.irtext_graph.specs.declared.arena.Ptr.{Ptr}
use Rattle.irtext_graph.specs.declared.object.Operation.{Operation}
use Rattle.irtext_parse_state.specs.States.{marks_of}
use Rattle.irtext_parse_state.specs.declared.parsable.state.StateStream.{StateStream}
use Rattle.irtext_grammar.specs.Contexts.Formats.{isolated, IsAccepted}
use Rattle.irtext_grammar.specs.Contexts.Held.{whole}
use Rattle.irtext_grammar.specs.Graphs.Build.{build}
use Rattle.irtext_grammar.specs.Promises.Root.{location_of}
use Rattle.irtext_grammar.specs.Promises.Section.{Faults, Moves, indices_of, is_noted}
use Rattle.irtext_grammar.specs.Promises.Supported.{RefusedAs}
use Rattle.irtext_names.specs.Held.{held_root}
use Rattle.irtext_names.specs.Leaves.{LeavesTree, LeavesClosed}
use Rattle.irtext_names.specs.OnlyNew.{OnlyNew}
use Rattle.irtext_names.specs.Promises.{HasFault, tree_marks}
use Rattle.irtext_grammar.specs.Entries.{section_at}
use Rattle.irtext_parse_root.specs.Carried.{marks_in, AreCarried, Falls}
use Rattle.irtext_names.specs.Located.{IsLocated}
use Rattle.irtext_parse_section.specs.Said.{rules_of}
use Rattle.irtext_parse_section.specs.Section.{ReadsSection}

module _ {T A U : Type 0} (attr : Text → Outcome (AttrView A)) where
  -- if it is looked for and a mark is recorded, the section of all recorded marks was parsed, the earlier ones too; otherwise nothing was
  abbrev pub ReadsSectionIf : Bool → StateStream T A U → StateStream T A U → Type 0
  ReadsSectionIf look old new = cond (look && is_noted (marks_of old.state)) (ReadsSection attr old new) (new ≡ old)

  -- the section of all recorded marks was not parsed, and the fault is committed
  abbrev pub MissesSection : StateStream T A U → ParseFault A → Type 0
  MissesSection s = Faults true (RefusedAs (section_at attr (indices_of (marks_of s.state)) (rules_of (marks_of s.state)) s.stream.rest)) s.stream

module _ {T A U : Type 0} (types_at : Text → Outcome T) (attr : Text → Outcome (AttrView A)) where
  -- An operation was parsed from the old position of the stream to the new one. A tree was built from the text; its names resolve, and
  -- its marks are none of those recorded before. What the tree alone builds is held under the pointer, and only that is new; no frame is
  -- open, and no placeholder is left. Its marks are recorded after the earlier ones, each with the item that was created for its place;
  -- each item has one place.
  pub record ReadsTree (op : Ptr Operation) (old new : StateStream T A U) : Type 0 where
    pub accepted : (id : Id) → IsAccepted old.state.ctx.now.dialects id
    pub moves : Moves old.stream new.stream
    pub leaves : LeavesTree types_at attr old.state.ctx.now.dialects (indices_of (marks_of old.state)) (IsLocated old.state.src (whole old.stream)) op (indices_of (marks_of new.state)) old.state.ctx.now new.state.ctx.now old.stream.rest new.stream.rest
    pub closed : LeavesClosed old.state.ctx.now new.state.ctx.now
    pub builds : held_root new.state.ctx.now op ≡ Some (build (isolated old.state.ctx.now.dialects) (location_of new.state.ctx.now.paths old.state.src (whole old.stream)) [] leaves.tree)
    pub only : OnlyNew op old.state.ctx.now new.state.ctx.now
    pub marks : List (ℕ × Item)
    pub noted : marks_of new.state ≡ marks_of old.state ++ marks
    pub carried : AreCarried leaves.items (marks_in leaves.tree) marks
    pub falls : Falls (length old.stream.rest) leaves.items (length new.stream.rest)
    pub marked : indices_of marks ≡ tree_marks old.state.ctx.now.dialects leaves.tree

  -- an operation was parsed; and then, if it is looked for and a mark is recorded, the section of all recorded marks, the earlier ones
  -- too
  pub record ReadsAny (look : Bool) (op : Ptr Operation) (old new : StateStream T A U) : Type 0 where
    pub mid : StateStream T A U
    pub operation : ReadsTree op old mid
    pub section : ReadsSectionIf attr look mid new

  -- no operation was parsed; or an operation was parsed, but not the section of all recorded marks after it, and the fault is committed
  pub data MissesAny (look : Bool) (old : StateStream T A U) (fault : ParseFault A) : Type 0 where
    no_operation : ((id : Id) → IsAccepted old.state.ctx.now.dialects id)
        → HasFault types_at attr old.state.ctx.now.dialects (indices_of (marks_of old.state)) (whole old.stream) old.stream.rest fault → MissesAny look old fault
    no_section : (op : Ptr Operation) (mid : StateStream T A U) → ReadsTree op old mid → (look && is_noted (marks_of mid.state)) ≡ true
        → MissesSection attr mid fault → MissesAny look old fault
