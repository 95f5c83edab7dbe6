-- What parsing an operation with everything nested in it promises: the tree that was built, the names, and what the context holds; or the
-- first fault in the order of the text.
use Rattle.std.specs.Prelude.{◌≡◌, ℕ, true, false, List, [], ◌++◌, length, Some}
use Rattle.irtext_base.specs.Faults.{Fault}
use Rattle.irtext_base.specs.Locations.{AttrView}
use Rattle.irtext_base.specs.declared.parsable.fault.ParseFault.{ParseFault}
use Rattle.irtext_context.specs.declared.base.item.Item.{Item}
use Rattle.irtext_graph.specs.declared.arena.Ptr.{Ptr}
use Rattle.irtext_graph.specs.declared.object.Operation.{Operation}
use Rattle.irtext_graph.specs.declared.object.Object.{Object}
use Rattle.irtext_tokens.specs.Infix.{Reader}
use Rattle.irtext_parse_state.specs.States.{marks_of}
use Rattle.irtext_parse_state.specs.declared.parsable.state.StateStream.{StateStream}
use Rattle.irtext_grammar.specs.Contexts.Formats.{format_of}
use Rattle.irtext_grammar.specs.Contexts.Held.{whole}
use Rattle.irtext_grammar.specs.Grammar.Tree.{Tree}
use Rattle.irtext_grammar.specs.Names.History.{Outcome, State, going, failed}
use Rattle.irtext_grammar.specs.Names.Script.{Path}
use Rattle.irtext_grammar.specs.Names.TextScopes.{Failure}
use Rattle.irtext_grammar.specs.Promises.Section.{Moves}
use Rattle.irtext_grammar.specs.Promises.Supported.{is_committed}
use Rattle.irtext_grammar.specs.Heads.{led_at}
use Rattle.irtext_grammar.specs.Reached.{Advanced, Stopped, operation_at}
use Rattle.irtext_grammar.specs.Resume.{EndsIn}
use Rattle.irtext_grammar.specs.Building.{building, nothing_open, finished}
use Rattle.irtext_grammar.specs.Tracks.{HoldsMade}
use Rattle.irtext_names.specs.Items.{Names, Made, MachineAgrees, IsFailure, IsTextFault, doing}
use Rattle.irtext_names.specs.Located.{IsLocated}
use Rattle.irtext_parse_root.specs.Carried.{marks_in, AreCarried, Falls}

module _ {T A U : Type 0} (types_at : Reader T) (attr : Reader (AttrView A)) where
  -- An operation was parsed with everything nested in it, from the old position of the stream to the new one. This tree was built from
  -- it, the names agree with the state of the machine that processes the text, and the context holds the tree under the pointer. The
  -- recorded marks are those of the tree, each with the item that was created for its place; each item has one place.
  pub record ReadsNested (before : Names) (old : StateStream T A U) (p : Ptr Operation) (names : Names) (new : StateStream T A U) : Type 0 where
    pub tree : Tree ℕ T A
    pub moves : Moves old.stream new.stream
    pub builds : operation_at old.state.ctx.now.dialects types_at attr (building (format_of old.state.ctx.now.dialects)) true old.stream.rest nothing_open ≡ Advanced tt (finished tree) new.stream.rest
    pub made : Made
    pub runs : (path : ℕ → Path) (items : Made) (o : Outcome) → MachineAgrees path items [] before old.state o
        → (z : Outcome) × MachineAgrees path (made ++ items) [] names new.state z × (operation_at old.state.ctx.now.dialects types_at attr (doing old.state.ctx.now.dialects path) true old.stream.rest o ≡ Advanced tt z new.stream.rest)
    pub objects : List Object
    pub holds : HoldsMade (IsLocated old.state.src (whole old.stream)) old.state.ctx.now new.state.ctx.now made objects [] (Some p) (finished tree)
    pub falls : Falls (length old.stream.rest) made (length new.stream.rest)
    pub marks : List (ℕ × Item)
    pub noted : marks_of new.state ≡ marks_of old.state ++ marks
    pub carried : AreCarried made (marks_in tree) marks

  -- The fault is the first in the order of the text: the text is at fault, as that of an operation outside of every region, and no name
  -- had failed before it; or a name fails so. It is committed, unless it is a fault of the text and no operation comes next.
  pub data RefusesNested (before : Names) (old : StateStream T A U) (fault : ParseFault A) : Type 0 where
    at_text : (cause : Fault) (place : ℕ) → IsTextFault (whole old.stream) cause place fault → fault.committed ≡ is_committed (led_at old.state.ctx.now.dialects old.stream.rest)
        → ((path : ℕ → Path) (items : Made) (o : Outcome) → MachineAgrees path items [] before old.state o
        → (st : State) × (operation_at old.state.ctx.now.dialects types_at attr (doing old.state.ctx.now.dialects path) false old.stream.rest o ≡ Stopped (going st) cause place)) → RefusesNested before old fault
    by_names : (failure : Failure) → IsFailure (whole old.stream) failure fault
        → ((path : ℕ → Path) (items : Made) (o : Outcome) → MachineAgrees path items [] before old.state o
        → EndsIn (failed failure) (operation_at old.state.ctx.now.dialects types_at attr (doing old.state.ctx.now.dialects path) false old.stream.rest o)) → RefusesNested before old fault
