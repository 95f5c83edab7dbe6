-- What parsing one region under a live operation promises: the actions, the names, and what the context holds of the region; or why the
-- region was rejected.
use Rattle.std.specs.Prelude.{◌≡◌, ◌≤◌, ℕ, Bool, true, false, ◌||◌, List, [], ◌∷◌, ◌++◌, length, Some, codes}
use Rattle.irtext_base.specs.Faults.{Fault, Unexpected, Word, fault_of, id_of}
use Rattle.irtext_base.specs.Faults as causes
use Rattle.irtext_base.specs.Stream.{IsAt, first_of}
use Rattle.irtext_base.specs.Locations.{AttrView}
use Rattle.irtext_base.specs.declared.parsable.fault.ParseFault.{ParseFault}
use Rattle.irtext_context.specs.Context.{ContextView, OperationView, operation, with_graph, KeepsOlder}
use Rattle.irtext_context.specs.declared.base.item.Item.{Item}
use Rattle.irtext_graph.specs.Back.{IsClosedBelow}
use Rattle.irtext_graph.specs.Graph.{Appends}
use Rattle.irtext_graph.specs.declared.arena.Ptr.{Ptr}
use Rattle.irtext_graph.specs.declared.object.Operation.{Operation}
use Rattle.irtext_graph.specs.declared.object.Region.{Region}
use Rattle.irtext_graph.specs.declared.object.Object.TheVariants.{TheOperation, TheRegion}
use Rattle.irtext_tokens.specs.Infix.{Reader}
use Rattle.irtext_scopes.specs.Scopes.{is_open}
use Rattle.irtext_parse_state.specs.States.{marks_of}
use Rattle.irtext_parse_state.specs.declared.parsable.state.StateStream.{StateStream}
use Rattle.irtext_grammar.specs.Contexts.Formats.{format_of, isolated}
use Rattle.irtext_grammar.specs.Contexts.Held.{whole}
use Rattle.irtext_grammar.specs.Names.History.{Outcome, State, going, failed}
use Rattle.irtext_grammar.specs.Names.Script.{Path}
use Rattle.irtext_grammar.specs.Names.TextScopes.{Failure}
use Rattle.irtext_grammar.specs.Promises.Section.{Moves}
use Rattle.irtext_grammar.specs.Reached.{Advanced, Stopped, begins_region, region_at}
use Rattle.irtext_grammar.specs.Resume.{EndsIn}
use Rattle.irtext_names.specs.Alone.{IsOutermost}
use Rattle.irtext_names.specs.Items.{Names, Made, MachineAgrees, IsFailure, IsTextFault, IsSound, doing}
use Rattle.irtext_names.specs.Located.{IsLocated}
use Rattle.irtext_parse_root.specs.Built.{HoldsRegion}
use Rattle.irtext_parse_root.specs.Carried.{Falls}
use Rattle.irtext_parse_root.specs.Here.{within}
use Rattle.irtext_parse_root.specs.Recorded.{Did, did_enter, recorder}

-- whether the operation is isolated from above
abbrev pub IsolatedAs : {T A : Type 0} → ContextView T A → Ptr Operation → Bool → Type 0
IsolatedAs {T} {A} c op iso = (view : OperationView T A) → operation c op ≡ Some view → iso ≡ isolated c.dialects (id_of view.id)

module _ {T A U : Type 0} (types_at : Reader T) (attr : Reader (AttrView A)) where
  -- A region was parsed from the old position of the stream to the new one, and was appended to the operation. These actions were done,
  -- and the names agree with the state of the machine that does them. Before the region was appended, the context held the complete
  -- region with its marks, everything older was unchanged, and names waited with placeholders alone.
  pub record ReadsUnder (op : Ptr Operation) (before : Names) (old : StateStream T A U) (r : Ptr Region) (names : Names) (new : StateStream T A U) : Type 0 where
    pub iso : Bool
    pub isolation : IsolatedAs old.state.ctx.now op iso
    pub moves : Moves old.stream new.stream
    pub did : List (Did T A)
    pub tells : region_at old.state.ctx.now.dialects types_at attr recorder iso old.stream.rest [] ≡ Advanced tt (did ++ did_enter iso ∷ []) new.stream.rest
    pub made : Made
    pub mid : StateStream T A U
    pub runs : (path : ℕ → Path) (items : Made) (o : Outcome) → MachineAgrees path items [] before old.state o
        → (z : Outcome) × MachineAgrees path (made ++ items) [] names mid.state z × (region_at old.state.ctx.now.dialects types_at attr (doing old.state.ctx.now.dialects path) iso old.stream.rest o ≡ Advanced tt z new.stream.rest)
    pub falls : Falls (length old.stream.rest) made (length new.stream.rest)
    pub marks : List (ℕ × Item)
    pub noted : marks_of new.state ≡ marks_of old.state ++ marks
    pub holds : HoldsRegion (format_of old.state.ctx.now.dialects) (IsLocated old.state.src (whole old.stream)) (within r) old.state.ctx.now mid.state.ctx.now made marks r did
    pub sound : (m : ℕ) → m ≤ old.state.ctx.now.graph.made → IsSound m before old.state → IsSound m names mid.state
    pub older : (m : ℕ) → m ≤ old.state.ctx.now.graph.made → IsClosedBelow m old.state.ctx.now.graph → IsSound m before old.state → KeepsOlder m old.state.ctx.now mid.state.ctx.now
    pub places : Appends mid.state.ctx.now.graph new.state.ctx.now.graph (TheOperation op) (TheRegion r)
    pub with_it : new.state.ctx.now ≡ with_graph mid.state.ctx.now new.state.ctx.now.graph

  -- The fault of a region whose names have a scope of values. No region comes next, and the fault says so, uncommitted; or one comes next,
  -- and the fault is the first in the order of the text, and committed: the text is at fault, and no name had failed before it, or a name
  -- fails so.
  pub data FaultUnder (iso : Bool) (before : Names) (old : StateStream T A U) (fault : ParseFault A) : Type 0 where
    no_region : begins_region old.stream.rest ≡ false → fault_of fault.cause ≡ Unexpected (first_of old.stream.rest) (Word (codes "{")) → fault.committed ≡ false → IsAt fault.pos.line fault.pos.column old.stream.passed
        → FaultUnder iso before old fault
    at_text : begins_region old.stream.rest ≡ true → (cause : Fault) (place : ℕ) → IsTextFault (whole old.stream) cause place fault → fault.committed ≡ true
        → ((path : ℕ → Path) (items : Made) (o : Outcome) → MachineAgrees path items [] before old.state o
        → (st : State) × (region_at old.state.ctx.now.dialects types_at attr (doing old.state.ctx.now.dialects path) iso old.stream.rest o ≡ Stopped (going st) cause place)) → FaultUnder iso before old fault
    by_names : begins_region old.stream.rest ≡ true → (failure : Failure) → IsFailure (whole old.stream) failure fault
        → ((path : ℕ → Path) (items : Made) (o : Outcome) → MachineAgrees path items [] before old.state o
        → EndsIn (failed failure) (region_at old.state.ctx.now.dialects types_at attr (doing old.state.ctx.now.dialects path) iso old.stream.rest o)) → FaultUnder iso before old fault

  -- The operation is not isolated and no scope of values is open: then the fault says so, at the operation's position, whatever the text
  -- is. Or it is isolated or a scope of values is open: then the fault is that of the text.
  pub data RefusesUnder (op : Ptr Operation) (before : Names) (old : StateStream T A U) (fault : ParseFault A) : Type 0 where
    not_isolated : IsolatedAs old.state.ctx.now op false → is_open before.values ≡ false → fault_of fault.cause ≡ causes.NotIsolated → fault.committed ≡ true
        → ((view : OperationView T A) → operation old.state.ctx.now op ≡ Some view → IsOutermost view.loc fault.pos) → RefusesUnder op before old fault
    in_text : (iso : Bool) → IsolatedAs old.state.ctx.now op iso → (iso || is_open before.values) ≡ true → FaultUnder iso before old fault → RefusesUnder op before old fault
