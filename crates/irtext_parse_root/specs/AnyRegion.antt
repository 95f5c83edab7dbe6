-- For callers: what parsing a region promises on any state, in which marks of earlier roots may be recorded.
use Rattle.std.specs.Prelude.{◌≡◌, ℕ, true, false, List, None, codes}
use Rattle.irtext_base.specs.Text.{Text}
use Rattle.irtext_base.specs.Faults.{Fault, Unexpected, Word, fault_of}
use Rattle.irtext_base.specs.Answers.{Outcome}
use Rattle.irtext_base.specs.Stream.{StreamView, IsAt, first_of}
use Rattle.irtext_base.specs.Locations.{AttrView}
use Rattle.irtext_base.specs.Own.{Texts}
use Rattle.irtext_base.specs.declared.parsable.fault.ParseFault.{ParseFault}
use Rattle.irtext_context.specs.Dialects.{Table}
use Rattle.irtext_graph.specs.declared.arena.Ptr.{Ptr}
use Rattle.irtext_graph.specs.declared.object.Operation.{Operation}
use Rattle.irtext_graph.specs.declared.object.Region.{Region}
use Rattle.irtext_parse_state.specs.States.{marks_of}
use Rattle.irtext_parse_state.specs.declared.parsable.state.StateStream.{StateStream}
use Rattle.irtext_grammar.specs.Contexts.Formats.{format_of}
use Rattle.irtext_grammar.specs.Contexts.Held.{whole, IsPosition}
use Rattle.irtext_grammar.specs.Names.History.{State, going, failed}
use Rattle.irtext_grammar.specs.Names.Script.{Failure, Path}
use Rattle.irtext_grammar.specs.Promises.Section.{indices_of}
use Rattle.irtext_grammar.specs.Naming.{naming}
use Rattle.irtext_grammar.specs.Reached.{Advanced, Stopped, begins_region, region_at}
use Rattle.irtext_grammar.specs.Resume.{EndsIn}
use Rattle.irtext_names.specs.Alone.{IsUnisolated, BuildsRegion}
use Rattle.irtext_names.specs.Promises.{start_with, IsOf}
use Rattle.irtext_parse_root.specs.Region.{unisolated}

module _ {T A : Type 0} (types_at : Text → Outcome T) (attr : Text → Outcome (AttrView A)) (dialects : List (Text × Table)) (earlier : List ℕ) where
  -- The machine of names starts with the earlier indices marked, and gets through the text of a region of an isolated operation, up to
  -- this rest, whatever paths its items have.
  abbrev pub IsRegionText : Text → Text → Type 0
  IsRegionText text rest = (path : ℕ → Path) → (st : State) × (region_at dialects types_at attr (naming (format_of dialects) path) true text (going (start_with earlier)) ≡ Advanced tt (going st) rest)

  -- The fault of a text at which a region of an isolated operation is expected. If `{` does not come next, the fault says so, uncommitted.
  -- If it does, the fault is committed: either it is a fault of the text, and no name had failed before it; or it is the failure of a name
  -- or a mark, whatever follows in the text. An index is marked twice also if it was marked earlier.
  pub data HasRegionFault (old : StreamView) (fault : ParseFault A) : Type 0 where
    no_brace : begins_region old.rest ≡ false → fault_of fault.cause ≡ Unexpected (first_of old.rest) (Word (codes "{")) → IsAt fault.pos.line fault.pos.column old.passed → fault.committed ≡ false → HasRegionFault old fault
    at_text : begins_region old.rest ≡ true → (cause : Fault) (place : ℕ) → fault_of fault.cause ≡ cause → IsPosition (whole old) place fault.pos → fault.committed ≡ true
        → ((path : ℕ → Path) → (st : State) × (region_at dialects types_at attr (naming (format_of dialects) path) true old.rest (going (start_with earlier)) ≡ Stopped (going st) cause place)) → HasRegionFault old fault
    by_names : begins_region old.rest ≡ true → (f : Failure Text ℕ) → IsOf (whole old) f fault → fault.committed ≡ true
        → ((path : ℕ → Path) → EndsIn (failed f) (region_at dialects types_at attr (naming (format_of dialects) path) true old.rest (going (start_with earlier)))) → HasRegionFault old fault

module _ {T A U : Type 0} (types_at : Text → Outcome T) (attr : Text → Outcome (AttrView A)) where
  -- No region was parsed. If the operation is not isolated from above, the fault says so, whatever the text is. If it is isolated, the
  -- fault is that of the text.
  pub data MissesRegion (op : Ptr Operation) (old : StateStream T A U) (fault : ParseFault A) : Type 0 where
    not_isolated : IsUnisolated (unisolated old.state.ctx.now op) fault → MissesRegion op old fault
    in_text : unisolated old.state.ctx.now op ≡ None → HasRegionFault types_at attr old.state.ctx.now.dialects (indices_of (marks_of old.state)) old.stream fault → MissesRegion op old fault

module _ {T A U : Type 0} (types : Texts T) (owns : Texts A) (types_at : Text → Outcome T) (attr : Text → Outcome (AttrView A)) where
  -- A region of an isolated operation was parsed from the old position of the stream to the new one, and this text has no fault. It is
  -- built in the context as on a fresh state; the marks that were recorded earlier stay before its own.
  pub record ReadsRegion (op : Ptr Operation) (r : Ptr Region) (old new : StateStream T A U) : Type 0 where
    pub isolated : unisolated old.state.ctx.now op ≡ None
    pub came : IsRegionText types_at attr old.state.ctx.now.dialects (indices_of (marks_of old.state)) old.stream.rest new.stream.rest
    pub parsed : BuildsRegion types owns (marks_of old.state) op r old new
