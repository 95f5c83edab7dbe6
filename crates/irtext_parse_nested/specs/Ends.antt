-- Between functions: what the end of an operation does, step by step: its results are defined, and its mark is recorded.
use Rattle.std.specs.Prelude.{◌≡◌, ℕ, true, false, List, ◌++◌, length, map, Option, Some, None, slice_get}
use Rattle.std.specs.Map.{lookup}
use Rattle.irtext_base.specs.Text.{Text}
use Rattle.irtext_base.specs.Answers.{Read}
use Rattle.irtext_base.specs.Faults as causes
use Rattle.irtext_base.specs.Faults.{fault_of}
use Rattle.irtext_base.specs.Stream.{IsAt}
use Rattle.irtext_base.specs.declared.parsable.fault.ParseFault.{ParseFault}
use Rattle.irtext_stream.specs.Places.{AtOffset}
use Rattle.irtext_context.specs.declared.base.item.Item.{Item}
use Rattle.irtext_graph.specs.declared.object.Value.TheVariants.{Result}
use Rattle.irtext_graph.specs.Graph.{GraphView}
use Rattle.irtext_scopes.specs.Scopes.{is_open}
use Rattle.irtext_tokens.specs.Infix.{◌▷◌}
use Rattle.irtext_tokens.specs.Tokens.{space_at}
use Rattle.irtext_parse_state.specs.States.{same_index, marks_of, Notes}
use Rattle.irtext_grammar.specs.declared.parsed.ReadMark.{ReadMark}
use Rattle.irtext_grammar.specs.declared.parsed.ReadName.{ReadName}
use Rattle.irtext_parse_nested.specs.declared.frame.BegunOperation.{BegunOperation}
use Rattle.irtext_names.specs.Carriers.{noted_as}
use Rattle.irtext_names.specs.Rows.{FailsRow, AreNamed}
use Rattle.irtext_names.specs.Definitions.{IsFaultOf, numbers_of}
use Rattle.irtext_parse_state.specs.declared.parsable.state.State as code
use Rattle.irtext_parse_state.specs.declared.parsable.state.StateStream.{StateStream}
use Rattle.irtext_grammar.specs.Names.History.{Outcome}
use Rattle.irtext_grammar.specs.Names.Script.{Path}
use Rattle.irtext_grammar.specs.Contexts.Held.{entries_of}
use Rattle.irtext_grammar.specs.Grammar.Tree.{Name, Mark}
use Rattle.irtext_grammar.specs.Graphs.Build.{put_all, read_names}
use Rattle.irtext_grammar.specs.Heads.{mark_if_at}
use Rattle.irtext_grammar.specs.Grows.{OwnBecame}
use Rattle.irtext_grammar.specs.Unchanged.{OwnSoFar, HasOwn, HasUses}
use Rattle.irtext_grammar.specs.Parsed.{Represents, Each}
use Rattle.irtext_context.specs.Context.{ContextView, OperationView, operation, EditsOperation, with_attributes}
use Rattle.irtext_graph.specs.declared.arena.Ptr.{Ptr}
use Rattle.irtext_graph.specs.declared.object.Operation.{Operation}
use Rattle.irtext_base.specs.declared.base.attributes.AttrObj.{AttrObj}
use Rattle.irtext_base.specs.declared.location.Location.{Location}
use Rattle.irtext_grammar.specs.Resume.{OpenOperation}
use Rattle.irtext_names.specs.Items.{Names, doing}

-- the operation's results are not defined: there are not as many names as results; or no scope of values is open for them; or a name is
-- already defined
pub data RefusesResults {O B T A : Type 0} (b : BegunOperation) (names : Names) (g : GraphView (Option O) B T) (text : Text) (fault : ParseFault A) : Type 0 where
  uncounted : (length b.names ≡ b.results → ⊥) → fault_of fault.cause ≡ causes.ResultCount b.results (length b.names) → fault.committed ≡ true
      → AtOffset b.at.offset text (λ passed rest. IsAt fault.pos.line fault.pos.column passed) → RefusesResults b names g text fault
  no_scope : (first : ReadName) → slice_get b.names 0 ≡ Some first → length b.names ≡ b.results → is_open names.values ≡ false → IsFaultOf names.names text causes.NoActiveScope first fault → RefusesResults b names g text fault
  defined_twice : (index : ℕ) (read : ReadName) → slice_get b.names index ≡ Some read → length b.names ≡ b.results → FailsRow (Result b.op) (numbers_of b.names) index names g
      → IsFaultOf names.names text causes.MultipleDefinitions read fault → RefusesResults b names g text fault

-- the mark, if one was parsed, was recorded last
abbrev pub NotesMark : {X : Type 0} → Option ReadMark → X → List (ℕ × X) → List (ℕ × X) → Type 0
NotesMark None item old new = new ≡ old
NotesMark (Some mark) item old new = Notes mark.index item true old new

-- the mark that comes next in the text, if one does, was recorded for this item
abbrev pub NotesNext : {T A U : Type 0} → StateStream T A U → StateStream T A U → Item → Type 0
NotesNext old new item = (mark : Option (Mark ℕ)) (taken : Text) → (space_at ▷ mark_if_at) old.stream.rest ≡ Read mark taken new.stream.rest → marks_of new.state ≡ marks_of old.state ++ noted_as mark item

-- marks may have been recorded after the earlier ones
abbrev pub GainsMarks : {X : Type 0} → List (ℕ × X) → List (ℕ × X) → Type 0
GainsMarks {X} old new = (more : List (ℕ × X)) × (new ≡ old ++ more)

-- the index of the parsed mark is already recorded, and the fault is for it, at the mark
pub record RefusesMark {X A : Type 0} (text : Text) (mark : Option ReadMark) (marks : List (ℕ × X)) (fault : ParseFault A) : Type 0 where
  pub read : ReadMark
  pub is : mark ≡ Some read
  pub noted : lookup (same_index read.index) marks ≡ None → ⊥
  pub because : fault_of fault.cause ≡ causes.DuplicateIndex read.index
  pub flag : fault.committed ≡ true
  pub place : AtOffset read.at.offset text (λ passed rest. IsAt fault.pos.line fault.pos.column passed)

-- what the end of an operation does, before its mark
abbrev pub closes_at : {T A U : Type 0} → OpenOperation T A → code.State T A U → (ℕ → Path) → Outcome → Outcome
closes_at {T} {A} o s path = (doing {T = T} {A = A} s.ctx.now.dialects path).closes o.place o.names o.id o.parts

module _ {T A : Type 0} where
  -- the attributes of an operation were written
  pub record WritesAttributes (old new : ContextView T A) (op : Ptr Operation) : Type 0 where
    pub left : List (Text × AttrObj A)
    pub edits : EditsOperation old new op (with_attributes left)

  -- the same, and these names were stored as given names, if there are any
  pub record GivesNames (names : List Text) (read : List ReadName) (old new : ContextView T A) (op : Ptr Operation) : Type 0 where
    pub left : List (Text × AttrObj A)
    pub edits : EditsOperation old new op (with_attributes left)
    pub stored : (view : OperationView T A) → operation old op ≡ Some view → (ws : List (Name ℕ)) → AreNamed names (numbers_of read) ws
        → entries_of left ≡ put_all (entries_of view.attributes) (read_names (map (λ w. w.text) ws))

  -- whatever parts of its own the operation had, it now has these names as given names too
  pub record BecomesNamed (IsLocation : ℕ → Location A → Type 0) (names : List Text) (text : Text) (read : List ReadName) (old new : ContextView T A) (op : Ptr Operation) : Type 0 where
    pub so : (own : OwnSoFar T A) (view : OperationView T A) → operation old op ≡ Some view → HasOwn IsLocation view own → HasUses old op own → (ns : List (Name ℕ)) → Each (Represents names text) read ns
        → OwnBecame old new IsLocation op (record own { entries = put_all own.entries (read_names (map (λ n. n.text) ns)) })
