-- Between functions: the names while items are parsed, with the graph and the marks. An item is an operation or a block with its place in
-- the text.
use Rattle.std.specs.Prelude.{◌≡◌, ◌<◌, ◌≤◌, true, ℕ, List, [], ◌++◌, None, IsSome, length}
use Rattle.irtext_base.specs.Text.{Text}
use Rattle.irtext_base.specs.Faults.{Fault, fault_of}
use Rattle.irtext_base.specs.declared.parsable.fault.ParseFault.{ParseFault}
use Rattle.irtext_context.specs.Context.{ContextView, operation, block}
use Rattle.irtext_context.specs.Dialects.{Table}
use Rattle.irtext_graph.specs.declared.arena.Ptr.{Ptr}
use Rattle.irtext_graph.specs.declared.object.BasicBlock.{BasicBlock}
use Rattle.irtext_graph.specs.declared.object.Object.TheVariants.{TheBlock, TheOperation, TheRegion}
use Rattle.irtext_graph.specs.declared.object.Operation.{Operation}
use Rattle.irtext_graph.specs.declared.object.Region.{Region}
use Rattle.irtext_graph.specs.declared.object.Value.{Value}
use Rattle.irtext_graph.specs.declared.object.Value.TheVariants.{Result}
use Rattle.irtext_graph.specs.declared.object.Defined.TheVariants.{OfValue}
use Rattle.irtext_graph.specs.Chained.{Among}
use Rattle.irtext_graph.specs.declared.object.Object.{Object}
use Rattle.irtext_graph.specs.Graph.{parent, IsLive, IsNew}
use Rattle.irtext_graph.specs.Parts.{results}
use Rattle.irtext_graph.specs.Store.{get}
use Rattle.irtext_graph.specs.Used.{IsDefined}
use Rattle.irtext_scopes.specs.declared.tracker.NameTracker.{NameTracker}
use Rattle.irtext_scopes.specs.Names.{KeepsNames}
use Rattle.irtext_parse_state.specs.States.{marks_of}
use Rattle.irtext_parse_state.specs.declared.parsable.state.State as code
use Rattle.irtext_grammar.specs.Contexts.Formats.{format_of}
use Rattle.irtext_grammar.specs.Contexts.Held.{IsPosition}
use Rattle.irtext_grammar.specs.Names.History.{State, Outcome, going, failed}
use Rattle.irtext_grammar.specs.Names.Script.{Path, result}
use Rattle.irtext_grammar.specs.Names.TextScopes.{Failure}
use Rattle.irtext_names.specs.Linked.{Known, NamesAgree}
use Rattle.irtext_names.specs.OfItems.{AreOf}
use Rattle.irtext_names.specs.Tied.{MatchesGraph, ArePending}
use Rattle.irtext_grammar.specs.Promises.Section.{indices_of}
use Rattle.irtext_grammar.specs.Promises.Root.{IsCause, IsPlace}
use Rattle.irtext_grammar.specs.Naming.{naming}
use Rattle.irtext_grammar.specs.Reached.{Actions}

-- the names of a parse, with the values and blocks that they refer to
abbrev pub Names : Type 0
Names = NameTracker Value (Ptr BasicBlock)

-- The names that were known have their numbers, and as many scopes of each kind are open.
pub record KeepsDepths (old new : Names) : Type 0 where
  pub kept : KeepsNames old.names new.names
  pub values : length new.values ≡ length old.values
  pub labels : length new.labels ≡ length old.labels

-- what items do with names, if the item of each place of the text has this path
abbrev pub doing : {T A : Type 0} → List (Text × Table) → (ℕ → Path) → Actions T A Outcome
doing dialects path = naming (format_of dialects) path

-- An open operation: its place in the text, its pointer, and the number of its results.
pub record Pledge : Type 0 where
  pub place : ℕ
  pub op : Ptr Operation
  pub results : ℕ

-- the results of an open operation are those that were made for its path
abbrev pub AreMadeAt : (ℕ → Path) → Known → Pledge → Type 0
AreMadeAt path known w = (i : ℕ) → i < w.results → Among (result (path w.place) i, Result w.op i) known.values

-- the items that were made so far: the place in the text of each operation and each block, and its object
abbrev pub Made : Type 0
Made = List (ℕ × Object)

-- The names, the graph and the marks agree with the state of the machine, nothing is in hand, these items were made, and these operations
-- are open.
pub record MachineAgrees {T A U : Type 0} (path : ℕ → Path) (items : Made) (pledges : List Pledge) (names : Names) (s : code.State T A U) (o : Outcome) : Type 0 where
  pub known : Known
  pub of_items : AreOf path items known
  pub state : State
  pub going : o ≡ going state
  pub agreed : NamesAgree names s.ctx.now.graph known [] state
  pub marks : state.marks ≡ indices_of (marks_of s)
  pub results : (w : Pledge) → Among w pledges → AreMadeAt path known w

-- of what was created since a count, each operation without data has a result, as the placeholders of values have
abbrev pub BlanksDefine : {T A : Type 0} → ℕ → ContextView T A → Type 0
BlanksDefine m c = (p : Ptr Operation) → IsSome (get c.graph.operations p) → operation c p ≡ None → IsNew m c.graph (TheOperation p) → (i : ℕ) × IsDefined c.graph (OfValue (Result p i))

-- the fault is this failure: it has its cause, and is at its place of the text, or at the beginning of the text if the failure has no
-- place
pub record IsFailure {A : Type 0} (text : Text) (failure : Failure) (fault : ParseFault A) : Type 0 where
  pub cause : IsCause failure.cause (fault_of fault.cause)
  pub place : IsPlace text failure.at fault.pos
  pub committed : fault.committed ≡ true

-- the fault is one of the text: it has this cause, and is at this place of the text
pub record IsTextFault {A : Type 0} (text : Text) (cause : Fault) (place : ℕ) (fault : ParseFault A) : Type 0 where
  pub because : fault_of fault.cause ≡ cause
  pub placed : IsPosition text place fault.pos

module _ {T A U : Type 0} where
  -- whenever the old names and state agree with a state of the machine, with these operations open besides others, the act takes it to a
  -- state that the new ones agree with, and these items were made too
  pub record ActsWith (made : Made) (act : (ℕ → Path) → Outcome → Outcome) (old : Names) (s : code.State T A U) (pledges : List Pledge) (new : Names) (z : code.State T A U) (pledges' : List Pledge) : Type 0 where
    pub so : (path : ℕ → Path) (items : Made) (more : List Pledge) (o : Outcome) → MachineAgrees path items (more ++ pledges) old s o → MachineAgrees path (made ++ items) (more ++ pledges') new z (act path o)

  -- the same, and no item was made
  abbrev pub Acts : ((ℕ → Path) → Outcome → Outcome) → Names → code.State T A U → List Pledge → Names → code.State T A U → List Pledge → Type 0
  Acts = ActsWith []

  -- whenever names and state agree with a state of the machine, the act fails, and the fault is for that failure
  pub record ActFails (text : Text) (act : (ℕ → Path) → Outcome → Outcome) (old : Names) (s : code.State T A U) (pledges : List Pledge) (fault : ParseFault A) : Type 0 where
    pub failure : Failure
    pub is : IsFailure text failure fault
    pub so : (path : ℕ → Path) (items : Made) (more : List Pledge) (o : Outcome) → MachineAgrees path items (more ++ pledges) old s o → act path o ≡ failed failure

  -- Of what was created since m, the names wait with placeholders alone, and no older name waits; and each operation without data has a
  -- result.
  pub record IsSound (m : ℕ) (names : Names) (s : code.State T A U) : Type 0 where
    pub tied : MatchesGraph names.values names.labels s.ctx.now.graph
    pub waiting : ArePending m [] names.values names.labels s.ctx.now.graph
    pub blanks : BlanksDefine m s.ctx.now

module _ {T A : Type 0} where
  -- What was live and is no placeholder is still live: each operation that has data, with the same number of results; each block that has
  -- a parent, with the same parent; each region. What was created since a count still was, and the dialects are the same.
  pub record KeepsLive (old new : ContextView T A) : Type 0 where
    pub operations : (p : Ptr Operation) → IsSome (operation old p) → IsSome (operation new p)
    pub results : (p : Ptr Operation) → IsSome (operation old p) → length (results new.graph p) ≡ length (results old.graph p)
    pub blocks : (b : Ptr BasicBlock) → IsSome (block old b) → IsSome (parent old.graph (TheBlock b)) → IsSome (block new b) × (parent new.graph (TheBlock b) ≡ parent old.graph (TheBlock b))
    pub regions : (r : Ptr Region) → IsLive old.graph (TheRegion r) → IsLive new.graph (TheRegion r)
    pub newer : (m : ℕ) (q : Object) → m ≤ old.graph.made → IsNew m old.graph q → IsNew m new.graph q
    pub made : old.graph.made ≤ new.graph.made
    pub dialects : new.dialects ≡ old.dialects
