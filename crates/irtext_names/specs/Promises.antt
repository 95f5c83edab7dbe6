-- For callers: what parsing an operation with everything nested in it promises, with the section of its marks or without it.
use Rattle.std.specs.Prelude.{◌≡◌, ℕ, Bool, true, false, cond, List, [], ◌∷◌, Some}
use Rattle.irtext_base.specs.Text.{Text}
use Rattle.irtext_base.specs.Own.{Texts}
use Rattle.irtext_base.specs.Stream.{StreamView}
use Rattle.irtext_base.specs.Faults.{Fault, fault_of}
use Rattle.irtext_base.specs.Answers.{Outcome}
use Rattle.irtext_base.specs.Locations.{AttrView}
use Rattle.irtext_base.specs.Paths.{Written}
use Rattle.irtext_base.specs.declared.parsable.fault.ParseFault.{ParseFault}
use Rattle.irtext_context.specs.Dialects.{Table}
use Rattle.irtext_graph.specs.declared.arena.Ptr.{Ptr}
use Rattle.irtext_graph.specs.declared.object.Operation.{Operation}
use Rattle.irtext_parse_state.specs.States.{marks_of}
use Rattle.irtext_parse_state.specs.declared.parsable.state.StateStream.{StateStream}
use Rattle.irtext_grammar.specs.Contexts.Formats.{format_of, isolated}
use Rattle.irtext_grammar.specs.Contexts.Held.{whole, IsPosition}
use Rattle.irtext_grammar.specs.Grammar.Marked.{reads_root}
use Rattle.irtext_grammar.specs.Grammar.Reads as grammar
use Rattle.irtext_grammar.specs.Grammar.Section.{Entry}
use Rattle.irtext_grammar.specs.Grammar.Tree.{Tree}
use Rattle.irtext_grammar.specs.Graphs.Build.{build}
use Rattle.irtext_grammar.specs.Names.Acts.{failures_of, tree_script}
use Rattle.irtext_grammar.specs.Names.History.{going, failed, start}
use Rattle.irtext_grammar.specs.Names.History as history
use Rattle.irtext_grammar.specs.Names.Scopes.{Scopes, no_scope}
use Rattle.irtext_grammar.specs.Names.Script.{Failure, Path, done}
use Rattle.irtext_grammar.specs.Names.TextScopes.{facts}
use Rattle.irtext_grammar.specs.Promises.Root.{location_of, IsCause, IsPlace}
use Rattle.irtext_grammar.specs.Promises.Section.{Moves, indices_of}
use Rattle.irtext_grammar.specs.Promises.Supported.{supported, location_verdict, is_committed}
use Rattle.irtext_grammar.specs.Heads.{led_at}
use Rattle.irtext_grammar.specs.Naming.{naming}
use Rattle.irtext_grammar.specs.Reached.{Stopped, operation_at}
use Rattle.irtext_grammar.specs.Resume.{EndsIn}
use Rattle.irtext_names.specs.Held.{held_root, IsWhole}
use Rattle.irtext_names.specs.OnlyNew.{OnlyNew}

-- ---- marks that were recorded earlier
-- the machine of names and marks before any name, with these indices marked
abbrev pub start_with : List ℕ → history.State
start_with marks = record start { marks = marks }

-- no scope is open, and these indices are marked
abbrev pub outside_with : List ℕ → Scopes Text
outside_with marks = record no_scope { marks = marks }

-- ---- faults
module _ {A : Type 0} where
  -- the fault is this failure: it has its cause, and is at its place of the text, or at the beginning of the text if it has no place
  abbrev pub IsOf : Text → Failure Text ℕ → ParseFault A → Type 0
  IsOf text f fault = IsCause f.cause (fault_of fault.cause) × IsPlace text f.at fault.pos

  -- the fault is the first of these failures
  abbrev pub IsFirst : Text → List (Failure Text ℕ) → ParseFault A → Type 0
  IsFirst text [] fault = ⊥
  IsFirst text (f ∷ fs) fault = IsOf text f fault

  -- the fault is the first of these failures, and committed
  pub record FailsFirst (text : Text) (fs : List (Failure Text ℕ)) (fault : ParseFault A) : Type 0 where
    pub first : IsFirst text fs fault
    pub flag : fault.committed ≡ true

module _ {T A : Type 0} (types_at : Text → Outcome T) (attr : Text → Outcome (AttrView A)) (dialects : List (Text × Table)) (earlier : List ℕ) where
  -- The fault of a text whose end is `rest`, at which an operation outside of every region is expected, where the earlier indices are
  -- marked. Either it is a fault of the text, and no name had failed before it; it is committed unless no operation comes next. Among
  -- these are the first name that the operation itself uses, since no scope is open, and the first attribute of an operation that is not
  -- allowed under its key.
  -- Or it is the failure of a name or a mark, committed, whatever follows in the text. So the text determines which of the two comes
  -- first, even if it parses as no tree.
  pub data HasFault (text rest : Text) (fault : ParseFault A) : Type 0 where
    at_text : (cause : Fault) (place : ℕ) → fault_of fault.cause ≡ cause → IsPosition text place fault.pos → fault.committed ≡ is_committed (led_at dialects rest)
        → ((path : ℕ → Path) → (st : history.State) × (operation_at dialects types_at attr (naming (format_of dialects) path) false rest (going (start_with earlier)) ≡ Stopped (going st) cause place)) → HasFault text rest fault
    by_names : (f : Failure Text ℕ) → IsOf text f fault → fault.committed ≡ true
        → ((path : ℕ → Path) → EndsIn (failed f) (operation_at dialects types_at attr (naming (format_of dialects) path) false rest (going (start_with earlier)))) → HasFault text rest fault

module _ {T A : Type 0} (types : Texts T) (owns : Texts A) (types_at : Text → Outcome T) (attr : Text → Outcome (AttrView A)) (dialects : List (Text × Table)) where
  -- Whatever the text parses as with these dialects, without a section after it, does not resolve, and the fault is its first failure,
  -- committed; and it is the fault of the text, even if nothing parses.
  pub record RefusesTree (old : StreamView) (fault : ParseFault A) : Type 0 where
    pub first : (tree : Tree ℕ T A) (rest : Text) → grammar.reads (supported dialects types owns) tree old.rest rest → FailsFirst (whole old) (failures_of {X = Written A} (isolated dialects) tree []) fault
    pub at_fault : HasFault {T = T} types_at attr dialects [] (whole old) old.rest fault

  -- Whatever the text parses as with these dialects, with its section, does not resolve, and the fault is its first failure.
  pub record RefusesRoot (old : StreamView) (fault : ParseFault A) : Type 0 where
    pub first : (tree : Tree ℕ T A) (entries : List (Entry ℕ A (Written A))) (rest : Text) → reads_root (supported dialects types owns) (location_verdict attr) tree entries old.rest rest
        → IsFirst (whole old) (failures_of (isolated dialects) tree entries) fault

  -- the one with a section if the flag is true, otherwise the one without
  abbrev pub RefusesWith : Bool → StreamView → ParseFault A → Type 0
  RefusesWith look old fault = cond look (RefusesRoot old fault) (RefusesTree old fault)

-- the indices of the marks of a tree, in the order in which they are parsed
abbrev pub tree_marks : {T A : Type 0} → List (Text × Table) → Tree ℕ T A → List ℕ
tree_marks dialects tree = (facts (tree_script (isolated dialects) tree done)).marks

module _ {T A U : Type 0} (types : Texts T) (owns : Texts A) (attr : Text → Outcome (AttrView A)) where
  -- An operation was parsed at the position of the stream: with the context's dialects, the text up to the new position parses as a tree,
  -- which resolves by itself. What the tree builds is under the returned pointer, nothing else is new, and its marks are recorded.
  pub record BuildsTree (op : Ptr Operation) (old new : StateStream T A U) : Type 0 where
    pub tree : Tree ℕ T A
    pub reads : grammar.reads (supported old.state.ctx.now.dialects types owns) tree old.stream.rest new.stream.rest
    pub resolves : failures_of {X = Written A} (isolated old.state.ctx.now.dialects) tree [] ≡ []
    pub moves : Moves old.stream new.stream
    pub builds : held_root new.state.ctx.now op ≡ Some (build (isolated old.state.ctx.now.dialects) (location_of new.state.ctx.now.paths old.state.src (whole old.stream)) [] tree)
    pub marks : indices_of (marks_of new.state) ≡ tree_marks old.state.ctx.now.dialects tree
    pub only : OnlyNew op old.state.ctx.now new.state.ctx.now

  -- A root was parsed at the position of the stream: with the context's dialects, the text up to the new position parses as a tree and
  -- its section, and both resolve. What they build is under the returned pointer, without placeholders; nothing else is new, and no mark
  -- is recorded.
  pub record BuildsRoot (op : Ptr Operation) (old new : StateStream T A U) : Type 0 where
    pub tree : Tree ℕ T A
    pub entries : List (Entry ℕ A (Written A))
    pub reads : reads_root (supported old.state.ctx.now.dialects types owns) (location_verdict attr) tree entries old.stream.rest new.stream.rest
    pub resolves : failures_of (isolated old.state.ctx.now.dialects) tree entries ≡ []
    pub moves : Moves old.stream new.stream
    pub builds : held_root new.state.ctx.now op ≡ Some (build (isolated old.state.ctx.now.dialects) (location_of new.state.ctx.now.paths old.state.src (whole old.stream)) entries tree)
    pub is_whole : IsWhole new.state.ctx.now op
    pub fresh : marks_of new.state ≡ []
    pub only : OnlyNew op old.state.ctx.now new.state.ctx.now

  -- the one with a section if the flag is true, otherwise the one without
  abbrev pub BuildsWith : Bool → Ptr Operation → StateStream T A U → StateStream T A U → Type 0
  BuildsWith look op old new = cond look (BuildsRoot op old new) (BuildsTree op old new)
