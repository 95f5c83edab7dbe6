-- For callers: what parsing a single region promises, as the last of an operation, and what parsing a block outside of every region does.
use Rattle.std.specs.Prelude.{◌≡◌, ◌⊎◌, ℕ, true, length, List, [], ◌∷◌, ◌++◌, Option, Some, None, IsSome, ⊤}
use Rattle.std.specs.Option.{option_map}
use Rattle.irtext_base.specs.Text.{Text}
use Rattle.irtext_base.specs.Format.{same_text}
use Rattle.irtext_base.specs.Faults as causes
use Rattle.irtext_base.specs.Faults.{fault_of}
use Rattle.irtext_base.specs.Own.{Texts}
use Rattle.irtext_base.specs.Answers.{Outcome, Read}
use Rattle.irtext_base.specs.Stream.{StreamView, IsAt}
use Rattle.irtext_base.specs.Locations.{AttrView}
use Rattle.irtext_base.specs.Paths.{Written, KeepsPaths}
use Rattle.irtext_base.specs.declared.location.Location.{Location, SrcPos}
use Rattle.irtext_base.specs.declared.parsable.fault.ParseFault.{ParseFault}
use Rattle.irtext_stream.specs.declared.position.SourcePosition.{SourcePosition}
use Rattle.irtext_context.specs.Context.{ContextView}
use Rattle.irtext_context.specs.Dialects.{Table}
use Rattle.irtext_context.specs.declared.base.item.Item.{Item}
use Rattle.irtext_graph.specs.declared.arena.Ptr.{Ptr}
use Rattle.irtext_graph.specs.declared.object.Operation.{Operation}
use Rattle.irtext_graph.specs.declared.object.BasicBlock.{BasicBlock}
use Rattle.irtext_graph.specs.declared.object.Region.{Region}
use Rattle.irtext_graph.specs.declared.object.Object.{Object}
use Rattle.irtext_graph.specs.declared.object.Object.TheVariants.{TheOperation, TheRegion}
use Rattle.irtext_graph.specs.declared.object.Defined.{Defined}
use Rattle.irtext_graph.specs.declared.object.Site.{Site}
use Rattle.irtext_graph.specs.Graph.{parent, CountsOn, IsLive, IsInside}
use Rattle.irtext_graph.specs.Regions.{with_child}
use Rattle.irtext_graph.specs.Store.{get, object_of}
use Rattle.irtext_graph.specs.Used.{IsDefined, IsUse}
use Rattle.irtext_parse_state.specs.States.{marks_of}
use Rattle.irtext_parse_state.specs.declared.parsable.state.StateStream.{StateStream}
use Rattle.irtext_grammar.specs.Contexts.Formats.{isolated}
use Rattle.irtext_grammar.specs.Contexts.Held.{whole}
use Rattle.irtext_grammar.specs.Contexts.Nested.{within, regions_by}
use Rattle.irtext_grammar.specs.Grammar.Forest as forest
use Rattle.irtext_grammar.specs.Grammar.Forest.{Regions, Blocks, no_regions, AllRegions}
use Rattle.irtext_grammar.specs.Grammar.Reads as grammar
use Rattle.irtext_grammar.specs.Grammar.Tree.{Op, Head, Brace, shown}
use Rattle.irtext_grammar.specs.Graphs.Build.{BuiltOp, BuiltBlock, built_regions}
use Rattle.irtext_grammar.specs.Names.Acts.{blocks_script, header_acts}
use Rattle.irtext_grammar.specs.Names.Scopes.{no_scope, facts, failures}
use Rattle.irtext_grammar.specs.Names.Script as script
use Rattle.irtext_grammar.specs.Names.Script.{Script, done, does_all}
use Rattle.irtext_grammar.specs.Promises.Root.{location_of}
use Rattle.irtext_grammar.specs.Promises.Section.{Moves, indices_of}
use Rattle.irtext_grammar.specs.Promises.Supported.{supported}
use Rattle.irtext_grammar.specs.Heads.{head_at}
use Rattle.irtext_names.specs.Carriers.{marks_on_regions}
use Rattle.irtext_names.specs.Held.{PtrRegions, placed_regions, held_regions, OperationWhole, BlockWhole}
use Rattle.irtext_names.specs.Promises.{outside_with, FailsFirst}

-- ---- a region
-- the forest of pointers under a region
abbrev pub pointers_in : {T A : Type 0} → ContextView T A → Ptr Region → PtrRegions
pointers_in c r = regions_by c.graph (within c.graph (length c.graph.operations.cells)) (r ∷ [])

-- the contents of a region, with places as in the one region of a root
abbrev pub held_region : {T A : Type 0} → ContextView T A → Ptr Region → forest.Regions (BuiltOp T A (Written A)) (BuiltBlock T A (Written A)) ⊤
held_region c r = held_regions c (placed_regions [] 0 (pointers_in c r)) (pointers_in c r)

-- everything in a region is live, nothing in it is a placeholder, and each block has a label
abbrev pub IsWholeRegion : {T A : Type 0} → ContextView T A → Ptr Region → Type 0
IsWholeRegion c r = AllRegions (OperationWhole c) (BlockWhole c) (λ q. ⊤) (pointers_in c r)

-- these blocks, in the braces of a region at this place
abbrev pub in_braces : {T A : Type 0} → ℕ → Blocks (Op ℕ T A) (Head ℕ T A) (Brace ℕ) → Regions (Op ℕ T A) (Head ℕ T A) (Brace ℕ)
in_braces place bs = forest.region (shown place) bs no_regions

-- what parsing a region of an isolated operation does with names; its brace is at this place
abbrev pub region_alone : {T A : Type 0} → List (Text × Table) → ℕ → Blocks (Op ℕ T A) (Head ℕ T A) (Brace ℕ) → Script Text ℕ
region_alone dialects place bs = script.within true place (blocks_script (isolated dialects) (0 ∷ []) 0 bs) done

-- The region is the last one of the operation, and only it and what is nested in it is new: each older object is unchanged, except the
-- operation, which has one more region, and what is older has no new uses. Nothing that was given is given again.
pub record OnlyNewIn {T A : Type 0} (op : Ptr Operation) (r : Ptr Region) (old new : ContextView T A) : Type 0 where
  pub live : (q : Object) → IsLive new.graph q → IsLive old.graph q ⊎ IsInside new.graph (TheRegion r) q
  pub is_new : (q : Object) → IsInside new.graph (TheRegion r) q → IsLive old.graph q → ⊥
  pub gains : get new.graph.operations op ≡ option_map (object_of (with_child r)) (get old.graph.operations op)
  pub operations : (p : Ptr Operation) → IsSome (get old.graph.operations p) → (p ≡ op → ⊥) → get new.graph.operations p ≡ get old.graph.operations p
  pub blocks : (b : Ptr BasicBlock) → IsSome (get old.graph.blocks b) → get new.graph.blocks b ≡ get old.graph.blocks b
  pub regions : (q : Ptr Region) → IsSome (get old.graph.regions q) → get new.graph.regions q ≡ get old.graph.regions q
  pub uses : (d : Defined) (s : Site) → IsDefined old.graph d → IsUse new.graph d s → IsUse old.graph d s
  pub counts : CountsOn old.graph new.graph
  pub paths : KeepsPaths old.paths new.paths
  pub dialects : new.dialects ≡ old.dialects

module _ {T A U : Type 0} (types : Texts T) (owns : Texts A) (earlier : List (ℕ × Item)) where
  -- A region was parsed at the position of the stream, where these marks were recorded earlier: with the context's dialects, the text up
  -- to the new position parses as these blocks in braces. They resolve, and none of their marks was recorded earlier. What they build is
  -- in the region, without placeholders; the region is the last one of its operation, and nothing else is new. Their marks are recorded
  -- after the earlier ones, each with the operation or block that carries it.
  pub record BuildsRegion (op : Ptr Operation) (r : Ptr Region) (old new : StateStream T A U) : Type 0 where
    pub blocks : Blocks (Op ℕ T A) (Head ℕ T A) (Brace ℕ)
    pub reads : grammar.region_read (supported old.state.ctx.now.dialects types owns) (shown (length old.stream.rest)) (grammar.block_readings (supported old.state.ctx.now.dialects types owns) blocks) old.stream.rest new.stream.rest
    pub resolves : failures same_text (outside_with (indices_of earlier)) (region_alone old.state.ctx.now.dialects (length old.stream.rest) blocks) ≡ []
    pub moves : Moves old.stream new.stream
    pub builds : held_region new.state.ctx.now r ≡ built_regions (isolated old.state.ctx.now.dialects) (location_of new.state.ctx.now.paths old.state.src (whole old.stream)) [] [] [] 0 true (in_braces (length old.stream.rest) blocks)
    pub is_whole : IsWholeRegion new.state.ctx.now r
    pub attached : parent new.state.ctx.now.graph (TheRegion r) ≡ Some (TheOperation op)
    pub only : OnlyNewIn op r old.state.ctx.now new.state.ctx.now
    pub marks : indices_of (marks_of new.state) ≡ indices_of earlier ++ (facts same_text (region_alone old.state.ctx.now.dialects (length old.stream.rest) blocks)).marks
    pub carried : marks_of new.state ≡ earlier ++ marks_on_regions (in_braces (length old.stream.rest) blocks) (pointers_in new.state.ctx.now r)

-- the position of the error for a region that is not isolated: that of its operation's location, if this is a position in a source;
-- otherwise line 1, column 1
abbrev pub IsOutermost : {A : Type 0} → Location A → SourcePosition → Type 0
IsOutermost (SrcPos source at) pos = pos ≡ at
IsOutermost _ pos = IsAt pos.line pos.column []

-- the operation with this location is not isolated from above, and the fault says so, committed, at the operation's position
pub record IsUnisolated {A : Type 0} (iso : Option (Location A)) (fault : ParseFault A) : Type 0 where
  pub loc : Location A
  pub is : iso ≡ Some loc
  pub because : fault_of fault.cause ≡ causes.NotIsolated
  pub flag : fault.committed ≡ true
  pub at : IsOutermost loc fault.pos

module _ {T A : Type 0} (types : Texts T) (owns : Texts A) (dialects : List (Text × Table)) where
  -- The operation isn't isolated, and the fault says so; or it is, and the fault is the first failure of whatever blocks in braces the
  -- text parses as, committed.
  pub data RefusesRegion (iso : Option (Location A)) (old : StreamView) (fault : ParseFault A) : Type 0 where
    not_isolated : IsUnisolated iso fault → RefusesRegion iso old fault
    first : iso ≡ None → ((blocks : Blocks (Op ℕ T A) (Head ℕ T A) (Brace ℕ)) (rest : Text)
        → grammar.region_read (supported dialects types owns) (shown (length old.rest)) (grammar.block_readings (supported dialects types owns) blocks) old.rest rest
        → FailsFirst (whole old) (failures same_text no_scope (region_alone dialects (length old.rest) blocks)) fault) → RefusesRegion iso old fault

-- ---- a block
-- the fault is the first failure of the header when no scope is open and these indices are marked, committed
abbrev pub FailsOutside : {T A : Type 0} → List ℕ → Text → Head ℕ T A → ParseFault A → Type 0
FailsOutside marks text head = FailsFirst text (failures same_text (outside_with marks) (does_all (header_acts [] head) done))

module _ {T A : Type 0} (types_at : Text → Outcome T) (attr : Text → Outcome (AttrView A)) where
  -- Outside of every region a block is rejected: the fault is committed, and the first failure of whatever header the text parses as.
  pub record RefusesBlock (old : StreamView) (fault : ParseFault A) : Type 0 where
    pub fails : (head : Head ℕ T A) (taken rest : Text) → head_at types_at attr old.rest ≡ Read head taken rest → FailsOutside [] (whole old) head fault
