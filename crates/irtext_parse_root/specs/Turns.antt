-- Between functions: what each action of the loop promises: what was parsed, the names, and what was added to the context.
use Rattle.std.specs.Prelude.{◌≡◌, ◌≤◌, ℕ, Bool, true, List, [], ◌∷◌, ◌++◌, length, map, Option, Some, is_some, slice_get}
use Rattle.irtext_base.specs.Text.{Text}
use Rattle.irtext_base.specs.Answers.{Read}
use Rattle.irtext_base.specs.Faults.{id_of}
use Rattle.irtext_base.specs.Locations.{AttrView}
use Rattle.irtext_context.specs.Context.{OperationView, operation}
use Rattle.irtext_context.specs.Dialects.{Table}
use Rattle.irtext_context.specs.declared.base.item.Item.TheVariants as item
use Rattle.irtext_graph.specs.declared.arena.Ptr.{Ptr}
use Rattle.irtext_graph.specs.declared.object.BasicBlock.{BasicBlock}
use Rattle.irtext_graph.specs.declared.object.Operation.{Operation}
use Rattle.irtext_graph.specs.declared.object.Region.{Region}
use Rattle.irtext_graph.specs.declared.object.Object.TheVariants.{TheOperation, TheBlock, TheRegion}
use Rattle.irtext_graph.specs.Graph.{IsNew}
use Rattle.irtext_tokens.specs.Infix.{Reader, ◌▷◌}
use Rattle.irtext_scopes.specs.Tracker.{entered, left}
use Rattle.irtext_scopes.specs.Scopes.{is_open, outer}
use Rattle.irtext_tokens.specs.Tokens.{space_at}
use Rattle.irtext_parse_state.specs.States.{marks_of}
use Rattle.irtext_parse_state.specs.declared.parsable.state.StateStream.{StateStream}
use Rattle.irtext_grammar.specs.Contexts.Formats.{format_of}
use Rattle.irtext_grammar.specs.Contexts.Held.{whole}
use Rattle.irtext_grammar.specs.Grammar.Tree.{Mark}
use Rattle.irtext_grammar.specs.Graphs.Build.{put_all, read_names}
use Rattle.irtext_grammar.specs.Heads.{Step, mark_if_at}
use Rattle.irtext_grammar.specs.Reached.{steps_in}
use Rattle.irtext_grammar.specs.Resume.{OpenOperation}
use Rattle.irtext_grammar.specs.Grows.{RegionCame, OperationGains, RegionGains, BlockCame, OwnBecame}
use Rattle.irtext_grammar.specs.Unchanged.{OwnSoFar, HasOwn, HasUses, ModifiesOnly}
use Rattle.irtext_parse_pieces.specs.declared.coming.Coming.{Coming}
use Rattle.irtext_parse_nested.specs.declared.frame.BegunOperation.{BegunOperation}
use Rattle.irtext_parse_nested.specs.declared.frame.BegunRegion.{BegunRegion}
use Rattle.irtext_parse_nested.specs.declared.frame.BegunBlock.{BegunBlock}
use Rattle.irtext_parse_nested.specs.Beginning.{HasBegun, ComesInto}
use Rattle.irtext_parse_nested.specs.OpenOperation.{IsBegun, IsRegion}
use Rattle.irtext_parse_pieces.specs.Coming.{IsStep}
use Rattle.irtext_names.specs.Carriers.{noted_as}
use Rattle.irtext_names.specs.Items.{Names}
use Rattle.irtext_parse_nested.specs.Later.{GoesOn}
use Rattle.irtext_names.specs.Located.{IsLocated}
use Rattle.irtext_parse_nested.specs.Read.{begun_by, BeginsOperation, EndsOperation, BeginsRegion, EndsRegion, BeginsBlock}
use Rattle.irtext_parse_root.specs.Turned.{Carries}

-- ---- which action it is
-- the next step of an open operation is of this kind
abbrev pub IsNext : List (Text × Table) → BegunOperation → Coming → Type 0
IsNext dialects b c = IsStep c (slice_get (steps_in dialects (id_of b.id)) b.step)

-- what was parsed so far of an operation that was begun is that of an open operation
abbrev pub IsOpenOperation : {T A U : Type 0} → Names → StateStream T A U → BegunOperation → Type 0
IsOpenOperation {T} {A} names s b = (o : OpenOperation T A) × IsBegun names.names (whole s.stream) s.state.ctx.now b o

-- the same, and a step of its format is left
abbrev pub HasNextStep : {T A U : Type 0} → Names → StateStream T A U → BegunOperation → Type 0
HasNextStep {T} {A} names s b = (o : OpenOperation T A) × (step : Step) × (ss : List Step) × IsBegun names.names (whole s.stream) s.state.ctx.now b o × (o.steps ≡ step ∷ ss)

-- the region that was begun is one of the text, at some place
abbrev pub IsOpenRegion : {T A U : Type 0} → Names → StateStream T A U → BegunRegion → Type 0
IsOpenRegion names s r = (place : ℕ) × IsRegion names.names (whole s.stream) s.state.ctx.now r r.isolated place

-- ---- what the actions promise
-- the same number of scopes is open
pub record SameDepth (before names : Names) : Type 0 where
  pub values : length names.values ≡ length before.values
  pub labels : length names.labels ≡ length before.labels

module _ {T A U : Type 0} where
  module _ (types_at : Reader T) (attr : Reader (AttrView A)) (before : Names) (old : StateStream T A U) where
    -- an operation was begun, outside of every region or in a block
    pub record Begins (block : Option (Ptr BasicBlock)) (b : BegunOperation) (names : Names) (new : StateStream T A U) : Type 0 where
      pub begins : BeginsOperation types_at attr (is_some block) before old b names new
      pub own : OwnSoFar T A
      pub has : HasBegun (format_of old.state.ctx.now.dialects) (begun_by types_at attr (is_some block) old new.stream.rest begins.read) own
      pub comes : ComesInto (IsLocated old.state.src (whole old.stream)) old.state.ctx.now new.state.ctx.now b.op own block
      pub marks : marks_of new.state ≡ marks_of old.state
      pub carries : Carries before old names new
      pub depth : SameDepth before names
      pub fresh : (m : ℕ) → m ≤ old.state.ctx.now.graph.made → IsNew m new.state.ctx.now.graph (TheOperation b.op)

    -- a piece after a region was parsed, by the next step of an open operation
    pub record Continues (b next : BegunOperation) (names : Names) (new : StateStream T A U) : Type 0 where
      pub goes : GoesOn types_at attr before old b next names new
      pub spares : ModifiesOnly (TheOperation b.op ∷ []) old.state.ctx.now new.state.ctx.now
      pub marks : marks_of new.state ≡ marks_of old.state
      pub carries : Carries before old names new
      pub depth : SameDepth before names

    -- an operation was ended
    pub record Ends (b : BegunOperation) (names : Names) (new : StateStream T A U) : Type 0 where
      pub ends : (o : OpenOperation T A) → IsBegun before.names (whole old.stream) old.state.ctx.now b o
          → EndsOperation types_at attr o b before old names new
          × ((own : OwnSoFar T A) (view : OperationView T A) → operation old.state.ctx.now b.op ≡ Some view → HasOwn (IsLocated old.state.src (whole old.stream)) view own → HasUses old.state.ctx.now b.op own
          → OwnBecame old.state.ctx.now new.state.ctx.now (IsLocated old.state.src (whole old.stream)) b.op (record own { entries = put_all own.entries (read_names (map (λ n. n.text) o.names)) }))
      pub spares : ModifiesOnly (TheOperation b.op ∷ []) old.state.ctx.now new.state.ctx.now
      pub noted : (mark : Option (Mark ℕ)) (taken : Text) → (space_at ▷ mark_if_at) old.stream.rest ≡ Read mark taken new.stream.rest
          → marks_of new.state ≡ marks_of old.state ++ noted_as mark (item.Operation b.op)
      pub carries : Carries before old names new
      pub depth : SameDepth before names

    -- a region was begun in an operation
    pub record Enters (op : Ptr Operation) (iso : Bool) (r : BegunRegion) (names : Names) (new : StateStream T A U) : Type 0 where
      pub begins : BeginsRegion types_at attr iso r before old names new
      pub came : RegionCame old.state.ctx.now new.state.ctx.now r.region
      pub gains : OperationGains old.state.ctx.now new.state.ctx.now op r.region
      pub spares : ModifiesOnly (TheRegion r.region ∷ TheOperation op ∷ []) old.state.ctx.now new.state.ctx.now
      pub marks : marks_of new.state ≡ marks_of old.state
      pub carries : Carries before old names new
      pub values : names.values ≡ entered iso before.values
      pub labels : names.labels ≡ [] ∷ before.labels
      pub is_in : is_open names.values ≡ true
      pub fresh : (m : ℕ) → m ≤ old.state.ctx.now.graph.made → IsNew m new.state.ctx.now.graph (TheRegion r.region)

    -- a region was ended
    pub record Leaves (r : BegunRegion) (names : Names) (new : StateStream T A U) : Type 0 where
      pub ends : (place : ℕ) → IsRegion before.names (whole old.stream) old.state.ctx.now r r.isolated place → EndsRegion types_at attr r.isolated place before old names new
      pub state : new.state ≡ old.state
      pub carries : Carries before old names new
      pub values : names.values ≡ left r.isolated before.values
      pub labels : names.labels ≡ outer before.labels

    -- a block was begun in a region
    pub record Heads (region : Ptr Region) (b : BegunBlock) (names : Names) (new : StateStream T A U) : Type 0 where
      pub begins : BeginsBlock types_at attr b before old names new
      pub came : BlockCame old.state.ctx.now new.state.ctx.now (IsLocated old.state.src (whole old.stream)) b.block begins.head
      pub gains : RegionGains old.state.ctx.now new.state.ctx.now region b.block
      pub spares : ModifiesOnly (TheBlock b.block ∷ TheRegion region ∷ []) old.state.ctx.now new.state.ctx.now
      pub noted : marks_of new.state ≡ marks_of old.state ++ noted_as begins.head.mark (item.Block b.block)
      pub carries : Carries before old names new
      pub depth : SameDepth before names
      pub fresh : (m : ℕ) → m ≤ old.state.ctx.now.graph.made → IsNew m new.state.ctx.now.graph (TheBlock b.block)
