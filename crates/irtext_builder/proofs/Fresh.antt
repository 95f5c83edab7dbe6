-- What was made last is new, and can be inserted into what stood before.
use Rattle.std.proofs.Common.{◌≡◌, ◌∙◌, ◌≤◌, ℕ, zero, suc, refl, sym, ap, subst, arith, Bool, true, false, nat_lt, Option, Some, None, IsSome, List}
use Rattle.std.proofs.lemmas.Bool.{ltb-true}
use Rattle.std.specs.Option.{option_map}
use Rattle.std.specs.Prelude.{option_and_then}
use Rattle.irtext_graph.specs.Back.{AllOlder, IsClosedBelow}
use Rattle.irtext_graph.specs.Content.{Content, OperationContent, BlockContent, Content.{AnOperation, ABlock, ARegion}}
use Rattle.irtext_graph.specs.Graph.{GraphView, Appends, CanInsert, IsLive, IsNew, parent, parent_of, content_of}
use Rattle.irtext_graph.specs.Graph as graphs
use Rattle.irtext_graph.specs.Nested.{climb}
use Rattle.irtext_graph.specs.Objects.{is_older}
use Rattle.irtext_graph.specs.Regions.{with_child}
use Rattle.irtext_graph.specs.Store.{get, object_of}
use Rattle.irtext_graph.specs.declared.arena.Ptr.{Ptr}
use Rattle.irtext_graph.specs.declared.object.BasicBlock.{BasicBlock}
use Rattle.irtext_graph.specs.declared.object.Object.{Object}
use Rattle.irtext_graph.specs.declared.object.Object.TheVariants.{TheOperation, TheBlock, TheRegion}
use Rattle.irtext_graph.specs.declared.object.Operation.{Operation}
use Rattle.irtext_graph.specs.declared.object.Region.{Region}
use Rattle.irtext_graph.proofs.Frames.{new_block}
use Rattle.irtext_graph.proofs.Marks.{block_came}
use Rattle.irtext_graph.proofs.Nests.{some_eq, climb-none}
use Rattle.irtext_context.specs.Context.{ContextView, OperationView, block, block_of, known, operation, operation_of, view_of, KeepsOlder, MakesBlock}
use Rattle.irtext_context.specs.Made.{AddsRegions}
use Rattle.irtext_context.specs.declared.base.block.BlockData.{BlockData}
use Rattle.irtext_context.specs.declared.base.operation.OperationData.{OperationData}
use Rattle.irtext_context.proofs.Contexts.{OperationEntry, BlockEntry, made_seen, same-paths}
use Rattle.irtext_checked.proofs.MadeLive.{live_after}
use Rattle.irtext_builder.specs.Drafts.{Draft, MakesDraft}

not_below : (a b : ℕ) → b ≤ a → nat_lt a b ≡ false
not_below a b le = go (nat_lt a b) refl
  where
    go : (t : Bool) → nat_lt a b ≡ t → t ≡ false
    go false e = refl
    go true e = let l = ltb-true a b e in absurd (omega arith)

module _ {O B T : Type 0} (g : GraphView O B T) where
  -- what is nested in something new is new
  new_inside : (m : ℕ) → IsClosedBelow m g → (n : ℕ) (q o : Object) → climb (parent g) n (Some q) ≡ Some o → IsNew m g o → IsNew m g q
  new_inside m closed zero q o at new = subst (IsNew m g) (sym (some_eq at)) new
  new_inside m closed (suc n) q o at new = go (parent g q) refl at (λ k e. new_inside m closed n k o e new)
    where
      go : (up : Option Object) → parent g q ≡ up → climb (parent g) n up ≡ Some o → ((k : Object) → climb (parent g) n (Some k) ≡ Some o → IsNew m g k) → IsNew m g q
      go None is e rest = let none = climb-none (parent g) n in absurd (cc)
      go (Some k) is e rest = closed.parents q k is (rest k e)

  -- in what has no children there is nothing else
  alone_inside : (t : Object) → ((x : Object) → parent g x ≡ Some t → ⊥) → (n : ℕ) (q : Object) → climb (parent g) n (Some q) ≡ Some t → q ≡ t
  alone_inside t childless zero q at = some_eq at
  alone_inside t childless (suc n) q at = go (parent g q) refl at (λ k e. alone_inside t childless n k e)
    where
      go : (up : Option Object) → parent g q ≡ up → climb (parent g) n up ≡ Some t → ((k : Object) → climb (parent g) n (Some k) ≡ Some t → k ≡ t) → q ≡ t
      go None is e rest = let none = climb-none (parent g) n in absurd (cc)
      go (Some k) is e rest = absurd (childless q (is ∙ ap Some (rest k e)))

  -- what is new and has no parent can be inserted into what is not new
  pub can_insert_new : (m : ℕ) (k c : Object) → IsClosedBelow m g → IsNew m g c → (IsNew m g k → ⊥) → parent g c ≡ None → CanInsert g k c
  can_insert_new m k c closed new old free = record { free = free; apart = λ w. old (new_inside m closed w.0 k c w.1 new) }

  -- what has no children and no parent can be inserted into anything else
  pub can_insert_alone : (k c : Object) → ((x : Object) → parent g x ≡ Some c → ⊥) → (k ≡ c → ⊥) → parent g c ≡ None → CanInsert g k c
  can_insert_alone k c childless other free = record { free = free; apart = λ w. other (alone_inside c childless w.0 k w.1) }

module _ {T A : Type 0} where
  grown_age : (r : Ptr Region) (o : Option (OperationEntry T A)) → content_of (option_map (object_of (with_child r)) o) ≡ content_of o
  grown_age r None = refl
  grown_age r (Some x) = refl

  grown_free : (r : Ptr Region) (o : Option (OperationEntry T A)) → parent_of (option_map (object_of (with_child r)) o) ≡ parent_of o
  grown_free r None = refl
  grown_free r (Some x) = refl

  -- an operation is as old, and has the parent that it had, after regions were appended to it
  regions_age : (n : ℕ) (mid new : ContextView T A) (op : Ptr Operation) → AddsRegions n mid new op → content_of (get new.graph.operations op) ≡ content_of (get mid.graph.operations op)
  regions_age zero mid new op e = ap (λ (c : ContextView T A). content_of (get c.graph.operations op)) e
  regions_age (suc n) mid new op (last, r, adds, one) = ap content_of one.graph.operations.updates.changed ∙ grown_age r (get last.graph.operations op) ∙ regions_age n mid last op adds

  regions_free : (n : ℕ) (mid new : ContextView T A) (op : Ptr Operation) → AddsRegions n mid new op → parent_of (get new.graph.operations op) ≡ parent_of (get mid.graph.operations op)
  regions_free zero mid new op e = ap (λ (c : ContextView T A). parent_of (get c.graph.operations op)) e
  regions_free (suc n) mid new op (last, r, adds, one) = ap parent_of one.graph.operations.updates.changed ∙ grown_free r (get last.graph.operations op) ∙ regions_free n mid last op adds

  -- an operation that a draft describes was made: it is live, new, and has no parent
  pub live_draft : {d : Draft T A} {old new : ContextView T A} (op : Ptr Operation) → MakesDraft d old new op → IsSome (operation new op)
  live_draft {d} {old} {new} op m = live_after d.regions m.middle new op (subst (λ o. IsSome o) (sym (made_seen old m.middle op _ d.types m.makes)) refl) m.adds

  pub new_draft : {d : Draft T A} {old new : ContextView T A} (op : Ptr Operation) → MakesDraft d old new op → (m : ℕ) → m ≤ old.graph.made → IsNew m new.graph (TheOperation op)
  new_draft {d} {old} {new} op k m up =
      ap (λ c. is_older {O = Option (OperationData A)} {B = BlockData A} {T = Option T} m (option_map (λ d. AnOperation d.0 d.1) c)) (regions_age d.regions k.middle new op k.adds ∙ ap content_of k.makes.graph.operations.updates.changed)
      ∙ not_below old.graph.made m up

  pub free_draft : {d : Draft T A} {old new : ContextView T A} (op : Ptr Operation) → MakesDraft d old new op → parent new.graph (TheOperation op) ≡ None
  free_draft {d} {old} {new} op k = ap (option_map TheBlock) (regions_free d.regions k.middle new op k.adds ∙ ap parent_of k.makes.graph.operations.updates.changed)

  -- a block that stood when a mark was taken stands, and is not new
  pub block_stands : {mark : ℕ} {old mid : ContextView T A} → AllOlder mark old.graph → KeepsOlder mark old mid → (b : Ptr BasicBlock) → IsSome (block old b) → IsNew mark mid.graph (TheBlock b) → ⊥
  block_stands {mark} {old} {mid} all kept b there new = gone (get old.graph.blocks b) (sym (all.blocks b) ∙ sym (kept.graph.blocks b) ∙ new_block mark mid.graph b new) there
    where
      gone : (was : Option (BlockEntry T A)) → was ≡ None → IsSome (option_map block_of was) → ⊥
      gone None e h = absurd (cc)
      gone (Some x) e h = absurd (cc)

  abbrev an_operation : ℕ × OperationContent (Option (OperationData A)) (Option T) → Content (Option (OperationData A)) (BlockData A) (Option T)
  an_operation d = AnOperation d.0 d.1

  abbrev a_block : ℕ × BlockContent (BlockData A) (Option T) → Content (Option (OperationData A)) (BlockData A) (Option T)
  a_block d = ABlock d.0 d.1

  -- an operation is live after something was inserted
  pub appended_live : (old new : ContextView T A) (k c : Object) → Appends old.graph new.graph k c → (q : Ptr Operation) → IsSome (operation old q) → IsSome (operation new q)
  appended_live old new k c a q = go (get old.graph.operations q) (get new.graph.operations q) (a.objects.contents (TheOperation q))
    where
      held : Option (Content (Option (OperationData A)) (BlockData A) (Option T)) → Option (Option (OperationData A))
      held None = None
      held (Some (AnOperation b c)) = Some c.data_of
      held (Some (ABlock b c)) = None
      held (Some (ARegion b c)) = None

      inner : (f g : OperationData A → OperationView T A) (d h : Option (OperationData A)) → Some h ≡ Some d → IsSome (option_map f d) → IsSome (option_map g h)
      inner f g None h e s = absurd (cc)
      inner f g (Some d) None e s = absurd (cc)
      inner f g (Some d) (Some h) e s = refl

      go : (v w : Option (OperationEntry T A)) → option_map an_operation (content_of w) ≡ option_map an_operation (content_of v)
          → IsSome (option_and_then operation_of v) → IsSome (option_and_then operation_of w)
      go None w e s = absurd (cc)
      go (Some v) None e s = absurd (cc)
      go (Some v) (Some w) e s = inner (view_of v.content.content.results v.content.children) (view_of w.content.content.results w.content.children) v.content.content.data_of w.content.content.data_of (ap held e) s

  -- what is not new is live
  pub not_new_lives : (m : ℕ) (g : GraphView (Option (OperationData A)) (BlockData A) (Option T)) (b : Ptr BasicBlock) → (IsNew m g (TheBlock b) → ⊥) → IsLive g (TheBlock b)
  not_new_lives m g b old = go (get g.blocks b) old
    where
      go : (o : Option (BlockEntry T A)) → (is_older m (option_map a_block (content_of o)) ≡ false → ⊥) → IsSome (option_map a_block (content_of o))
      go None old = absurd (old refl)
      go (Some x) old = refl

  -- a block that was made is new, and has no parent and no children
  pub new_outline : {old new : ContextView T A} (b : Ptr BasicBlock) {held : BlockData A} {types : List T} → MakesBlock old new b held types → (m : ℕ) → m ≤ old.graph.made → IsNew m new.graph (TheBlock b)
  new_outline {old} b k m up = ap (λ e. is_older {O = Option (OperationData A)} {B = BlockData A} {T = Option T} m (option_map (λ d. ABlock d.0 d.1) (content_of e))) k.graph.blocks.updates.changed ∙ not_below old.graph.made m up

  pub free_outline : {old new : ContextView T A} (b : Ptr BasicBlock) {held : BlockData A} {types : List T} → MakesBlock old new b held types → parent new.graph (TheBlock b) ≡ None
  free_outline b k = ap (λ e. option_map TheRegion (parent_of e)) k.graph.blocks.updates.changed

  pub childless_outline : {old new : ContextView T A} (b : Ptr BasicBlock) {held : BlockData A} {types : List T} → MakesBlock old new b held types → AllOlder old.graph.made old.graph → KeepsOlder old.graph.made old new
      → ((c k : Object) → parent old.graph c ≡ Some k → IsLive old.graph k) → (x : Object) → parent new.graph x ≡ Some (TheBlock b) → ⊥
  childless_outline {old} {new} b {held} {types} k all kept holders (TheOperation p) e =
      gone (get old.graph.blocks b) (sym (all.blocks b) ∙ sym (kept.graph.blocks b) ∙ block_came old.graph.made old.graph new.graph b held (known types) (omega arith) k.graph)
      (holders (TheOperation p) (TheBlock b) (sym (ap (λ s. option_map TheBlock (parent_of (get s p))) k.graph.operations) ∙ e))
    where
      gone : (was : Option (BlockEntry T A)) → was ≡ None → IsSome (option_map a_block (content_of was)) → ⊥
      gone None e h = absurd (cc)
      gone (Some x) e h = absurd (cc)
  childless_outline {old} {new} b k all kept holders (TheBlock c) e = other (parent_of (get new.graph.blocks c)) e
    where
      other : (o : Option (Ptr Region)) → option_map TheRegion o ≡ Some (TheBlock b) → ⊥
      other None h = absurd (cc)
      other (Some r) h = absurd (cc)
  childless_outline {old} {new} b k all kept holders (TheRegion c) e = other (parent_of (get new.graph.regions c)) e
    where
      other : (o : Option (Ptr Operation)) → option_map TheOperation o ≡ Some (TheBlock b) → ⊥
      other None h = absurd (cc)
      other (Some r) h = absurd (cc)

  -- what is kept of a graph is kept of its context
  pub kept_context : (mark : ℕ) (mid new : ContextView T A) → graphs.KeepsOlder mark mid.graph new.graph → new ≡ record mid { graph = new.graph } → KeepsOlder mark mid new
  kept_context mark mid new k rest = record {
    graph = k;
    paths = same-paths (ap (λ (c : ContextView T A). c.paths) rest);
    dialects = ap (λ (c : ContextView T A). c.dialects) rest;
  }

  regions_blocks : (n : ℕ) (mid new : ContextView T A) (op : Ptr Operation) → AddsRegions n mid new op → new.graph.blocks ≡ mid.graph.blocks
  regions_blocks zero mid new op e = ap (λ (c : ContextView T A). c.graph.blocks) e
  regions_blocks (suc n) mid new op (last, r, adds, one) = one.graph.blocks ∙ regions_blocks n mid last op adds

  -- a block is as new as it was before an operation was made
  pub block_still_new : {d : Draft T A} {old new : ContextView T A} (op : Ptr Operation) → MakesDraft d old new op → (m : ℕ) (b : Ptr BasicBlock) → IsNew m old.graph (TheBlock b) → IsNew m new.graph (TheBlock b)
  block_still_new {d} {old} {new} op k m b n = ap (λ s. is_older m (option_map a_block (content_of (get s b)))) (regions_blocks d.regions k.middle new op k.adds ∙ k.makes.graph.blocks) ∙ n

  -- a region is as new as it was before a block was made
  pub region_still_new : {old new : ContextView T A} (b : Ptr BasicBlock) {held : BlockData A} {types : List T} → MakesBlock old new b held types → (m : ℕ) (r : Ptr Region) → IsNew m old.graph (TheRegion r) → IsNew m new.graph (TheRegion r)
  region_still_new b k m r n = ap (λ s. is_older {O = Option (OperationData A)} {B = BlockData A} {T = Option T} m (option_map (λ d. ARegion d.0 d.1) (content_of (get s r)))) k.graph.regions ∙ n
