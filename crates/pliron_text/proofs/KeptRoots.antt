-- What each outcome of a parse leaves of a root that was there: it is kept. And what is gone does not come back.
use Rattle.std.proofs.Common.{◌≡◌, ◌≤◌, ◌+◌, ◌∙◌, ◌==◌, if◌then◌else◌, inl, inr, ℕ, zero, suc, Bool, true, false, Option, Some, None, IsSome, option_map, slice_get, refl, sym, ap, subst, arith}
use Rattle.std.specs.Prelude.{⊤}
use Rattle.std.specs.Option.{option_and_then}
use Rattle.std.proofs.lemmas.Bool.{eqb-true}
use Rattle.irtext_base.specs.Locations.{location_view}
use Rattle.irtext_base.specs.Paths.{KeepsPaths}
use Rattle.irtext_base.proofs.PathKeys.{stays_known}
use Rattle.irtext_context.specs.Context.{ContextView, operation, operation_of, block}
use Rattle.irtext_context.specs.Made.{SameObjects}
use Rattle.irtext_graph.specs.Content.{Node}
use Rattle.irtext_graph.specs.Graph.{GraphView, CountsOn, IsInside, IsLive, content, content_of, parent, parent_of}
use Rattle.irtext_graph.specs.Nested.{climb}
use Rattle.irtext_graph.specs.Regions.{with_child}
use Rattle.irtext_graph.specs.Store.{Store, Cell, GivenOnce, get, generation_at, drawn, object_in, object_of}
use Rattle.irtext_graph.specs.declared.arena.Entry.{Entry}
use Rattle.irtext_graph.specs.declared.arena.Ptr.{Ptr}
use Rattle.irtext_graph.specs.declared.object.BasicBlock.{BasicBlock}
use Rattle.irtext_graph.specs.declared.object.Object.{Object}
use Rattle.irtext_graph.specs.declared.object.Object.TheVariants.{TheOperation, TheBlock, TheRegion}
use Rattle.irtext_graph.specs.declared.object.Operation.{Operation}
use Rattle.irtext_graph.specs.declared.object.Region.{Region}
use Rattle.irtext_graph.proofs.Frames.{as_operation, as_block, as_region}
use Rattle.irtext_graph.proofs.Nests.{some_eq}
use Rattle.irtext_graph.proofs.Pointers.{ptr_or, ptr_same}
use Rattle.irtext_grammar.specs.Contexts.Nested.{pointers, place_of}
use Rattle.irtext_grammar.specs.Grammar.Forest as forest
use Rattle.irtext_grammar.specs.Grammar.Forest.{no_regions, region, no_blocks, no_operations, AllRegions, AllBlocks, AllOperations}
use Rattle.irtext_names.proofs.Ages.{IsHere, here_is_live, live_here}
use Rattle.irtext_names.specs.Alone.{OnlyNewIn}
use Rattle.irtext_names.specs.Held.{PtrRegions, PtrBlocks, PtrOperations}
use Rattle.irtext_names.specs.OnlyNew.{OnlyNew}
use Rattle.pliron_text.specs.Older.{OperationLocated, BlockLocated, RootLocated, KeepsRoot, IsOlder}
use Rattle.pliron_text.proofs.Older as older
use Rattle.pliron_text.proofs.Older.{SameOp, SameBlock, nested_stays, own_same, inside}

-- ---- what is nested in a live operation is live
climb_none : {O : Type 0} (up : O → Option O) (n : ℕ) → climb up n None ≡ None
climb_none up zero = refl
climb_none up (suc n) = refl

child_there : {P C E : Type 0} (f : Ptr P → Object) (e : Option (Entry (Node P C E))) (o : Object) → option_map f (parent_of e) ≡ Some o → IsSome e
child_there f None o h = absurd (cc)
child_there f (Some e) o h = refl

module _ {O B T : Type 0} (g : GraphView O B T) where
  child_here : (q k : Object) → parent g q ≡ Some k → IsHere g q
  child_here (TheOperation p) k e = child_there TheBlock (get g.operations p) k e
  child_here (TheBlock b) k e = child_there TheRegion (get g.blocks b) k e
  child_here (TheRegion r) k e = child_there TheOperation (get g.regions r) k e

  inside_here : (p : Ptr Operation) → IsSome (get g.operations p) → (q : Object) → IsInside g (TheOperation p) q → IsHere g q
  inside_here p l q (zero, e) = subst (IsHere g) (sym (some_eq e)) l
  inside_here p l q (suc n, e) = go (parent g q) refl e
    where
      go : (o : Option Object) → parent g q ≡ o → climb (parent g) n o ≡ Some (TheOperation p) → IsHere g q
      go None f h = absurd (let none = climb_none (parent g) n in cc)
      go (Some k) f h = child_here q k f

-- a new child changes nothing of an object's content
child_content : {P C E : Type 0} (r : Ptr C) (e : Option (Entry (Node P C E))) → content_of (option_map (object_of (with_child r)) e) ≡ content_of e
child_content r None = refl
child_content r (Some e) = refl

-- an operation that is no placeholder has an entry
entry_there : {X Y : Type 0} (f : X → Option Y) (e : Option X) → IsSome (option_and_then f e) → IsSome e
entry_there f None h = absurd (cc)
entry_there f (Some x) h = refl

-- ---- a root is kept
module _ {T A : Type 0} (p : Ptr Operation) (old new : ContextView T A) (live : IsSome (operation old p)) where
  here : IsSome (get old.graph.operations p)
  here = entry_there operation_of (get old.graph.operations p) live

  within : (q : Object) → IsInside old.graph (TheOperation p) q → IsHere old.graph q
  within = inside_here old.graph p here

  -- where each older object is unchanged
  unchanged : ((q : Ptr Operation) → IsSome (get old.graph.operations q) → get new.graph.operations q ≡ get old.graph.operations q)
      → ((b : Ptr BasicBlock) → IsSome (get old.graph.blocks b) → get new.graph.blocks b ≡ get old.graph.blocks b)
      → ((r : Ptr Region) → IsSome (get old.graph.regions r) → get new.graph.regions r ≡ get old.graph.regions r)
      → CountsOn old.graph new.graph → KeepsPaths old.paths new.paths → new.dialects ≡ old.dialects → KeepsRoot p old new
  unchanged operations blocks regions counts paths dialects = record {
    operations = λ q i. operations q (within (TheOperation q) i);
    blocks = λ b i. blocks b (within (TheBlock b) i);
    regions = λ r i. regions r (within (TheRegion r) i);
    contents = λ q l. contents q (live_here old.graph q l);
    counts = counts;
    paths = paths;
    dialects = dialects;
  }
    where
      contents : (q : Object) → IsHere old.graph q → content new.graph q ≡ content old.graph q
      contents (TheOperation q) l = ap (λ e. option_map as_operation (content_of e)) (operations q l)
      contents (TheBlock b) l = ap (λ e. option_map as_block (content_of e)) (blocks b l)
      contents (TheRegion r) l = ap (λ e. option_map as_region (content_of e)) (regions r l)

  pub kept_by_accepted : (op : Ptr Operation) → OnlyNew op old new → KeepsRoot p old new
  kept_by_accepted op only = unchanged only.operations only.blocks only.regions only.counts only.paths only.dialects

  pub kept_by_refused : SameObjects old new → KeepsRoot p old new
  kept_by_refused all = unchanged (λ q l. all.operations q) (λ b l. all.blocks b) (λ r l. all.regions r) all.counts all.paths all.dialects

  -- where a region became the last of an operation that is not in the root
  pub kept_by_region : (op : Ptr Operation) (r : Ptr Region) → OnlyNewIn op r old new → (IsInside old.graph (TheOperation p) (TheOperation op) → ⊥) → KeepsRoot p old new
  kept_by_region op r only apart = record {
    operations = λ q i. only.operations q (within (TheOperation q) i) (λ e. apart (subst (λ z. IsInside old.graph (TheOperation p) (TheOperation z)) e i));
    blocks = λ b i. only.blocks b (within (TheBlock b) i);
    regions = λ s i. only.regions s (within (TheRegion s) i);
    contents = λ q l. contents q (live_here old.graph q l);
    counts = only.counts;
    paths = only.paths;
    dialects = only.dialects;
  }
    where
      contents : (q : Object) → IsHere old.graph q → content new.graph q ≡ content old.graph q
      contents (TheOperation q) l = elim (ptr_or q op) [
        | inl e ↦ ap (λ z. content new.graph (TheOperation z)) e ∙ ap (λ x. option_map as_operation (content_of x)) only.gains ∙ ap (option_map as_operation) (child_content r (get old.graph.operations op)) ∙ sym (ap (λ z. content old.graph (TheOperation z)) e)
        | inr away ↦ ap (λ x. option_map as_operation (content_of x)) (only.operations q l away)
      ]
      contents (TheBlock b) l = ap (λ x. option_map as_block (content_of x)) (only.blocks b l)
      contents (TheRegion s) l = ap (λ x. option_map as_region (content_of x)) (only.regions s l)

-- ---- a kept root is there afterwards, with the files of its locations
module _ {T A : Type 0} (p : Ptr Operation) (old new : ContextView T A) (is_older : IsOlder p old new) where
  abbrev Op : Ptr Operation → Type 0
  Op = SameOp old new p is_older.kept is_older.before.nested

  abbrev Head : Ptr BasicBlock → Type 0
  Head = SameBlock old new p is_older.kept is_older.before.nested

  operation_is : (q : Ptr Operation) → Op q → operation new q ≡ operation old q
  operation_is q e = older.operation_same old new p is_older.kept is_older.before.nested q e

  operation_located : (q : Ptr Operation) → Op q → OperationLocated old q → OperationLocated new q
  operation_located q e l view is = stays_known old.paths new.paths is_older.kept.paths (location_view view.loc) (l view (sym (operation_is q e) ∙ is))

  block_located : (b : Ptr BasicBlock) → Head b → BlockLocated old b → BlockLocated new b
  block_located b e l view is = stays_known old.paths new.paths is_older.kept.paths (location_view view.loc) (l view (sym (older.block_same old new p is_older.kept is_older.before.nested b e) ∙ is))

  mutual
    regions_located : (rs : PtrRegions) → AllRegions Op Head (λ r. ⊤) rs → AllRegions (OperationLocated old) (BlockLocated old) (λ r. ⊤) rs → AllRegions (OperationLocated new) (BlockLocated new) (λ r. ⊤) rs
    regions_located no_regions a l = tt
    regions_located (region r bs rs) a l = (tt, blocks_located bs a.1 l.1, regions_located rs a.2 l.2)

    blocks_located : (bs : PtrBlocks) → AllBlocks Op Head (λ r. ⊤) bs → AllBlocks (OperationLocated old) (BlockLocated old) (λ r. ⊤) bs → AllBlocks (OperationLocated new) (BlockLocated new) (λ r. ⊤) bs
    blocks_located no_blocks a l = tt
    blocks_located (forest.block b os bs) a l = (block_located b a.0 l.0, operations_located os a.1 l.1, blocks_located bs a.2 l.2)

    operations_located : (os : PtrOperations) → AllOperations Op Head (λ r. ⊤) os → AllOperations (OperationLocated old) (BlockLocated old) (λ r. ⊤) os → AllOperations (OperationLocated new) (BlockLocated new) (λ r. ⊤) os
    operations_located no_operations a l = tt
    operations_located (forest.operation q rs os) a l = (operation_located q a.0 l.0, regions_located rs a.1 l.1, operations_located os a.2 l.2)

  pub located_stays : RootLocated new p
  located_stays = (
    operation_located p (own_same p old new is_older) is_older.located.0,
    subst (λ ps. AllRegions (OperationLocated new) (BlockLocated new) (λ r. ⊤) ps.regions) (sym (nested_stays p old new is_older)) (regions_located (pointers old.graph p).regions (inside p old new is_older) is_older.located.1),
  )

  pub there_stays : IsSome (operation new p)
  there_stays = subst IsSome (sym (operation_is p (own_same p old new is_older))) is_older.there

-- ---- what is gone does not come back
none_there : {X : Type 0} (o : Option X) → o ≡ None → IsSome o → ⊥
none_there None e h = cc
none_there (Some x) e h = cc

module _ {X K : Type 0} (s : Store X) where
  given_before : (p : Ptr K) → IsSome (get s p) → p.generation ≤ generation_at s p.index
  given_before p l = go (slice_get s.cells p.index) l
    where
      test : (c : Cell X) (t : Bool) → (c.generation == p.generation) ≡ t → IsSome (if t then c.object else None) → p.generation ≤ c.generation
      test c true q h = let e = eqb-true c.generation p.generation q in omega (arith, e)
      test c false q h = absurd (cc)

      go : (o : Option (Cell X)) → IsSome (object_in o p.generation) → p.generation ≤ drawn o
      go None h = absurd (cc)
      go (Some c) h = test c (c.generation == p.generation) refl h

module _ {X K : Type 0} (first old new : Store X) (a : GivenOnce K first old) (b : GivenOnce K old new) where
  never_again : (p : Ptr K) → IsSome (get first p) → IsSome (get new p) → IsSome (get old p)
  never_again p l h = go (get old p) refl
    where
      go : (o : Option (Entry X)) → get old p ≡ o → IsSome o
      go None e = absurd (
          let given = given_before first p l in
          let risen = a.rises p.index in
          let none = b.gone p (omega (arith, given, risen)) e in
          none_there (get new p) none h)
      go (Some x) e = refl

module _ {T A : Type 0} (first old new : ContextView T A) (a : CountsOn first.graph old.graph) (b : CountsOn old.graph new.graph) where
  pub gone_for_good : (q : Object) → IsLive first.graph q → IsLive new.graph q → IsLive old.graph q
  gone_for_good q l h = here_is_live old.graph q (go q (live_here first.graph q l) (live_here new.graph q h))
    where
      go : (q : Object) → IsHere first.graph q → IsHere new.graph q → IsHere old.graph q
      go (TheOperation p) l h = never_again first.graph.operations old.graph.operations new.graph.operations a.pointers.operations b.pointers.operations p l h
      go (TheBlock p) l h = never_again first.graph.blocks old.graph.blocks new.graph.blocks a.pointers.blocks b.pointers.blocks p l h
      go (TheRegion p) l h = never_again first.graph.regions old.graph.regions new.graph.regions a.pointers.regions b.pointers.regions p l h

  -- the place and generation of a new block were no block's
  pub place_is_new : (d e : Ptr BasicBlock) → IsLive first.graph (TheBlock d) → IsLive new.graph (TheBlock e) → (IsLive old.graph (TheBlock e) → ⊥) → place_of new e ≡ place_of first d → ⊥
  place_is_new d e l h fresh same = fresh (gone_for_good (TheBlock e) (subst (λ z. IsLive first.graph (TheBlock z)) (sym one) l) h)
    where
      one : e ≡ d
      one =
          let places : new.graph.first_place + e.index ≡ first.graph.first_place + d.index = ap (λ z. z.0) same in
          let starts = b.first_place ∙ a.first_place in
          ptr_same e d (omega (arith, places, starts)) (ap (λ z. z.1) same)
