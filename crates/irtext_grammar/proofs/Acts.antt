-- What a context contains of the text parsed so far, after each item of nested text: if the item creates its object, or changes only the
-- innermost open frame, the context contains what the item builds.
use Rattle.std.proofs.Common.{◌≡◌, ◌∙◌, ℕ, Bool, List, [], ◌∷◌, ◌++◌, Option, Some, None, IsSome, option_map, append-nil, refl, sym, ap, subst, inl, inr}
use Rattle.irtext_base.specs.Format.{Format, Id}
use Rattle.irtext_base.specs.declared.location.Location.{Location}
use Rattle.irtext_context.specs.Context.{ContextView, operation, block, region}
use Rattle.irtext_graph.specs.declared.arena.Ptr.{Ptr}
use Rattle.irtext_graph.specs.declared.object.Operation.{Operation}
use Rattle.irtext_graph.specs.declared.object.BasicBlock.{BasicBlock}
use Rattle.irtext_graph.specs.declared.object.Region.{Region}
use Rattle.irtext_graph.specs.declared.object.Object.{Object}
use Rattle.irtext_graph.specs.declared.object.Object.TheVariants.{TheOperation, TheBlock, TheRegion}
use Rattle.irtext_graph.specs.Chained.{Among}
use Rattle.irtext_grammar.specs.Grammar.Forest as forest
use Rattle.irtext_grammar.specs.Grammar.Forest.{Regions, no_regions, Blocks, no_blocks, Operations, no_operations}
use Rattle.irtext_grammar.specs.Grammar.Tree.{Name, Mark, Piece, Part, Op, Head, Brace, shown, Tree}
use Rattle.irtext_grammar.specs.Naming.{body_of, unmarked}
use Rattle.irtext_grammar.specs.Reached.{Actions}
use Rattle.irtext_grammar.specs.Building.{append_regions, append_blocks, append_operations, Unfinished, operation_so_far, region_so_far, but_its_mark, Building, nothing_open, building, with_mark, whole_blocks, block_begun, region_ended, operation_closed, operation_marked}
use Rattle.irtext_grammar.specs.Unchanged.{OwnSoFar, own_of, RegionsHold, BlocksHold, OperationsHold, OpenAt, operation_under, ended_under, region_under, open_objects, OperationIsOpen, RegionIsOpen, BlockIsOpen, AreOpenAt, TreeHolds, IsThere, IsAsItWas, AreApart, HoldsSoFar, ModifiesOnly}
use Rattle.irtext_grammar.specs.Grows.{with_last_region, with_last_block, with_last_operation, RegionCame, OperationGains, RegionGains, BlockGains, OperationCame, BlockCame, OwnBecame}
use Rattle.irtext_grammar.proofs.Kept.{there_still, uses_kept, regions_kept, blocks_kept, operations_kept, tree_kept, operation_kept, region_kept, block_kept, all_kept}

-- ---- one after another
module _ {T A : Type 0} (IsLocation : Object → ℕ → Location A → Type 0) (c : ContextView T A) (whole : List Object) where
  regions_appended : (ps qs : List (Ptr Region)) (rs more : Regions (Op ℕ T A) (Head ℕ T A) (Brace ℕ)) → RegionsHold IsLocation c whole ps rs → RegionsHold IsLocation c whole qs more
      → RegionsHold IsLocation c whole (ps ++ qs) (append_regions rs more)
  regions_appended [] qs no_regions more h k = k
  regions_appended [] qs (forest.region brace bs rs) more h k = absurd h
  regions_appended (p ∷ ps) qs no_regions more h k = absurd h
  regions_appended (p ∷ ps) qs (forest.region brace bs rs) more (i, v, h) k = (i, v, regions_appended ps qs rs more h k)

  blocks_appended : (ps qs : List (Ptr BasicBlock)) (bs more : Blocks (Op ℕ T A) (Head ℕ T A) (Brace ℕ)) → BlocksHold IsLocation c whole ps bs → BlocksHold IsLocation c whole qs more
      → BlocksHold IsLocation c whole (ps ++ qs) (append_blocks bs more)
  blocks_appended [] qs no_blocks more h k = k
  blocks_appended [] qs (forest.block head os bs) more h k = absurd h
  blocks_appended (p ∷ ps) qs no_blocks more h k = absurd h
  blocks_appended (p ∷ ps) qs (forest.block head os bs) more (i, v, h) k = (i, v, blocks_appended ps qs bs more h k)

  operations_appended : (ps qs : List (Ptr Operation)) (os more : Operations (Op ℕ T A) (Head ℕ T A) (Brace ℕ)) → OperationsHold IsLocation c whole ps os → OperationsHold IsLocation c whole qs more
      → OperationsHold IsLocation c whole (ps ++ qs) (append_operations os more)
  operations_appended [] qs no_operations more h k = k
  operations_appended [] qs (forest.operation o rs os) more h k = absurd h
  operations_appended (p ∷ ps) qs no_operations more h k = absurd h
  operations_appended (p ∷ ps) qs (forest.operation o rs os) more (i, v, h) k = (i, v, operations_appended ps qs os more h k)

-- ---- objects that are unchanged
module _ {T A : Type 0} (IsLocation : Object → ℕ → Location A → Type 0) (old new : ContextView T A) (whole : List Object) (ats : List (OpenAt T A)) (root : Option (Ptr Operation)) (b : Building T A)
    (h : HoldsSoFar IsLocation old whole ats root b) (but : List Object) (s : ModifiesOnly but old new) where
  -- what is complete is unchanged, if no object of it is one that changed
  whole_spared : ((o : Object) → Among o but → IsThere old o → Among o (open_objects ats)) → (o : Object) → Among o whole → IsAsItWas old new o
  whole_spared within o i = s.spared o (h.whole_there o i) (λ j. h.not_whole o (within o j (h.whole_there o i)) i)

  -- and so are the open objects
  open_spared : (o : Object) → Among o (open_objects ats) → (Among o but → ⊥) → IsAsItWas old new o
  open_spared o i apart = s.spared o (h.open_there o i) apart

  -- what is whole is there
  whole_stays : ((o : Object) → Among o but → IsThere old o → Among o (open_objects ats)) → (o : Object) → Among o whole → IsThere new o
  whole_stays within o i = there_still old new o (whole_spared within o i) (h.whole_there o i)

-- an object is none of a list that does not have it
is_none_of : (k o : Object) (os : List Object) → (Among k os → ⊥) → Among o os → Among o (k ∷ []) → ⊥
is_none_of k o os apart i (inl e) = apart (subst (λ z. Among z os) e i)
is_none_of k o os apart i (inr j) = j

apart_head : (k : Object) (os : List Object) → AreApart (k ∷ os) → Among k os → ⊥
apart_head k os (a, r) = a

apart_tail : (k : Object) (os : List Object) → AreApart (k ∷ os) → AreApart os
apart_tail k os (a, r) = r

-- a changed object that was present is the innermost open one; objects created along with it were not present
module _ {T A : Type 0} (c : ContextView T A) where
  -- nothing was created
  first_within : (k : Object) (os : List Object) (o : Object) → Among o (k ∷ []) → IsThere c o → Among o (k ∷ os)
  first_within k os o (inl e) there = inl e
  first_within k os o (inr j) there = absurd j

  -- one object was created
  after_new : (n k : Object) (os : List Object) → (IsThere c n → ⊥) → (o : Object) → Among o (n ∷ k ∷ []) → IsThere c o → Among o (k ∷ os)
  after_new n k os is_new o (inl e) there = absurd (is_new (subst (λ z. IsThere c z) e there))
  after_new n k os is_new o (inr i) there = first_within k os o i there

  -- an object that was present is not one that was created
  not_new : (n : Object) → (IsThere c n → ⊥) → (o : Object) → IsThere c o → Among o (n ∷ []) → ⊥
  not_new n is_new o there (inl e) = is_new (subst (λ z. IsThere c z) e there)
  not_new n is_new o there (inr i) = i

  -- an object that was present and is among `os` is neither the created one nor the changed one, if the changed one is not among `os`
  nothing_after : (n k o : Object) (os : List Object) → (IsThere c n → ⊥) → (Among k os → ⊥) → Among o os → IsThere c o → Among o (n ∷ k ∷ []) → ⊥
  nothing_after n k o os is_new apart i there (inl e) = is_new (subst (λ z. IsThere c z) e there)
  nothing_after n k o os is_new apart i there (inr j) = is_none_of k o os apart i j

-- an object besides is there
besides_there : {T A : Type 0} (c : ContextView T A) (k : Object) (os : List Object) → IsThere c k → ((o : Object) → Among o os → IsThere c o) → (o : Object) → Among o (k ∷ os) → IsThere c o
besides_there c k os there all o (inl e) = subst (λ z. IsThere c z) (sym e) there
besides_there c k os there all o (inr i) = all o i

-- an object besides that is open is none of what is whole
opened_not_whole : (k : Object) (os whole : List Object) → (Among k whole → ⊥) → ((o : Object) → Among o os → Among o whole → ⊥) → (o : Object) → Among o (k ∷ os) → Among o whole → ⊥
opened_not_whole k os whole none all o (inl e) j = none (subst (λ z. Among z whole) e j)
opened_not_whole k os whole none all o (inr i) j = all o i j

-- no open object is complete, after an object became complete that is not open any more
closed_not_whole : (k : Object) (os whole : List Object) → (Among k os → ⊥) → ((o : Object) → Among o os → Among o whole → ⊥) → (o : Object) → Among o os → Among o (k ∷ whole) → ⊥
closed_not_whole k os whole none all o i (inl e) = none (subst (λ z. Among z os) e i)
closed_not_whole k os whole none all o i (inr j) = all o i j

some_map : {X Y : Type 0} (f : X → Y) (o : Option X) → IsSome o → IsSome (option_map f o)
some_map f (Some x) h = refl
some_map f None h = absurd (cc h)

module _ {T A : Type 0} (IsLocation : Object → ℕ → Location A → Type 0) (old new : ContextView T A) (whole : List Object) (root : Option (Ptr Operation)) where
  -- nothing of what is held changes, whatever else does
  pub holds_still : (but : List Object) (ats : List (OpenAt T A)) (b : Building T A) → HoldsSoFar IsLocation old whole ats root b → ((o : Object) → IsThere old o → Among o but → ⊥) → ModifiesOnly but old new
      → HoldsSoFar IsLocation new whole ats root b
  holds_still but ats b h none s =
      let within = λ (o : Object) (i : Among o but) (there : IsThere old o). absurd {A = Among o (open_objects ats)} (none o there i) in
      let same = whole_spared IsLocation old new whole ats root b h but s within in
      let others = λ (o : Object) (i : Among o (open_objects ats)). open_spared IsLocation old new whole ats root b h but s o i (none o (h.open_there o i)) in
      record {
        are_open = all_kept IsLocation old new whole whole (λ o i. i) same ats b.unfinished None others h.are_open;
        tree = tree_kept IsLocation old new whole whole (λ o i. i) same root b.tree h.tree;
        whole_there = whole_stays IsLocation old new whole ats root b h but s within;
        open_there = λ o i. there_still old new o (others o i) (h.open_there o i);
        not_whole = h.not_whole;
        apart = h.apart;
      }

-- where nothing was parsed, nothing is held
pub holds_nothing : {T A : Type 0} (IsLocation : Object → ℕ → Location A → Type 0) (c : ContextView T A) → HoldsSoFar IsLocation c [] [] None nothing_open
holds_nothing IsLocation c = record {
  are_open = tt;
  tree = tt;
  whole_there = λ o i. absurd i;
  open_there = λ o i. absurd i;
  not_whole = λ o i j. absurd i;
  apart = tt;
}

-- ---- the items, each with what it adds to the context
module _ {T A : Type 0} (IsLocation : Object → ℕ → Location A → Type 0) (old new : ContextView T A) (whole : List Object) where
  -- what is left where nothing is open
  nothing_inner : (c : ContextView T A) (us : List (Unfinished T A)) (i j : Option Object) → AreOpenAt IsLocation c whole [] us i → AreOpenAt IsLocation c whole [] us j
  nothing_inner c [] i j h = tt
  nothing_inner c (u ∷ us) i j h = absurd h

  -- an operation that was created is an open operation without regions
  operation_opens : (p : Ptr Operation) (own : OwnSoFar T A) → OperationCame old new (IsLocation (TheOperation p)) p own → OperationIsOpen IsLocation new whole p own no_regions None
  operation_opens p own came = record { view = came.view; is = came.is; has = came.has; uses = came.uses; done = []; regions = came.regions; hold = tt }

  module _ (same : (o : Object) → Among o whole → IsAsItWas old new o) where
    block_gained : (b : Ptr BasicBlock) (p : Ptr Operation) (head : Head ℕ T A) (os : Operations (Op ℕ T A) (Head ℕ T A) (Brace ℕ)) → BlockGains old new b p
        → BlockIsOpen IsLocation old whole b head os None → BlockIsOpen IsLocation new whole b head os (Some (TheOperation p))
    block_gained b p head os g k = record {
      view = with_last_operation p k.view;
      is = g.gains ∙ ap (option_map (with_last_operation p)) k.is;
      has = record { label = k.has.label; types = k.has.types; entries = k.has.entries; location = k.has.location };
      done = k.done;
      operations = ap (λ z. z ++ p ∷ []) (k.operations ∙ append-nil k.done);
      hold = operations_kept IsLocation old new whole whole (λ o i. i) same k.done os k.hold;
    }

    operation_gained : (p : Ptr Operation) (r : Ptr Region) (own : OwnSoFar T A) (rs : Regions (Op ℕ T A) (Head ℕ T A) (Brace ℕ)) → OperationGains old new p r
        → OperationIsOpen IsLocation old whole p own rs None → OperationIsOpen IsLocation new whole p own rs (Some (TheRegion r))
    operation_gained p r own rs g k = record {
      view = with_last_region r k.view;
      is = g.gains ∙ ap (option_map (with_last_region r)) k.is;
      has = record { id = k.has.id; types = k.has.types; entries = k.has.entries; location = k.has.location };
      uses = uses_kept old new p own g.uses k.uses;
      done = k.done;
      regions = ap (λ z. z ++ r ∷ []) (k.regions ∙ append-nil k.done);
      hold = regions_kept IsLocation old new whole whole (λ o i. i) same k.done rs k.hold;
    }

    block_gains_open : (r : Ptr Region) (b : Ptr BasicBlock) (p : Ptr Operation) (ats : List (OpenAt T A)) (us : List (Unfinished T A)) → BlockGains old new b p → region new r ≡ region old r
        → ((o : Object) → Among o (open_objects ats) → IsAsItWas old new o)
        → AreOpenAt IsLocation old whole (region_under r (Some b) ∷ ats) us None → AreOpenAt IsLocation new whole (region_under r (Some b) ∷ ats) us (Some (TheOperation p))
    block_gains_open r b p ats [] g e others h = absurd h
    block_gains_open r b p ats (region_so_far bs None ∷ us) g e others (f, h) = absurd f
    block_gains_open r b p ats (operation_so_far at id rs ∷ us) g e others (f, h) = absurd f
    block_gains_open r b p ats (but_its_mark o rs ∷ us) g e others (f, h) = absurd f
    block_gains_open r b p ats (region_so_far bs (Some last) ∷ us) g e others ((f, k), h) = (
      (region_kept IsLocation old new whole whole (λ o i. i) same r bs (b ∷ []) e f, block_gained b p last.0 last.1 g k),
      all_kept IsLocation old new whole whole (λ o i. i) same ats us (Some (TheRegion r)) others h,
    )

    operation_gains_open : (p : Ptr Operation) (own : OwnSoFar T A) (r : Ptr Region) (ats : List (OpenAt T A)) (us : List (Unfinished T A)) → OperationGains old new p r
        → ((o : Object) → Among o (open_objects ats) → IsAsItWas old new o)
        → AreOpenAt IsLocation old whole (operation_under p own ∷ ats) us None → AreOpenAt IsLocation new whole (operation_under p own ∷ ats) us (Some (TheRegion r))
    operation_gains_open p own r ats [] g others h = absurd h
    operation_gains_open p own r ats (region_so_far bs last ∷ us) g others (f, h) = absurd f
    operation_gains_open p own r ats (but_its_mark o rs ∷ us) g others (f, h) = absurd f
    operation_gains_open p own r ats (operation_so_far at id rs ∷ us) g others ((e, f, k), h) =
        ((e, f, operation_gained p r own rs g k), all_kept IsLocation old new whole whole (λ o i. i) same ats us (Some (TheOperation p)) others h)

    region_gained : (r : Ptr Region) (b : Ptr BasicBlock) (bs : Blocks (Op ℕ T A) (Head ℕ T A) (Brace ℕ)) → RegionGains old new r b
        → RegionIsOpen IsLocation old whole r bs [] → RegionIsOpen IsLocation new whole r bs (b ∷ [])
    region_gained r b bs g k = record {
      view = with_last_block b k.view;
      is = g.gains ∙ ap (option_map (with_last_block b)) k.is;
      done = k.done;
      blocks = ap (λ z. z ++ b ∷ []) (k.blocks ∙ append-nil k.done);
      hold = blocks_kept IsLocation old new whole whole (λ o i. i) same k.done bs k.hold;
    }

    -- a block that was created is an open block without operations
    block_opens : (b : Ptr BasicBlock) (head : Head ℕ T A) → BlockCame old new (IsLocation (TheBlock b)) b head → BlockIsOpen IsLocation new whole b head no_operations None
    block_opens b head came = record { view = came.view; is = came.is; has = came.has; done = []; operations = came.operations; hold = tt }

    heads_first_open : (r : Ptr Region) (b : Ptr BasicBlock) (head : Head ℕ T A) (ats : List (OpenAt T A)) (us : List (Unfinished T A)) → BlockCame old new (IsLocation (TheBlock b)) b head → RegionGains old new r b
        → ((o : Object) → Among o (open_objects ats) → IsAsItWas old new o)
        → AreOpenAt IsLocation old whole (region_under r None ∷ ats) us None → AreOpenAt IsLocation new whole (region_under r (Some b) ∷ ats) (block_begun head us) None
    heads_first_open r b head ats [] came g others h = absurd h
    heads_first_open r b head ats (region_so_far bs (Some last) ∷ us) came g others (f, h) = absurd f
    heads_first_open r b head ats (operation_so_far at id rs ∷ us) came g others (f, h) = absurd f
    heads_first_open r b head ats (but_its_mark o rs ∷ us) came g others (f, h) = absurd f
    heads_first_open r b head ats (region_so_far bs None ∷ us) came g others ((f, k), h) =
        ((region_gained r b bs g k, block_opens b head came), all_kept IsLocation old new whole whole (λ o i. i) same ats us (Some (TheRegion r)) others h)

    own_changed : (p : Ptr Operation) (own next : OwnSoFar T A) (rs : Regions (Op ℕ T A) (Head ℕ T A) (Brace ℕ)) → OwnBecame old new (IsLocation (TheOperation p)) p next
        → OperationIsOpen IsLocation old whole p own rs None → OperationIsOpen IsLocation new whole p next rs None
    own_changed p own next rs became k = record {
      view = became.view;
      is = became.is;
      has = became.has;
      uses = became.uses;
      done = k.done;
      regions = became.regions k.view k.is ∙ k.regions;
      hold = regions_kept IsLocation old new whole whole (λ o i. i) same k.done rs k.hold;
    }

    own_changed_open : (p : Ptr Operation) (own next : OwnSoFar T A) (ats : List (OpenAt T A)) (us : List (Unfinished T A)) → OwnBecame old new (IsLocation (TheOperation p)) p next → next.place ≡ own.place → next.id ≡ own.id
        → ((o : Object) → Among o (open_objects ats) → IsAsItWas old new o)
        → AreOpenAt IsLocation old whole (operation_under p own ∷ ats) us None → AreOpenAt IsLocation new whole (operation_under p next ∷ ats) us None
    own_changed_open p own next ats [] became place id others h = absurd h
    own_changed_open p own next ats (region_so_far bs last ∷ us) became place id others (f, h) = absurd f
    own_changed_open p own next ats (but_its_mark o rs ∷ us) became place id others (f, h) = absurd f
    own_changed_open p own next ats (operation_so_far at as_id rs ∷ us) became place id others ((e, f, k), h) =
        ((place ∙ e, id ∙ f, own_changed p own next rs became k), all_kept IsLocation old new whole whole (λ o i. i) same ats us (Some (TheOperation p)) others h)

-- ---- what becomes whole
module _ {T A : Type 0} (IsLocation : Object → ℕ → Location A → Type 0) (c : ContextView T A) (whole : List Object) where
  -- a block that was open, with its operations
  block_whole : (b : Ptr BasicBlock) (head : Head ℕ T A) (os : Operations (Op ℕ T A) (Head ℕ T A) (Brace ℕ)) → Among (TheBlock b) whole → BlockIsOpen IsLocation c whole b head os None
      → BlocksHold IsLocation c whole (b ∷ []) (forest.block head os no_blocks)
  block_whole b head os i k = (i, (k.view, k.is, k.has, subst (λ z. OperationsHold IsLocation c whole z os) (sym (k.operations ∙ append-nil k.done)) k.hold), tt)

  -- a region that was open, with its blocks
  region_whole : (r : Ptr Region) (place : ℕ) (bs : Blocks (Op ℕ T A) (Head ℕ T A) (Brace ℕ)) → Among (TheRegion r) whole → RegionIsOpen IsLocation c whole r bs []
      → RegionsHold IsLocation c whole (r ∷ []) (forest.region (shown place) bs no_regions)
  region_whole r place bs i k = (i, (k.view, k.is, subst (λ z. BlocksHold IsLocation c whole z bs) (sym (k.blocks ∙ append-nil k.done)) k.hold), tt)

  -- an operation that was open, with its regions
  operation_whole : (p : Ptr Operation) (o : Op ℕ T A) (mark : Option (Mark ℕ)) (rs : Regions (Op ℕ T A) (Head ℕ T A) (Brace ℕ)) → Among (TheOperation p) whole → OperationIsOpen IsLocation c whole p (own_of o) rs None
      → OperationsHold IsLocation c whole (p ∷ []) (forest.operation (with_mark mark o) rs no_operations)
  operation_whole p o mark rs i k = (
    i,
    (
      k.view,
      k.is,
      record { id = k.has.id; types = k.has.types; entries = k.has.entries; location = k.has.location },
      record { operands_are = k.uses.operands_are; successors_are = k.uses.successors_are },
      subst (λ z. RegionsHold IsLocation c whole z rs) (sym (k.regions ∙ append-nil k.done)) k.hold,
    ),
    tt,
  )

  -- a region whose last block became complete
  blocks_close : (r : Ptr Region) (b : Ptr BasicBlock) (bs : Blocks (Op ℕ T A) (Head ℕ T A) (Brace ℕ)) (last : Head ℕ T A × Operations (Op ℕ T A) (Head ℕ T A) (Brace ℕ)) → Among (TheBlock b) whole
      → RegionIsOpen IsLocation c whole r bs (b ∷ []) → BlockIsOpen IsLocation c whole b last.0 last.1 None → RegionIsOpen IsLocation c whole r (whole_blocks bs (Some last)) []
  blocks_close r b bs last i f k = record {
    view = f.view;
    is = f.is;
    done = f.done ++ b ∷ [];
    blocks = f.blocks ∙ sym (append-nil (f.done ++ b ∷ []));
    hold = blocks_appended IsLocation c whole f.done (b ∷ []) bs (forest.block last.0 last.1 no_blocks) f.hold (block_whole b last.0 last.1 i k);
  }

  -- an operation whose last region became complete
  regions_close : (p : Ptr Operation) (own : OwnSoFar T A) (r : Ptr Region) (rs : Regions (Op ℕ T A) (Head ℕ T A) (Brace ℕ)) (place : ℕ) (bs : Blocks (Op ℕ T A) (Head ℕ T A) (Brace ℕ)) → Among (TheRegion r) whole
      → OperationIsOpen IsLocation c whole p own rs (Some (TheRegion r)) → RegionIsOpen IsLocation c whole r bs []
      → OperationIsOpen IsLocation c whole p own (append_regions rs (forest.region (shown place) bs no_regions)) None
  regions_close p own r rs place bs i f k = record {
    view = f.view;
    is = f.is;
    has = f.has;
    uses = f.uses;
    done = f.done ++ r ∷ [];
    regions = f.regions ∙ sym (append-nil (f.done ++ r ∷ []));
    hold = regions_appended IsLocation c whole f.done (r ∷ []) rs (forest.region (shown place) bs no_regions) f.hold (region_whole r place bs i k);
  }

  -- a block whose last operation became complete
  operations_close : (b : Ptr BasicBlock) (head : Head ℕ T A) (os : Operations (Op ℕ T A) (Head ℕ T A) (Brace ℕ)) (p : Ptr Operation) (o : Op ℕ T A) (mark : Option (Mark ℕ)) (rs : Regions (Op ℕ T A) (Head ℕ T A) (Brace ℕ))
      → Among (TheOperation p) whole → BlockIsOpen IsLocation c whole b head os (Some (TheOperation p)) → OperationIsOpen IsLocation c whole p (own_of o) rs None
      → BlockIsOpen IsLocation c whole b head (append_operations os (forest.operation (with_mark mark o) rs no_operations)) None
  operations_close b head os p o mark rs i f k = record {
    view = f.view;
    is = f.is;
    has = f.has;
    done = f.done ++ p ∷ [];
    operations = f.operations ∙ sym (append-nil (f.done ++ p ∷ []));
    hold = operations_appended IsLocation c whole f.done (p ∷ []) os (forest.operation (with_mark mark o) rs no_operations) f.hold (operation_whole p o mark rs i k);
  }

module _ {T A : Type 0} (IsLocation : Object → ℕ → Location A → Type 0) (old new : ContextView T A) (whole : List Object) (root : Option (Ptr Operation)) (formats : Id → Option Format) where
  abbrev does : Actions T A (Building T A)
  does = building {T = T} {A = A} formats

  -- an operation begins, where nothing is open
  pub uses_at_root : (p : Ptr Operation) (own : OwnSoFar T A) (parts : List (Part ℕ T A)) (b : Building T A) → HoldsSoFar IsLocation old whole [] root b → OperationCame old new (IsLocation (TheOperation p)) p own → ModifiesOnly (TheOperation p ∷ []) old new
      → HoldsSoFar IsLocation new whole (operation_under p own ∷ []) root (does.uses own.place own.id parts b)
  uses_at_root p own parts b h came s =
      let still = holds_still IsLocation old new whole root (TheOperation p ∷ []) [] b h (λ o there i. not_new old (TheOperation p) came.is_new o there i) s in
      record {
        are_open = ((refl, refl, operation_opens IsLocation old new whole p own came), nothing_inner IsLocation old new whole new b.unfinished None (Some (TheOperation p)) still.are_open);
        tree = still.tree;
        whole_there = still.whole_there;
        open_there = besides_there new (TheOperation p) [] (subst IsSome (sym came.is) refl) still.open_there;
        not_whole = opened_not_whole (TheOperation p) [] whole (λ j. came.is_new (h.whole_there (TheOperation p) j)) h.not_whole;
        apart = ((λ j. j), tt);
      }

  -- an operation begins in a block
  pub uses_in_block : (r : Ptr Region) (b : Ptr BasicBlock) (ats : List (OpenAt T A)) (p : Ptr Operation) (own : OwnSoFar T A) (parts : List (Part ℕ T A)) (built : Building T A)
      → HoldsSoFar IsLocation old whole (region_under r (Some b) ∷ ats) root built → OperationCame old new (IsLocation (TheOperation p)) p own → BlockGains old new b p → ModifiesOnly (TheOperation p ∷ TheBlock b ∷ []) old new
      → HoldsSoFar IsLocation new whole (operation_under p own ∷ region_under r (Some b) ∷ ats) root (does.uses own.place own.id parts built)
  uses_in_block r b ats p own parts built h came g s =
      let opens = region_under r (Some b) ∷ ats in
      let but = TheOperation p ∷ TheBlock b ∷ [] in
      let within = after_new old (TheOperation p) (TheBlock b) (TheRegion r ∷ open_objects ats) came.is_new in
      let same = whole_spared IsLocation old new whole opens root built h but s within in
      let apart = apart_head (TheBlock b) (TheRegion r ∷ open_objects ats) h.apart in
      let others = λ (o : Object) (i : Among o (TheRegion r ∷ open_objects ats)). open_spared IsLocation old new whole opens root built h but s o (inr i) (nothing_after old (TheOperation p) (TheBlock b) o (TheRegion r ∷ open_objects ats) came.is_new apart i (h.open_there o (inr i))) in
      let was = h.open_there (TheBlock b) (inl refl) in
      let there : IsThere new (TheBlock b) = (subst IsSome (sym g.gains) (some_map (with_last_operation p) (block old b) was.0), subst IsSome (sym g.stays) was.1) in
      record {
        are_open = (
          (refl, refl, operation_opens IsLocation old new whole p own came),
          block_gains_open IsLocation old new whole same r b p ats built.unfinished g (others (TheRegion r) (inl refl)) (λ o i. others o (inr i)) h.are_open,
        );
        tree = tree_kept IsLocation old new whole whole (λ o i. i) same root built.tree h.tree;
        whole_there = whole_stays IsLocation old new whole opens root built h but s within;
        open_there = besides_there new (TheOperation p) (TheBlock b ∷ TheRegion r ∷ open_objects ats) (subst IsSome (sym came.is) refl)
            (besides_there new (TheBlock b) (TheRegion r ∷ open_objects ats) there (λ o i. there_still old new o (others o i) (h.open_there o (inr i))));
        not_whole = opened_not_whole (TheOperation p) (TheBlock b ∷ TheRegion r ∷ open_objects ats) whole (λ j. came.is_new (h.whole_there (TheOperation p) j)) h.not_whole;
        apart = ((λ i. came.is_new (h.open_there (TheOperation p) i)), h.apart);
      }

  -- a region begins in an operation
  pub enters_operation : (iso : Bool) (p : Ptr Operation) (own : OwnSoFar T A) (ats : List (OpenAt T A)) (r : Ptr Region) (built : Building T A)
      → HoldsSoFar IsLocation old whole (operation_under p own ∷ ats) root built → RegionCame old new r → OperationGains old new p r → ModifiesOnly (TheRegion r ∷ TheOperation p ∷ []) old new
      → HoldsSoFar IsLocation new whole (region_under r None ∷ operation_under p own ∷ ats) root (does.enters iso built)
  enters_operation iso p own ats r built h came g s =
      let opens = operation_under p own ∷ ats in
      let but = TheRegion r ∷ TheOperation p ∷ [] in
      let within = after_new old (TheRegion r) (TheOperation p) (open_objects ats) came.is_new in
      let same = whole_spared IsLocation old new whole opens root built h but s within in
      let apart = apart_head (TheOperation p) (open_objects ats) h.apart in
      let others = λ (o : Object) (i : Among o (open_objects ats)). open_spared IsLocation old new whole opens root built h but s o (inr i) (nothing_after old (TheRegion r) (TheOperation p) o (open_objects ats) came.is_new apart i (h.open_there o (inr i))) in
      let there : IsThere new (TheOperation p) = subst IsSome (sym g.gains) (some_map (with_last_region r) (operation old p) (h.open_there (TheOperation p) (inl refl))) in
      record {
        are_open = (
          (refl, record { view = came.view; is = came.is; done = []; blocks = came.blocks; hold = tt }),
          operation_gains_open IsLocation old new whole same p own r ats built.unfinished g others h.are_open,
        );
        tree = tree_kept IsLocation old new whole whole (λ o i. i) same root built.tree h.tree;
        whole_there = whole_stays IsLocation old new whole opens root built h but s within;
        open_there = besides_there new (TheRegion r) (TheOperation p ∷ open_objects ats) (subst IsSome (sym came.is) refl)
            (besides_there new (TheOperation p) (open_objects ats) there (λ o i. there_still old new o (others o i) (h.open_there o (inr i))));
        not_whole = opened_not_whole (TheRegion r) (TheOperation p ∷ open_objects ats) whole (λ j. came.is_new (h.whole_there (TheRegion r) j)) h.not_whole;
        apart = ((λ i. came.is_new (h.open_there (TheRegion r) i)), h.apart);
      }

  -- the first block of a region begins
  pub heads_first : (r : Ptr Region) (ats : List (OpenAt T A)) (b : Ptr BasicBlock) (head : Head ℕ T A) (built : Building T A)
      → HoldsSoFar IsLocation old whole (region_under r None ∷ ats) root built → BlockCame old new (IsLocation (TheBlock b)) b head → RegionGains old new r b → ModifiesOnly (TheBlock b ∷ TheRegion r ∷ []) old new
      → HoldsSoFar IsLocation new whole (region_under r (Some b) ∷ ats) root (does.heads head built)
  heads_first r ats b head built h came g s =
      let opens = region_under r None ∷ ats in
      let but = TheBlock b ∷ TheRegion r ∷ [] in
      let within = after_new old (TheBlock b) (TheRegion r) (open_objects ats) came.is_new in
      let same = whole_spared IsLocation old new whole opens root built h but s within in
      let apart = apart_head (TheRegion r) (open_objects ats) h.apart in
      let others = λ (o : Object) (i : Among o (open_objects ats)). open_spared IsLocation old new whole opens root built h but s o (inr i) (nothing_after old (TheBlock b) (TheRegion r) o (open_objects ats) came.is_new apart i (h.open_there o (inr i))) in
      let there : IsThere new (TheRegion r) = subst IsSome (sym g.gains) (some_map (with_last_block b) (region old r) (h.open_there (TheRegion r) (inl refl))) in
      record {
        are_open = heads_first_open IsLocation old new whole same r b head ats built.unfinished came g others h.are_open;
        tree = tree_kept IsLocation old new whole whole (λ o i. i) same root built.tree h.tree;
        whole_there = whole_stays IsLocation old new whole opens root built h but s within;
        open_there = besides_there new (TheBlock b) (TheRegion r ∷ open_objects ats) (subst IsSome (sym came.is) refl, came.inside)
            (besides_there new (TheRegion r) (open_objects ats) there (λ o i. there_still old new o (others o i) (h.open_there o (inr i))));
        not_whole = opened_not_whole (TheBlock b) (TheRegion r ∷ open_objects ats) whole (λ j. came.is_new (h.whole_there (TheBlock b) j)) h.not_whole;
        apart = ((λ i. came.is_new (h.open_there (TheBlock b) i)), h.apart);
      }

  -- an operation's own changes
  pub late_operation : (place : ℕ) (id : Id) (piece : Piece ℕ T A) (p : Ptr Operation) (own next : OwnSoFar T A) (ats : List (OpenAt T A)) (built : Building T A)
      → HoldsSoFar IsLocation old whole (operation_under p own ∷ ats) root built → OwnBecame old new (IsLocation (TheOperation p)) p next → next.place ≡ own.place → next.id ≡ own.id → ModifiesOnly (TheOperation p ∷ []) old new
      → HoldsSoFar IsLocation new whole (operation_under p next ∷ ats) root (does.late place id piece built)
  late_operation place id piece p own next ats built h became at as_id s =
      let opens = operation_under p own ∷ ats in
      let within = first_within old (TheOperation p) (open_objects ats) in
      let same = whole_spared IsLocation old new whole opens root built h (TheOperation p ∷ []) s within in
      let apart = apart_head (TheOperation p) (open_objects ats) h.apart in
      let others = λ (o : Object) (i : Among o (open_objects ats)). open_spared IsLocation old new whole opens root built h (TheOperation p ∷ []) s o (inr i) (is_none_of (TheOperation p) o (open_objects ats) apart i) in
      record {
        are_open = own_changed_open IsLocation old new whole same p own next ats built.unfinished became at as_id others h.are_open;
        tree = tree_kept IsLocation old new whole whole (λ o i. i) same root built.tree h.tree;
        whole_there = whole_stays IsLocation old new whole opens root built h (TheOperation p ∷ []) s within;
        open_there = besides_there new (TheOperation p) (open_objects ats) (subst IsSome (sym became.is) refl) (λ o i. there_still old new o (others o i) (h.open_there o (inr i)));
        not_whole = h.not_whole;
        apart = h.apart;
      }

-- ---- what ends in a context that does not change
as_it_is : {T A : Type 0} (c : ContextView T A) (o : Object) → IsAsItWas c c o
as_it_is c (TheOperation p) = (refl, record { as_many_operands = refl; as_many_successors = refl })
as_it_is c (TheBlock b) = (refl, refl)
as_it_is c (TheRegion r) = refl

-- the open frames after the block that is open in a region ends
abbrev pub block_ended : {T A : Type 0} → List (Unfinished T A) → List (Unfinished T A)
block_ended (region_so_far bs last ∷ outer) = region_so_far (whole_blocks bs last) None ∷ outer
block_ended others = others

-- it ends where the next begins, and where its region ends
pub begins_after_end : {T A : Type 0} (head : Head ℕ T A) (us : List (Unfinished T A)) → block_begun head (block_ended us) ≡ block_begun head us
begins_after_end head [] = refl
begins_after_end head (region_so_far bs last ∷ us) = refl
begins_after_end head (operation_so_far at id rs ∷ us) = refl
begins_after_end head (but_its_mark o rs ∷ us) = refl

pub ends_after : {T A : Type 0} (place : ℕ) (us : List (Unfinished T A)) → region_ended place (block_ended us) ≡ region_ended place us
ends_after place [] = refl
ends_after place (region_so_far bs last ∷ us) = refl
ends_after place (operation_so_far at id rs ∷ us) = refl
ends_after place (but_its_mark o rs ∷ us) = refl

module _ {T A : Type 0} (IsLocation : Object → ℕ → Location A → Type 0) (c : ContextView T A) (whole : List Object) where
  -- one object more is whole
  module _ (k : Object) where
    still_whole : (o : Object) → Among o whole → Among o (k ∷ whole)
    still_whole o i = inr i

    region_still : (r : Ptr Region) (bs : Blocks (Op ℕ T A) (Head ℕ T A) (Brace ℕ)) (last : List (Ptr BasicBlock)) → RegionIsOpen IsLocation c whole r bs last → RegionIsOpen IsLocation c (k ∷ whole) r bs last
    region_still r bs last h = region_kept IsLocation c c whole (k ∷ whole) still_whole (λ o i. as_it_is c o) r bs last refl h

    block_still : (b : Ptr BasicBlock) (head : Head ℕ T A) (os : Operations (Op ℕ T A) (Head ℕ T A) (Brace ℕ)) (inner : Option Object) → BlockIsOpen IsLocation c whole b head os inner → BlockIsOpen IsLocation c (k ∷ whole) b head os inner
    block_still b head os inner h = block_kept IsLocation c c whole (k ∷ whole) still_whole (λ o i. as_it_is c o) b head os inner refl h

    operation_still : (p : Ptr Operation) (own : OwnSoFar T A) (rs : Regions (Op ℕ T A) (Head ℕ T A) (Brace ℕ)) (inner : Option Object) → OperationIsOpen IsLocation c whole p own rs inner → OperationIsOpen IsLocation c (k ∷ whole) p own rs inner
    operation_still p own rs inner h = operation_kept IsLocation c c whole (k ∷ whole) still_whole (λ o i. as_it_is c o) p own rs inner (as_it_is c (TheOperation p)) h

    all_still : (ats : List (OpenAt T A)) (us : List (Unfinished T A)) (inner : Option Object) → AreOpenAt IsLocation c whole ats us inner → AreOpenAt IsLocation c (k ∷ whole) ats us inner
    all_still ats us inner h = all_kept IsLocation c c whole (k ∷ whole) still_whole (λ o i. as_it_is c o) ats us inner (λ o i. as_it_is c o) h

    tree_still : (root : Option (Ptr Operation)) (t : Option (Tree ℕ T A)) → TreeHolds IsLocation c whole root t → TreeHolds IsLocation c (k ∷ whole) root t
    tree_still root t h = tree_kept IsLocation c c whole (k ∷ whole) still_whole (λ o i. as_it_is c o) root t h

  block_ends_open : (r : Ptr Region) (b : Ptr BasicBlock) (ats : List (OpenAt T A)) (us : List (Unfinished T A)) → AreOpenAt IsLocation c whole (region_under r (Some b) ∷ ats) us None
      → AreOpenAt IsLocation c (TheBlock b ∷ whole) (region_under r None ∷ ats) (block_ended us) None
  block_ends_open r b ats [] h = absurd h
  block_ends_open r b ats (region_so_far bs None ∷ us) (f, h) = absurd f
  block_ends_open r b ats (operation_so_far at id rs ∷ us) (f, h) = absurd f
  block_ends_open r b ats (but_its_mark o rs ∷ us) (f, h) = absurd f
  block_ends_open r b ats (region_so_far bs (Some last) ∷ us) ((f, k), h) = (
    (
      refl,
      blocks_close IsLocation c (TheBlock b ∷ whole) r b bs last (inl refl) (region_still (TheBlock b) r bs (b ∷ []) f) (block_still (TheBlock b) b last.0 last.1 None k),
    ),
    all_still (TheBlock b) ats us (Some (TheRegion r)) h,
  )

  leaves_open : (r : Ptr Region) (p : Ptr Operation) (own : OwnSoFar T A) (place : ℕ) (ats : List (OpenAt T A)) (us : List (Unfinished T A)) → AreOpenAt IsLocation c whole (region_under r None ∷ operation_under p own ∷ ats) us None
      → AreOpenAt IsLocation c (TheRegion r ∷ whole) (operation_under p own ∷ ats) (region_ended place us) None
  leaves_open r p own place ats [] h = absurd h
  leaves_open r p own place ats (region_so_far bs (Some last) ∷ us) (f, h) = absurd f
  leaves_open r p own place ats (operation_so_far at id rs ∷ us) (f, h) = absurd f
  leaves_open r p own place ats (but_its_mark o rs ∷ us) (f, h) = absurd f
  leaves_open r p own place ats (region_so_far bs None ∷ []) (f, h) = absurd h
  leaves_open r p own place ats (region_so_far bs None ∷ region_so_far cs last ∷ us) (f, (g, h)) = absurd g
  leaves_open r p own place ats (region_so_far bs None ∷ but_its_mark o rs ∷ us) (f, (g, h)) = absurd g
  leaves_open r p own place ats (region_so_far bs None ∷ operation_so_far at id rs ∷ us) ((e, k), ((f, g, l), h)) = (
    (
      f,
      g,
      regions_close IsLocation c (TheRegion r ∷ whole) p own r rs place bs (inl refl) (operation_still (TheRegion r) p own rs (Some (TheRegion r)) l) (region_still (TheRegion r) r bs [] k),
    ),
    all_still (TheRegion r) ats us (Some (TheOperation p)) h,
  )

  closes_open : (p : Ptr Operation) (own : OwnSoFar T A) (o : Op ℕ T A) (ats : List (OpenAt T A)) (us : List (Unfinished T A)) → own ≡ own_of o → AreOpenAt IsLocation c whole (operation_under p own ∷ ats) us None
      → AreOpenAt IsLocation c whole (ended_under p ∷ ats) (operation_closed o us) None
  closes_open p own o ats [] e h = absurd h
  closes_open p own o ats (region_so_far bs last ∷ us) e (f, h) = absurd f
  closes_open p own o ats (but_its_mark q rs ∷ us) e (f, h) = absurd f
  closes_open p own o ats (operation_so_far at id rs ∷ us) e ((f, g, k), h) = ((refl, subst (λ z. OperationIsOpen IsLocation c whole p z rs None) e k), h)

  root_open : (p : Ptr Operation) (mark : Option (Mark ℕ)) (us : List (Unfinished T A)) (t : Option (Tree ℕ T A)) → AreOpenAt IsLocation c whole (ended_under p ∷ []) us None
      → AreOpenAt IsLocation c (TheOperation p ∷ whole) [] (operation_marked mark us t).unfinished None
  root_open p mark [] t h = absurd h
  root_open p mark (region_so_far bs last ∷ us) t (f, h) = absurd f
  root_open p mark (operation_so_far at id rs ∷ us) t (f, h) = absurd f
  root_open p mark (but_its_mark o rs ∷ []) t h = tt
  root_open p mark (but_its_mark o rs ∷ u ∷ us) t (f, h) = absurd h

  root_holds : (p : Ptr Operation) (mark : Option (Mark ℕ)) (us : List (Unfinished T A)) (t : Option (Tree ℕ T A)) → AreOpenAt IsLocation c whole (ended_under p ∷ []) us None
      → TreeHolds IsLocation c (TheOperation p ∷ whole) (Some p) (operation_marked mark us t).tree
  root_holds p mark [] t h = absurd h
  root_holds p mark (region_so_far bs last ∷ us) t (f, h) = absurd f
  root_holds p mark (operation_so_far at id rs ∷ us) t (f, h) = absurd f
  root_holds p mark (but_its_mark o rs ∷ []) t ((e, k), h) = operation_whole IsLocation c (TheOperation p ∷ whole) p o mark rs (inl refl) (operation_still (TheOperation p) p (own_of o) rs None k)
  root_holds p mark (but_its_mark o rs ∷ u ∷ us) t (f, h) = absurd h

  marks_open : (p : Ptr Operation) (r : Ptr Region) (b : Ptr BasicBlock) (ats : List (OpenAt T A)) (mark : Option (Mark ℕ)) (us : List (Unfinished T A)) (t : Option (Tree ℕ T A))
      → AreOpenAt IsLocation c whole (ended_under p ∷ region_under r (Some b) ∷ ats) us None → AreOpenAt IsLocation c (TheOperation p ∷ whole) (region_under r (Some b) ∷ ats) (operation_marked mark us t).unfinished None
  marks_open p r b ats mark [] t h = absurd h
  marks_open p r b ats mark (region_so_far bs last ∷ us) t (f, h) = absurd f
  marks_open p r b ats mark (operation_so_far at id rs ∷ us) t (f, h) = absurd f
  marks_open p r b ats mark (but_its_mark o rs ∷ []) t (f, h) = absurd h
  marks_open p r b ats mark (but_its_mark o rs ∷ region_so_far bs None ∷ us) t (f, (g, h)) = absurd g
  marks_open p r b ats mark (but_its_mark o rs ∷ operation_so_far at id qs ∷ us) t (f, (g, h)) = absurd g
  marks_open p r b ats mark (but_its_mark o rs ∷ but_its_mark q qs ∷ us) t (f, (g, h)) = absurd g
  marks_open p r b ats mark (but_its_mark o rs ∷ region_so_far bs (Some last) ∷ us) t ((e, k), ((f, g), h)) = (
    (
      region_still (TheOperation p) r bs (b ∷ []) f,
      operations_close IsLocation c (TheOperation p ∷ whole) b last.0 last.1 p o mark rs (inl refl) (block_still (TheOperation p) b last.0 last.1 (Some (TheOperation p)) g) (operation_still (TheOperation p) p (own_of o) rs None k),
    ),
    all_still (TheOperation p) ats us (Some (TheRegion r)) h,
  )

  marks_hold : (root : Option (Ptr Operation)) (p : Ptr Operation) (r : Ptr Region) (b : Ptr BasicBlock) (ats : List (OpenAt T A)) (mark : Option (Mark ℕ)) (us : List (Unfinished T A)) (t : Option (Tree ℕ T A))
      → AreOpenAt IsLocation c whole (ended_under p ∷ region_under r (Some b) ∷ ats) us None → TreeHolds IsLocation c whole root t → TreeHolds IsLocation c (TheOperation p ∷ whole) root (operation_marked mark us t).tree
  marks_hold root p r b ats mark [] t h l = absurd h
  marks_hold root p r b ats mark (region_so_far bs last ∷ us) t (f, h) l = absurd f
  marks_hold root p r b ats mark (operation_so_far at id rs ∷ us) t (f, h) l = absurd f
  marks_hold root p r b ats mark (but_its_mark o rs ∷ []) t (f, h) l = absurd h
  marks_hold root p r b ats mark (but_its_mark o rs ∷ region_so_far bs None ∷ us) t (f, (g, h)) l = absurd g
  marks_hold root p r b ats mark (but_its_mark o rs ∷ operation_so_far at id qs ∷ us) t (f, (g, h)) l = absurd g
  marks_hold root p r b ats mark (but_its_mark o rs ∷ but_its_mark q qs ∷ us) t (f, (g, h)) l = absurd g
  marks_hold root p r b ats mark (but_its_mark o rs ∷ region_so_far bs (Some last) ∷ us) t h l = tree_still (TheOperation p) root t l

  module _ (root : Option (Ptr Operation)) where
    -- the block that is open in a region ends
    pub block_ends : (r : Ptr Region) (b : Ptr BasicBlock) (ats : List (OpenAt T A)) (built : Building T A) → HoldsSoFar IsLocation c whole (region_under r (Some b) ∷ ats) root built
        → HoldsSoFar IsLocation c (TheBlock b ∷ whole) (region_under r None ∷ ats) root (record { unfinished = block_ended built.unfinished; tree = built.tree })
    block_ends r b ats built h = record {
      are_open = block_ends_open r b ats built.unfinished h.are_open;
      tree = tree_still (TheBlock b) root built.tree h.tree;
      whole_there = besides_there c (TheBlock b) whole (h.open_there (TheBlock b) (inl refl)) h.whole_there;
      open_there = λ o i. h.open_there o (inr i);
      not_whole = closed_not_whole (TheBlock b) (TheRegion r ∷ open_objects ats) whole (apart_head (TheBlock b) (TheRegion r ∷ open_objects ats) h.apart) (λ o i. h.not_whole o (inr i));
      apart = apart_tail (TheBlock b) (TheRegion r ∷ open_objects ats) h.apart;
    }

    module _ (formats : Id → Option Format) where
      abbrev acts : Actions T A (Building T A)
      acts = building {T = T} {A = A} formats

      -- a region that holds no open block ends
      pub leaves_empty : (iso : Bool) (place : ℕ) (r : Ptr Region) (p : Ptr Operation) (own : OwnSoFar T A) (ats : List (OpenAt T A)) (built : Building T A)
          → HoldsSoFar IsLocation c whole (region_under r None ∷ operation_under p own ∷ ats) root built → HoldsSoFar IsLocation c (TheRegion r ∷ whole) (operation_under p own ∷ ats) root (acts.leaves iso place built)
      leaves_empty iso place r p own ats built h =
          let objects = TheOperation p ∷ open_objects ats in
          record {
            are_open = leaves_open r p own place ats built.unfinished h.are_open;
            tree = tree_still (TheRegion r) root built.tree h.tree;
            whole_there = besides_there c (TheRegion r) whole (h.open_there (TheRegion r) (inl refl)) h.whole_there;
            open_there = λ o i. h.open_there o (inr i);
            not_whole = closed_not_whole (TheRegion r) objects whole (apart_head (TheRegion r) objects h.apart) (λ o i. h.not_whole o (inr i));
            apart = apart_tail (TheRegion r) objects h.apart;
          }

      -- an operation ends, up to its mark, where its own is that of what its parts are
      pub closes_operation : (names : List (Name ℕ)) (parts : List (Part ℕ T A)) (p : Ptr Operation) (own : OwnSoFar T A) (ats : List (OpenAt T A)) (built : Building T A)
          → own ≡ own_of (unmarked own.place names own.id (body_of (formats own.id) parts)) → HoldsSoFar IsLocation c whole (operation_under p own ∷ ats) root built
          → HoldsSoFar IsLocation c whole (ended_under p ∷ ats) root (acts.closes own.place names own.id parts built)
      closes_operation names parts p own ats built e h = record {
        are_open = closes_open p own (unmarked own.place names own.id (body_of (formats own.id) parts)) ats built.unfinished e h.are_open;
        tree = h.tree;
        whole_there = h.whole_there;
        open_there = h.open_there;
        not_whole = h.not_whole;
        apart = h.apart;
      }

      -- the mark of an operation is known, and it is whole: the root
      pub marks_root : (mark : Option (Mark ℕ)) (p : Ptr Operation) (built : Building T A) → HoldsSoFar IsLocation c whole (ended_under p ∷ []) root built
          → HoldsSoFar IsLocation c (TheOperation p ∷ whole) [] (Some p) (acts.marks mark built)
      marks_root mark p built h = record {
        are_open = root_open p mark built.unfinished built.tree h.are_open;
        tree = root_holds p mark built.unfinished built.tree h.are_open;
        whole_there = besides_there c (TheOperation p) whole (h.open_there (TheOperation p) (inl refl)) h.whole_there;
        open_there = λ o i. absurd i;
        not_whole = λ o i j. absurd i;
        apart = tt;
      }

      -- or one of a block
      pub marks_in_block : (mark : Option (Mark ℕ)) (p : Ptr Operation) (r : Ptr Region) (b : Ptr BasicBlock) (ats : List (OpenAt T A)) (built : Building T A)
          → HoldsSoFar IsLocation c whole (ended_under p ∷ region_under r (Some b) ∷ ats) root built → HoldsSoFar IsLocation c (TheOperation p ∷ whole) (region_under r (Some b) ∷ ats) root (acts.marks mark built)
      marks_in_block mark p r b ats built h =
          let objects = TheBlock b ∷ TheRegion r ∷ open_objects ats in
          record {
            are_open = marks_open p r b ats mark built.unfinished built.tree h.are_open;
            tree = marks_hold root p r b ats mark built.unfinished built.tree h.are_open h.tree;
            whole_there = besides_there c (TheOperation p) whole (h.open_there (TheOperation p) (inl refl)) h.whole_there;
            open_there = λ o i. h.open_there o (inr i);
            not_whole = closed_not_whole (TheOperation p) objects whole (apart_head (TheOperation p) objects h.apart) (λ o i. h.not_whole o (inr i));
            apart = apart_tail (TheOperation p) objects h.apart;
          }
