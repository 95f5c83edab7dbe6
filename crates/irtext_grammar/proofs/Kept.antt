-- What a context contains it still contains if each object of it is unchanged, and if more is complete.
use Rattle.std.proofs.Common.{◌≡◌, ◌∙◌, ℕ, List, [], ◌∷◌, Option, Some, None, IsSome, refl, sym, subst, inl, inr}
use Rattle.irtext_base.specs.declared.location.Location.{Location}
use Rattle.irtext_context.specs.Context.{ContextView, RegionView, operation, block, region}
use Rattle.irtext_graph.specs.declared.arena.Ptr.{Ptr}
use Rattle.irtext_graph.specs.declared.object.Operation.{Operation}
use Rattle.irtext_graph.specs.declared.object.BasicBlock.{BasicBlock}
use Rattle.irtext_graph.specs.declared.object.Region.{Region}
use Rattle.irtext_graph.specs.declared.object.Object.{Object}
use Rattle.irtext_graph.specs.declared.object.Object.TheVariants.{TheOperation, TheBlock, TheRegion}
use Rattle.irtext_graph.specs.Chained.{Among}
use Rattle.irtext_graph.proofs.Preorders.{among_left, among_right}
use Rattle.irtext_grammar.specs.Grammar.Forest as forest
use Rattle.irtext_grammar.specs.Grammar.Forest.{Regions, no_regions, Blocks, no_blocks, Operations, no_operations}
use Rattle.irtext_grammar.specs.Grammar.Tree.{Op, Head, Brace, Tree}
use Rattle.irtext_grammar.specs.Building.{Unfinished, operation_so_far, region_so_far, but_its_mark}
use Rattle.irtext_grammar.specs.Unchanged.{OwnSoFar, own_of, HasUses, UsesAsMany, RegionsHold, BlocksHold, OperationsHold, OpenAt, operation_under, ended_under, region_under, as_inner, objects_under, open_objects, OperationIsOpen, RegionIsOpen, BlockIsOpen, IsOpenAt, AreOpenAt, TreeHolds, IsThere, IsAsItWas}

-- an object that was present and is unchanged is still present
pub there_still : {T A : Type 0} (old new : ContextView T A) (o : Object) → IsAsItWas old new o → IsThere old o → IsThere new o
there_still old new (TheOperation p) e h = subst IsSome (sym e.0) h
there_still old new (TheBlock b) e h = (subst IsSome (sym e.0) h.0, subst IsSome (sym e.1) h.1)
there_still old new (TheRegion r) e h = subst IsSome (sym e) h

-- where an operation has as many operands and successors as it had, they are as many as they were
pub uses_kept : {T A : Type 0} (old new : ContextView T A) (p : Ptr Operation) (own : OwnSoFar T A) → UsesAsMany old.graph new.graph p → HasUses old p own → HasUses new p own
uses_kept old new p own m h = record { operands_are = m.as_many_operands ∙ h.operands_are; successors_are = m.as_many_successors ∙ h.successors_are }

-- All that is whole is whole in another context, too, where each operation and each block of it is seen as it was, with as many uses, and each
-- region with the blocks that it had.
pub record SeesWhole {T A : Type 0} (old new : ContextView T A) (whole more : List Object) : Type 0 where
  pub wider : (o : Object) → Among o whole → Among o more
  pub regions : (r : Ptr Region) → Among (TheRegion r) whole → (view : RegionView) → region old r ≡ Some view → (now : RegionView) × (region new r ≡ Some now) × (now.blocks ≡ view.blocks)
  pub blocks : (b : Ptr BasicBlock) → Among (TheBlock b) whole → block new b ≡ block old b
  pub operations : (p : Ptr Operation) → Among (TheOperation p) whole → operation new p ≡ operation old p
  pub uses : (p : Ptr Operation) (own : OwnSoFar T A) → Among (TheOperation p) whole → HasUses old p own → HasUses new p own

module _ {T A : Type 0} (IsLocation : Object → ℕ → Location A → Type 0) (old new : ContextView T A) (whole more : List Object) (sees : SeesWhole old new whole more) where
  mutual
    -- regions that are whole
    pub regions_seen : (ps : List (Ptr Region)) (rs : Regions (Op ℕ T A) (Head ℕ T A) (Brace ℕ)) → RegionsHold IsLocation old whole ps rs → RegionsHold IsLocation new more ps rs
    regions_seen [] no_regions h = tt
    regions_seen [] (forest.region brace bs rs) h = absurd h
    regions_seen (p ∷ ps) no_regions h = absurd h
    regions_seen (p ∷ ps) (forest.region brace bs rs) (i, (view, e, hold), h) =
        let now = sees.regions p i view e in
        (sees.wider (TheRegion p) i, (now.0, now.1, subst (λ z. BlocksHold IsLocation new more z bs) (sym now.2) (blocks_seen view.blocks bs hold)), regions_seen ps rs h)

    -- blocks
    pub blocks_seen : (ps : List (Ptr BasicBlock)) (bs : Blocks (Op ℕ T A) (Head ℕ T A) (Brace ℕ)) → BlocksHold IsLocation old whole ps bs → BlocksHold IsLocation new more ps bs
    blocks_seen [] no_blocks h = tt
    blocks_seen [] (forest.block head os bs) h = absurd h
    blocks_seen (p ∷ ps) no_blocks h = absurd h
    blocks_seen (p ∷ ps) (forest.block head os bs) (i, (view, e, has, hold), h) =
        (sees.wider (TheBlock p) i, (view, sees.blocks p i ∙ e, has, operations_seen view.operations os hold), blocks_seen ps bs h)

    -- and operations stay held
    pub operations_seen : (ps : List (Ptr Operation)) (os : Operations (Op ℕ T A) (Head ℕ T A) (Brace ℕ)) → OperationsHold IsLocation old whole ps os → OperationsHold IsLocation new more ps os
    operations_seen [] no_operations h = tt
    operations_seen [] (forest.operation o rs os) h = absurd h
    operations_seen (p ∷ ps) no_operations h = absurd h
    operations_seen (p ∷ ps) (forest.operation o rs os) (i, (view, e, has, uses, hold), h) =
        (sees.wider (TheOperation p) i, (view, sees.operations p i ∙ e, has, sees.uses p (own_of o) i uses, regions_seen view.regions rs hold), operations_seen ps os h)

module _ {T A : Type 0} (IsLocation : Object → ℕ → Location A → Type 0) (old new : ContextView T A) (whole more : List Object)
    (wider : (o : Object) → Among o whole → Among o more) (same : (o : Object) → Among o whole → IsAsItWas old new o) where
  -- unchanged objects are seen as they were
  kept_whole : SeesWhole old new whole more
  kept_whole = record {
    wider = wider;
    regions = λ r i view e. (view, same (TheRegion r) i ∙ e, refl);
    blocks = λ b i. (same (TheBlock b) i).0;
    operations = λ p i. (same (TheOperation p) i).0;
    uses = λ p own i. uses_kept old new p own (same (TheOperation p) i).1;
  }

  -- so regions, blocks and operations that are whole stay held
  pub regions_kept : (ps : List (Ptr Region)) (rs : Regions (Op ℕ T A) (Head ℕ T A) (Brace ℕ)) → RegionsHold IsLocation old whole ps rs → RegionsHold IsLocation new more ps rs
  regions_kept = regions_seen IsLocation old new whole more kept_whole

  pub blocks_kept : (ps : List (Ptr BasicBlock)) (bs : Blocks (Op ℕ T A) (Head ℕ T A) (Brace ℕ)) → BlocksHold IsLocation old whole ps bs → BlocksHold IsLocation new more ps bs
  blocks_kept = blocks_seen IsLocation old new whole more kept_whole

  pub operations_kept : (ps : List (Ptr Operation)) (os : Operations (Op ℕ T A) (Head ℕ T A) (Brace ℕ)) → OperationsHold IsLocation old whole ps os → OperationsHold IsLocation new more ps os
  operations_kept = operations_seen IsLocation old new whole more kept_whole

  -- the tree stays held
  pub tree_kept : (root : Option (Ptr Operation)) (t : Option (Tree ℕ T A)) → TreeHolds IsLocation old whole root t → TreeHolds IsLocation new more root t
  tree_kept None None h = tt
  tree_kept None (Some t) h = absurd h
  tree_kept (Some p) None h = absurd h
  tree_kept (Some p) (Some t) h = operations_kept (p ∷ []) (forest.operation t.own t.regions no_operations) h

  -- ---- the open frames
  -- an operation
  pub operation_kept : (p : Ptr Operation) (own : OwnSoFar T A) (rs : Regions (Op ℕ T A) (Head ℕ T A) (Brace ℕ)) (inner : Option Object) → IsAsItWas old new (TheOperation p)
      → OperationIsOpen IsLocation old whole p own rs inner → OperationIsOpen IsLocation new more p own rs inner
  operation_kept p own rs inner e h = record { view = h.view; is = e.0 ∙ h.is; has = h.has; uses = uses_kept old new p own e.1 h.uses; done = h.done; regions = h.regions; hold = regions_kept h.done rs h.hold }

  -- a region
  pub region_kept : (r : Ptr Region) (bs : Blocks (Op ℕ T A) (Head ℕ T A) (Brace ℕ)) (last : List (Ptr BasicBlock)) → region new r ≡ region old r
      → RegionIsOpen IsLocation old whole r bs last → RegionIsOpen IsLocation new more r bs last
  region_kept r bs last e h = record { view = h.view; is = e ∙ h.is; done = h.done; blocks = h.blocks; hold = blocks_kept h.done bs h.hold }

  -- a block
  pub block_kept : (b : Ptr BasicBlock) (head : Head ℕ T A) (os : Operations (Op ℕ T A) (Head ℕ T A) (Brace ℕ)) (inner : Option Object) → block new b ≡ block old b
      → BlockIsOpen IsLocation old whole b head os inner → BlockIsOpen IsLocation new more b head os inner
  block_kept b head os inner e h = record { view = h.view; is = e ∙ h.is; has = h.has; done = h.done; operations = h.operations; hold = operations_kept h.done os h.hold }

  -- one that is open
  pub open_kept : (at : OpenAt T A) (u : Unfinished T A) (inner : Option Object) → ((o : Object) → Among o (objects_under at) → IsAsItWas old new o)
      → IsOpenAt IsLocation old whole at u inner → IsOpenAt IsLocation new more at u inner
  open_kept (operation_under p own) (operation_so_far at id rs) inner e (f, g, h) = (f, g, operation_kept p own rs inner (e (TheOperation p) (inl refl)) h)
  open_kept (operation_under p own) (but_its_mark o rs) inner e h = absurd h
  open_kept (operation_under p own) (region_so_far bs last) inner e h = absurd h
  open_kept (ended_under p) (operation_so_far at id rs) inner e h = absurd h
  open_kept (ended_under p) (region_so_far bs last) inner e h = absurd h
  open_kept (ended_under p) (but_its_mark o rs) inner e (f, h) = (f, operation_kept p (own_of o) rs None (e (TheOperation p) (inl refl)) h)
  open_kept (region_under r None) (region_so_far bs None) inner e (f, h) = (f, region_kept r bs [] (e (TheRegion r) (inl refl)) h)
  open_kept (region_under r None) (region_so_far bs (Some last)) inner e h = absurd h
  open_kept (region_under r (Some b)) (region_so_far bs None) inner e h = absurd h
  open_kept (region_under r (Some b)) (region_so_far bs (Some last)) inner e (f, h) =
      (region_kept r bs (b ∷ []) (e (TheRegion r) (inr (inl refl))) f, block_kept b last.0 last.1 inner (e (TheBlock b) (inl refl)).0 h)
  open_kept (region_under r None) (operation_so_far at id rs) inner e h = absurd h
  open_kept (region_under r (Some b)) (operation_so_far at id rs) inner e h = absurd h
  open_kept (region_under r None) (but_its_mark o rs) inner e h = absurd h
  open_kept (region_under r (Some b)) (but_its_mark o rs) inner e h = absurd h

  -- all that is open
  pub all_kept : (ats : List (OpenAt T A)) (us : List (Unfinished T A)) (inner : Option Object) → ((o : Object) → Among o (open_objects ats) → IsAsItWas old new o)
      → AreOpenAt IsLocation old whole ats us inner → AreOpenAt IsLocation new more ats us inner
  all_kept [] [] inner e h = tt
  all_kept [] (u ∷ us) inner e h = absurd h
  all_kept (at ∷ ats) [] inner e h = absurd h
  all_kept (at ∷ ats) (u ∷ us) inner e h = (
    open_kept at u inner (λ o i. e o (among_left o (objects_under at) (open_objects ats) i)) h.0,
    all_kept ats us (as_inner at) (λ o i. e o (among_right o (objects_under at) (open_objects ats) i)) h.1,
  )
