-- What a context contains of what was parsed so far, with more known of the locations.
use Rattle.std.proofs.Common.{ℕ, List, [], ◌∷◌, Option, Some, None, inl, inr, refl}
use Rattle.irtext_base.specs.declared.location.Location.{Location}
use Rattle.irtext_context.specs.Context.{ContextView, OperationView, BlockView}
use Rattle.irtext_graph.specs.declared.arena.Ptr.{Ptr}
use Rattle.irtext_graph.specs.declared.object.Operation.{Operation}
use Rattle.irtext_graph.specs.declared.object.BasicBlock.{BasicBlock}
use Rattle.irtext_graph.specs.declared.object.Region.{Region}
use Rattle.irtext_graph.specs.declared.object.Object.{Object}
use Rattle.irtext_graph.specs.declared.object.Object.TheVariants.{TheOperation, TheBlock}
use Rattle.irtext_graph.specs.Chained.{Among}
use Rattle.irtext_grammar.specs.Grammar.Forest as forest
use Rattle.irtext_grammar.specs.Grammar.Forest.{Regions, no_regions, Blocks, no_blocks, Operations, no_operations}
use Rattle.irtext_grammar.specs.Grammar.Tree.{Op, Head, Brace, Tree}
use Rattle.irtext_grammar.specs.Building.{Building, Unfinished, operation_so_far, region_so_far, but_its_mark}
use Rattle.irtext_grammar.specs.Grows.{OperationCame, BlockCame, OwnBecame}
use Rattle.irtext_grammar.specs.Unchanged.{OwnSoFar, own_of, HasOwn, HasHead, RegionsHold, BlocksHold, OperationsHold, OpenAt, operation_under, ended_under, region_under, as_inner, OperationIsOpen, RegionIsOpen, BlockIsOpen, IsOpenAt, AreOpenAt, TreeHolds, HoldsSoFar}
use Rattle.irtext_grammar.specs.Tracks.{Made, noted}

module _ {T A : Type 0} (I J : ℕ → Location A → Type 0) where
  pub own_wider : (view : OperationView T A) (own : OwnSoFar T A) → (I own.place view.loc → J own.place view.loc) → HasOwn I view own → HasOwn J view own
  own_wider view own f h = record { id = h.id; types = h.types; entries = h.entries; location = f h.location }

  pub head_wider : (view : BlockView T A) (head : Head ℕ T A) → (I head.label.place view.loc → J head.label.place view.loc) → HasHead I view head → HasHead J view head
  head_wider view head f h = record { label = h.label; types = h.types; entries = h.entries; location = f h.location }

module _ {T A : Type 0} (I J : Object → ℕ → Location A → Type 0) (wider : (o : Object) (n : ℕ) (l : Location A) → I o n l → J o n l) (c : ContextView T A) (whole : List Object) where
  mutual
    regions_wider : (ps : List (Ptr Region)) (rs : Regions (Op ℕ T A) (Head ℕ T A) (Brace ℕ)) → RegionsHold I c whole ps rs → RegionsHold J c whole ps rs
    regions_wider [] no_regions h = tt
    regions_wider [] (forest.region brace bs rs) h = absurd h
    regions_wider (p ∷ ps) no_regions h = absurd h
    regions_wider (p ∷ ps) (forest.region brace bs rs) (i, (view, e, hold), h) = (i, (view, e, blocks_wider view.blocks bs hold), regions_wider ps rs h)

    blocks_wider : (ps : List (Ptr BasicBlock)) (bs : Blocks (Op ℕ T A) (Head ℕ T A) (Brace ℕ)) → BlocksHold I c whole ps bs → BlocksHold J c whole ps bs
    blocks_wider [] no_blocks h = tt
    blocks_wider [] (forest.block head os bs) h = absurd h
    blocks_wider (p ∷ ps) no_blocks h = absurd h
    blocks_wider (p ∷ ps) (forest.block head os bs) (i, (view, e, has, hold), h) =
        (i, (view, e, head_wider (I (TheBlock p)) (J (TheBlock p)) view head (wider (TheBlock p) head.label.place view.loc) has, operations_wider view.operations os hold), blocks_wider ps bs h)

    operations_wider : (ps : List (Ptr Operation)) (os : Operations (Op ℕ T A) (Head ℕ T A) (Brace ℕ)) → OperationsHold I c whole ps os → OperationsHold J c whole ps os
    operations_wider [] no_operations h = tt
    operations_wider [] (forest.operation o rs os) h = absurd h
    operations_wider (p ∷ ps) no_operations h = absurd h
    operations_wider (p ∷ ps) (forest.operation o rs os) (i, (view, e, has, uses, hold), h) =
        (i, (view, e, own_wider (I (TheOperation p)) (J (TheOperation p)) view (own_of o) (wider (TheOperation p) o.place view.loc) has, uses, regions_wider view.regions rs hold), operations_wider ps os h)

  operation_wider : (p : Ptr Operation) (own : OwnSoFar T A) (rs : Regions (Op ℕ T A) (Head ℕ T A) (Brace ℕ)) (inner : Option Object) → OperationIsOpen I c whole p own rs inner → OperationIsOpen J c whole p own rs inner
  operation_wider p own rs inner h = record {
    view = h.view;
    is = h.is;
    has = own_wider (I (TheOperation p)) (J (TheOperation p)) h.view own (wider (TheOperation p) own.place h.view.loc) h.has;
    uses = h.uses;
    done = h.done;
    regions = h.regions;
    hold = regions_wider h.done rs h.hold;
  }

  region_wider : (r : Ptr Region) (bs : Blocks (Op ℕ T A) (Head ℕ T A) (Brace ℕ)) (last : List (Ptr BasicBlock)) → RegionIsOpen I c whole r bs last → RegionIsOpen J c whole r bs last
  region_wider r bs last h = record { view = h.view; is = h.is; done = h.done; blocks = h.blocks; hold = blocks_wider h.done bs h.hold }

  block_wider : (b : Ptr BasicBlock) (head : Head ℕ T A) (os : Operations (Op ℕ T A) (Head ℕ T A) (Brace ℕ)) (inner : Option Object) → BlockIsOpen I c whole b head os inner → BlockIsOpen J c whole b head os inner
  block_wider b head os inner h = record {
    view = h.view;
    is = h.is;
    has = head_wider (I (TheBlock b)) (J (TheBlock b)) h.view head (wider (TheBlock b) head.label.place h.view.loc) h.has;
    done = h.done;
    operations = h.operations;
    hold = operations_wider h.done os h.hold;
  }

  open_wider : (at : OpenAt T A) (u : Unfinished T A) (inner : Option Object) → IsOpenAt I c whole at u inner → IsOpenAt J c whole at u inner
  open_wider (operation_under p own) (operation_so_far at id rs) inner (f, g, h) = (f, g, operation_wider p own rs inner h)
  open_wider (operation_under p own) (but_its_mark o rs) inner h = absurd h
  open_wider (operation_under p own) (region_so_far bs last) inner h = absurd h
  open_wider (ended_under p) (operation_so_far at id rs) inner h = absurd h
  open_wider (ended_under p) (region_so_far bs last) inner h = absurd h
  open_wider (ended_under p) (but_its_mark o rs) inner (f, h) = (f, operation_wider p (own_of o) rs None h)
  open_wider (region_under r None) (region_so_far bs None) inner (f, h) = (f, region_wider r bs [] h)
  open_wider (region_under r None) (region_so_far bs (Some last)) inner h = absurd h
  open_wider (region_under r (Some b)) (region_so_far bs None) inner h = absurd h
  open_wider (region_under r (Some b)) (region_so_far bs (Some last)) inner (f, h) = (region_wider r bs (b ∷ []) f, block_wider b last.0 last.1 inner h)
  open_wider (region_under r None) (operation_so_far at id rs) inner h = absurd h
  open_wider (region_under r (Some b)) (operation_so_far at id rs) inner h = absurd h
  open_wider (region_under r None) (but_its_mark o rs) inner h = absurd h
  open_wider (region_under r (Some b)) (but_its_mark o rs) inner h = absurd h

  all_wider : (ats : List (OpenAt T A)) (us : List (Unfinished T A)) (inner : Option Object) → AreOpenAt I c whole ats us inner → AreOpenAt J c whole ats us inner
  all_wider [] [] inner h = tt
  all_wider [] (u ∷ us) inner h = absurd h
  all_wider (at ∷ ats) [] inner h = absurd h
  all_wider (at ∷ ats) (u ∷ us) inner h = (open_wider at u inner h.0, all_wider ats us (as_inner at) h.1)

  tree_wider : (root : Option (Ptr Operation)) (t : Option (Tree ℕ T A)) → TreeHolds I c whole root t → TreeHolds J c whole root t
  tree_wider None None h = tt
  tree_wider None (Some t) h = absurd h
  tree_wider (Some p) None h = absurd h
  tree_wider (Some p) (Some t) h = operations_wider (p ∷ []) (forest.operation t.own t.regions no_operations) h

  -- what is contained is contained with more known
  pub holds_wider : (ats : List (OpenAt T A)) (root : Option (Ptr Operation)) (b : Building T A) → HoldsSoFar I c whole ats root b → HoldsSoFar J c whole ats root b
  holds_wider ats root b h = record {
    are_open = all_wider ats b.unfinished None h.are_open;
    tree = tree_wider root b.tree h.tree;
    whole_there = h.whole_there;
    open_there = h.open_there;
    not_whole = h.not_whole;
    apart = h.apart;
  }

-- what is recorded stays recorded where one item more is
pub still_noted : {A : Type 0} (IsLocation : ℕ → Location A → Type 0) (items : Made) (n : ℕ) (k : Object) (o : Object) (m : ℕ) (l : Location A) → noted items IsLocation o m l → noted ((n, k) ∷ items) IsLocation o m l
still_noted IsLocation items n k o m l h = (inr h.0, h.1)

module _ {T A : Type 0} (IsLocation : ℕ → Location A → Type 0) where
  -- an operation that was created is recorded
  pub came_noted : (old new : ContextView T A) (items : Made) (p : Ptr Operation) (own : OwnSoFar T A) → OperationCame old new IsLocation p own
      → OperationCame old new (noted ((own.place, TheOperation p) ∷ items) IsLocation (TheOperation p)) p own
  came_noted old new items p own h = record {
    is_new = h.is_new;
    view = h.view;
    is = h.is;
    has = own_wider IsLocation (noted ((own.place, TheOperation p) ∷ items) IsLocation (TheOperation p)) h.view own (λ l. (inl refl, l)) h.has;
    uses = h.uses;
    regions = h.regions;
  }

  -- and so is a block
  pub block_came_noted : (old new : ContextView T A) (items : Made) (b : Ptr BasicBlock) (head : Head ℕ T A) → BlockCame old new IsLocation b head
      → BlockCame old new (noted ((head.label.place, TheBlock b) ∷ items) IsLocation (TheBlock b)) b head
  block_came_noted old new items b head h = record {
    is_new = h.is_new;
    view = h.view;
    is = h.is;
    has = head_wider IsLocation (noted ((head.label.place, TheBlock b) ∷ items) IsLocation (TheBlock b)) h.view head (λ l. (inl refl, l)) h.has;
    operations = h.operations;
    inside = h.inside;
  }

  -- an operation whose own changed is recorded where it was
  pub became_noted : (old new : ContextView T A) (items : Made) (p : Ptr Operation) (own : OwnSoFar T A) → Among (own.place, TheOperation p) items → OwnBecame old new IsLocation p own
      → OwnBecame old new (noted items IsLocation (TheOperation p)) p own
  became_noted old new items p own i h = record {
    view = h.view;
    is = h.is;
    has = own_wider IsLocation (noted items IsLocation (TheOperation p)) h.view own (λ l. (i, l)) h.has;
    uses = h.uses;
    regions = h.regions;
  }
