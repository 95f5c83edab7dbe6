-- What a context contains of a region without a parent it contains of it after the region was appended to an operation: only that operation
-- and the region changed, and of the region only its parent.
use Rattle.std.proofs.Common.{◌≡◌, ◌∙◌, ℕ, List, [], ◌∷◌, length, Option, Some, None, option_map, slice_get, refl, sym, ap, subst}
use Rattle.std.specs.Prelude.{option_and_then}
use Rattle.irtext_base.specs.declared.location.Location.{Location}
use Rattle.irtext_context.specs.Context.{ContextView, RegionView, operation, operation_of, block, block_of, region, region_of, regions_in}
use Rattle.irtext_graph.specs.declared.arena.Entry.{Entry}
use Rattle.irtext_graph.specs.declared.arena.Ptr.{Ptr}
use Rattle.irtext_graph.specs.declared.object.Operation.{Operation}
use Rattle.irtext_graph.specs.declared.object.BasicBlock.{BasicBlock}
use Rattle.irtext_graph.specs.declared.object.Region.{Region}
use Rattle.irtext_graph.specs.declared.object.Object.{Object}
use Rattle.irtext_graph.specs.declared.object.Object.TheVariants.{TheOperation, TheBlock, TheRegion}
use Rattle.irtext_graph.specs.Chained.{Among}
use Rattle.irtext_graph.specs.Content.{Node, OperationContent, RegionContent}
use Rattle.irtext_graph.specs.declared.object.Defined.TheVariants.{OfValue, OfBlock}
use Rattle.irtext_graph.specs.declared.object.Site.{Site}
use Rattle.irtext_graph.specs.declared.object.Site.TheVariants.{AtOperand, AtSuccessor}
use Rattle.irtext_graph.specs.Used.{used_at}
use Rattle.irtext_context.proofs.Contexts.{OperationEntry}
use Rattle.irtext_context.specs.declared.base.operation.OperationData.{OperationData}
use Rattle.irtext_graph.specs.Graph.{children_of, content_of, Appends}
use Rattle.irtext_graph.specs.Parts.{operands_of, successors_of}
use Rattle.irtext_graph.specs.Store.{get}
use Rattle.irtext_graph.proofs.Frames.{map_same, block_same, operation_content_same, region_content_same}
use Rattle.irtext_grammar.specs.Grammar.Forest as forest
use Rattle.irtext_grammar.specs.Grammar.Forest.{Regions, no_regions, Blocks, no_blocks, Operations, no_operations}
use Rattle.irtext_grammar.specs.Grammar.Tree.{Op, Head, Brace}
use Rattle.irtext_grammar.specs.Unchanged.{own_of, HasUses, RegionsHold, BlocksHold, OperationsHold}
use Rattle.irtext_grammar.specs.Tracks as tracks
use Rattle.irtext_grammar.specs.Tracks.{blocks_in, HasChild}
use Rattle.irtext_parse_root.proofs.RegionGains.{other_operation, each_block}

abbrev pub OfRegion : Type 0
OfRegion = Option (Entry (Node Operation BasicBlock RegionContent))

blocks_of : (x : OfRegion) → blocks_in (option_map region_of x) ≡ children_of x
blocks_of None = refl
blocks_of (Some e) = refl

-- a region with the same children and the same content is seen with the same blocks
view_of_region : (x y : OfRegion) → children_of y ≡ children_of x → content_of y ≡ content_of x → (view : RegionView) → option_map region_of x ≡ Some view → (now : RegionView) × (option_map region_of y ≡ Some now) × (now.blocks ≡ view.blocks)
view_of_region None y c e view f = absurd (cc)
view_of_region (Some x) None c e view f = absurd (cc)
view_of_region (Some x) (Some y) c e view f =
    let same : region_of x ≡ view = cc in
    (region_of y, refl, c ∙ ap (λ (v : RegionView). v.blocks) same)

held_same : {T A : Type 0} (x y : Option (OperationEntry T A)) → content_of x ≡ content_of y → option_map (λ e. e.content.content) x ≡ option_map (λ e. e.content.content) y
held_same None None e = refl
held_same None (Some y) e = absurd (cc)
held_same (Some x) None e = absurd (cc)
held_same {T} {A} (Some x) (Some y) e = ap (λ z. option_map (λ (d : ℕ × OperationContent (Option (OperationData A)) (Option T)). d.1) z) e

module _ {T A : Type 0} (I : Object → ℕ → Location A → Type 0) (mid c : ContextView T A) (op : Ptr Operation) (r : Ptr Region) (a : Appends mid.graph c.graph (TheOperation op) (TheRegion r)) (whole : List Object)
    (not_whole : Among (TheOperation op) whole → ⊥) where
  -- ---- what is seen of each object
  not_it : (p : Ptr Operation) → Among (TheOperation p) whole → p ≡ op → ⊥
  not_it p i e = not_whole (subst (λ z. Among (TheOperation z) whole) e i)

  same_operation : (p : Ptr Operation) → Among (TheOperation p) whole → operation c p ≡ operation mid p
  same_operation p i = ap (option_and_then operation_of) (other_operation mid.graph c.graph op r a p (not_it p i))

  same_block : (b : Ptr BasicBlock) → block c b ≡ block mid b
  same_block b = ap (option_map block_of) (each_block mid.graph c.graph op r a b)

  same_children : (q : Ptr Region) → children_of (get c.graph.regions q) ≡ children_of (get mid.graph.regions q)
  same_children q = map_same TheBlock block_same (children_of (get c.graph.regions q)) (children_of (get mid.graph.regions q)) (a.others (TheRegion q) (λ e. cc))

  region_seen : (q : Ptr Region) (view : RegionView) → region mid q ≡ Some view → (now : RegionView) × (region c q ≡ Some now) × (now.blocks ≡ view.blocks)
  region_seen q view e = view_of_region (get mid.graph.regions q) (get c.graph.regions q) (same_children q) (region_content_same mid.graph c.graph q (a.objects.contents (TheRegion q))) view e

  uses_moved : (p : Ptr Operation) (o : Op ℕ T A) → Among (TheOperation p) whole → HasUses mid p (own_of o) → HasUses c p (own_of o)
  uses_moved p o i u =
      let e = other_operation mid.graph c.graph op r a p (not_it p i) in record {
        operands_are = ap (λ x. length (operands_of (option_map (λ e. e.content.content) x))) e ∙ u.operands_are;
        successors_are = ap (λ x. length (successors_of (option_map (λ e. e.content.content) x))) e ∙ u.successors_are;
      }

  -- ---- so it holds what it held
  mutual
    pub regions_moved : (rs : List (Ptr Region)) (bs : Regions (Op ℕ T A) (Head ℕ T A) (Brace ℕ)) → RegionsHold I mid whole rs bs → RegionsHold I c whole rs bs
    regions_moved [] no_regions h = tt
    regions_moved (q ∷ rs) (forest.region brace bs more) (i, (view, is, hold), k) =
        let now = region_seen q view is in
        (i, (now.0, now.1, subst (λ z. BlocksHold I c whole z bs) (sym now.2) (blocks_moved view.blocks bs hold)), regions_moved rs more k)
    regions_moved _ _ h = absurd h

    blocks_moved : (ps : List (Ptr BasicBlock)) (bs : Blocks (Op ℕ T A) (Head ℕ T A) (Brace ℕ)) → BlocksHold I mid whole ps bs → BlocksHold I c whole ps bs
    blocks_moved [] no_blocks h = tt
    blocks_moved (b ∷ ps) (forest.block head os more) (i, (view, is, has, hold), k) =
        (i, (view, same_block b ∙ is, has, operations_moved view.operations os hold), blocks_moved ps more k)
    blocks_moved _ _ h = absurd h

    operations_moved : (ps : List (Ptr Operation)) (os : Operations (Op ℕ T A) (Head ℕ T A) (Brace ℕ)) → OperationsHold I mid whole ps os → OperationsHold I c whole ps os
    operations_moved [] no_operations h = tt
    operations_moved (p ∷ ps) (forest.operation o rs more) (i, (view, is, has, uses, hold), k) =
        (i, (view, same_operation p i ∙ is, has, uses_moved p o i uses, regions_moved view.regions rs hold), operations_moved ps more k)
    operations_moved _ _ h = absurd h

  -- and what was a child of a complete object still is
  pub child_moved : (k o : Object) → Among k whole → HasChild mid k o → HasChild c k o
  child_moved (TheOperation p) (TheRegion q) i h = subst (λ z. Among q (regions_in z)) (sym (same_operation p i)) h
  child_moved (TheOperation p) (TheOperation q) i h = absurd h
  child_moved (TheOperation p) (TheBlock b) i h = absurd h
  child_moved (TheRegion q) (TheBlock b) i h = subst (λ z. Among b z) (blocks_of (get mid.graph.regions q) ∙ (sym (same_children q) ∙ sym (blocks_of (get c.graph.regions q)))) h
  child_moved (TheRegion q) (TheOperation p) i h = absurd h
  child_moved (TheRegion q) (TheRegion p) i h = absurd h
  child_moved (TheBlock b) (TheOperation p) i h = subst (λ z. Among p (tracks.operations_in z)) (sym (same_block b)) h
  child_moved (TheBlock b) (TheBlock d) i h = absurd h
  child_moved (TheBlock b) (TheRegion q) i h = absurd h

  -- and each operation uses what it used
  pub used_same : (s : Site) → used_at c.graph s ≡ used_at mid.graph s
  used_same (AtOperand p i) = ap (λ z. option_map OfValue (slice_get (operands_of z) i)) (held_same (get c.graph.operations p) (get mid.graph.operations p) (operation_content_same mid.graph c.graph p (a.objects.contents (TheOperation p))))
  used_same (AtSuccessor p i) = ap (λ z. option_map OfBlock (slice_get (successors_of z) i)) (held_same (get c.graph.operations p) (get mid.graph.operations p) (operation_content_same mid.graph c.graph p (a.objects.contents (TheOperation p))))
