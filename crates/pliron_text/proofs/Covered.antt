-- Where each operation of a root fits its format, printing the root does not fail for a misfit.
use Rattle.std.proofs.Common.{◌≡◌, ◌∙◌, inl, inr, ℕ, suc, ◌+◌, Bool, List, [], ◌∷◌, length, slice_get, Option, Some, None, IsSome, refl, sym, ap, subst}
use Rattle.std.specs.Option.{option_map}
use Rattle.std.specs.Prelude.{⊤, IfSome, is_some}
use Rattle.std.proofs.lemmas.Option.{slice_get-map}
use Rattle.irtext_base.specs.declared.text.AttrText as attr_text
use Rattle.irtext_base.specs.declared.text.IrText as ir_text
use Rattle.irtext_context.specs.Context.{ContextView, OperationView, BlockView, operation, block}
use Rattle.irtext_graph.specs.Graph.{parent, children, IsInside}
use Rattle.irtext_graph.specs.Nested.{climb, Nested}
use Rattle.irtext_graph.specs.Parts.{regions, blocks, operations_in}
use Rattle.irtext_graph.specs.declared.arena.Ptr.{Ptr}
use Rattle.irtext_graph.specs.declared.object.BasicBlock.{BasicBlock}
use Rattle.irtext_graph.specs.declared.object.Object.{Object}
use Rattle.irtext_graph.specs.declared.object.Object.TheVariants.{TheOperation, TheBlock, TheRegion}
use Rattle.irtext_graph.specs.declared.object.Operation.{Operation}
use Rattle.irtext_graph.specs.declared.object.Region.{Region}
use Rattle.irtext_grammar.specs.Contexts.Formats.{isolated}
use Rattle.irtext_grammar.specs.Contexts.Nested.{operations_by, blocks_by, regions_by, seen_operation, seen_block, seen_operations, seen_blocks, seen_regions}
use Rattle.irtext_grammar.specs.Grammar.Forest as forest
use Rattle.irtext_grammar.specs.Grammar.Forest.{Regions, no_regions, region, Blocks, no_blocks, Operations, no_operations}
use Rattle.irtext_grammar.specs.Graphs.Closed.{FitsOp}
use Rattle.irtext_grammar.specs.Graphs.Graph.{GraphOp, GraphBlock, Limit, inside}
use Rattle.irtext_print.specs.declared.printable.refusal.Refusal.TheVariants.{Misfit}
use Rattle.irtext_print_ops.proofs.Depths.{inside_is}
use Rattle.irtext_print_ops.proofs.Refused.{fits_seen}
use Rattle.irtext_print_ops.proofs.Turned.{seen_some}
use Rattle.irtext_print_ops.specs.Faults.{RegionsFault, BlocksFault, OperationsFault}
use Rattle.irtext_print_ops.specs.Fits.{FitsOwn}
use Rattle.irtext_print_ops.specs.Heads as heads
use Rattle.irtext_print_ops.specs.Heads.{printing_of, language_of}
use Rattle.irtext_print_ops.specs.Walk.{inside_of, seen_at}
use Rattle.pliron_text.specs.Unprinted.{plain}
use Rattle.pliron_text.specs.Misfits.{AllFit}
use Rattle.pliron_text.proofs.Forests.{PtrRegions, PtrBlocks, PtrOperations, first_blocks, more_regions, first_operations, more_blocks, first_operation, first_regions, more_operations}

some_of : {X : Type 0} (o : Option X) → IsSome o → (x : X) × (o ≡ Some x)
some_of None h = absurd (cc h)
some_of (Some x) h = (x, refl)

module _ {T A : Type 0} (types : ir_text.Ghosts T A) (owns : ir_text.Ghosts A A) (attributes : attr_text.Ghosts A A) (same : A → A → Bool) (ctx : ContextView T A) where
  -- ---- what one more block or operation gives as a reason
  block_case : (b : Ptr BasicBlock) (os : Operations (GraphOp T A) (GraphBlock T A) ⊤) (bs : Blocks (GraphOp T A) (GraphBlock T A) ⊤) (width i : ℕ) (l : Limit)
      → (OperationsFault (printing_of types owns attributes same ctx) (isolated ctx.dialects) width Misfit (i + width) l os → ⊥)
      → (BlocksFault (printing_of types owns attributes same ctx) (isolated ctx.dialects) width Misfit i l bs → ⊥) → (o : Option (BlockView T A))
      → BlocksFault (printing_of types owns attributes same ctx) (isolated ctx.dialects) width Misfit i l (elim o [ Some view ↦ forest.block (seen_block owns.written ctx b view) os bs | None ↦ bs ]) → ⊥
  block_case b os bs width i l f k None h = k h
  block_case b os bs width i l f k (Some view) (inl (inl x)) = x
  block_case b os bs width i l f k (Some view) (inl (inr x)) = f x
  block_case b os bs width i l f k (Some view) (inr x) = k x

  operation_case : (p : Ptr Operation) (rs : Regions (GraphOp T A) (GraphBlock T A) ⊤) (os : Operations (GraphOp T A) (GraphBlock T A) ⊤) (width i : ℕ) (l : Limit) (o : Option (OperationView T A))
      → ((view : OperationView T A) → o ≡ Some view → FitsOp (printing_of types owns attributes same ctx) (isolated ctx.dialects) (seen_operation owns.written ctx p view) rs)
      → (RegionsFault (printing_of types owns attributes same ctx) (isolated ctx.dialects) width Misfit i l rs → ⊥)
      → (OperationsFault (printing_of types owns attributes same ctx) (isolated ctx.dialects) width Misfit i l os → ⊥)
      → OperationsFault (printing_of types owns attributes same ctx) (isolated ctx.dialects) width Misfit i l (elim o [ Some view ↦ forest.operation (seen_operation owns.written ctx p view) rs os | None ↦ os ]) → ⊥
  operation_case p rs os width i l None fits f k h = k h
  operation_case p rs os width i l (Some view) fits f k (inl (inl x)) = x (fits view refl)
  operation_case p rs os width i l (Some view) fits f k (inl (inr x)) = f x
  operation_case p rs os width i l (Some view) fits f k (inr x) = k x

  module _ (root : Ptr Operation) (nested : Nested (children ctx.graph) (parent ctx.graph)) (fits : AllFit owns.written attributes same ctx root) where
    abbrev In : Object → Type 0
    In q = IsInside ctx.graph (TheOperation root) q

    abbrev all_of : Ptr Operation → PtrRegions
    all_of p = inside_of (printing_of types owns attributes same ctx) (language_of types owns attributes same ctx) ctx p

    child_in : (k c : Object) → parent ctx.graph c ≡ Some k → In k → In c
    child_in k c up w = (suc w.0, ap (climb (parent ctx.graph) w.0) up ∙ w.1)

    region_in : (p : Ptr Operation) (r : Ptr Region) (m : ℕ) → slice_get (regions ctx.graph p) m ≡ Some r → In (TheOperation p) → In (TheRegion r)
    region_in p r m e w = child_in (TheOperation p) (TheRegion r) (nested.down (TheOperation p) m (TheRegion r) (slice_get-map TheRegion (regions ctx.graph p) m ∙ ap (option_map TheRegion) e)) w

    block_in : (r : Ptr Region) (b : Ptr BasicBlock) (j : ℕ) → slice_get (blocks ctx.graph r) j ≡ Some b → In (TheRegion r) → In (TheBlock b)
    block_in r b j e w = child_in (TheRegion r) (TheBlock b) (nested.down (TheRegion r) j (TheBlock b) (slice_get-map TheBlock (blocks ctx.graph r) j ∙ ap (option_map TheBlock) e)) w

    operation_in : (b : Ptr BasicBlock) (q : Ptr Operation) (i : ℕ) → slice_get (operations_in ctx.graph b) i ≡ Some q → In (TheBlock b) → In (TheOperation q)
    operation_in b q i e w = child_in (TheBlock b) (TheOperation q) (nested.down (TheBlock b) i (TheOperation q) (slice_get-map TheOperation (operations_in ctx.graph b) i ∙ ap (option_map TheOperation) e)) w

    -- an operation fits its format, with the regions that printing sees
    fits_at : (p : Ptr Operation) (view : OperationView T A) → operation ctx p ≡ Some view → In (TheOperation p)
        → FitsOp (printing_of types owns attributes same ctx) (isolated ctx.dialects) (seen_at (printing_of types owns attributes same ctx) (language_of types owns attributes same ctx) ctx p) (seen_regions owns.written ctx (regions_by ctx.graph all_of (regions ctx.graph p)))
    fits_at p view e w =
        let C = printing_of types owns attributes same ctx in
        let L = language_of types owns attributes same ctx in
        let own : FitsOwn C (isolated ctx.dialects) (seen_operation owns.written ctx p view) (length (regions ctx.graph p)) = subst (λ z. IfSome z (λ o. FitsOwn C (isolated ctx.dialects) o (length (regions ctx.graph p)))) (ap (option_map (seen_operation owns.written ctx p)) e) (fits (TheOperation p) w (ap is_some e)) in
        fits_seen C L ctx 2 p (subst (λ o. FitsOwn C (isolated ctx.dialects) o (length (regions ctx.graph p))) (sym (seen_some C L ctx 2 (operation ctx p) view p e)) own)

    -- the same for an operation of a forest
    fits_inside : (p : Ptr Operation) (rs : PtrRegions) → rs ≡ all_of p → In (TheOperation p) → (view : OperationView T A) → operation ctx p ≡ Some view
        → FitsOp (printing_of types owns attributes same ctx) (isolated ctx.dialects) (seen_operation owns.written ctx p view) (seen_regions owns.written ctx rs)
    fits_inside p rs is w view e =
        let C = printing_of types owns attributes same ctx in
        let L = language_of types owns attributes same ctx in
        subst (λ z. FitsOp C (isolated ctx.dialects) (seen_operation owns.written ctx p view) (seen_regions owns.written ctx z)) (sym (is ∙ inside_is ctx.graph nested p))
        (subst (λ o. FitsOp C (isolated ctx.dialects) o (seen_regions owns.written ctx (regions_by ctx.graph all_of (regions ctx.graph p)))) (seen_some C L ctx 2 (operation ctx p) view p e) (fits_at p view e w))

    mutual
      regions_fine : (f : PtrRegions) (rs : List (Ptr Region)) → f ≡ regions_by ctx.graph all_of rs → ((m : ℕ) (r : Ptr Region) → slice_get rs m ≡ Some r → In (TheRegion r)) → (i : ℕ) (l : Limit)
          → RegionsFault (printing_of types owns attributes same ctx) (isolated ctx.dialects) 2 Misfit i l (seen_regions owns.written ctx f) → ⊥
      regions_fine no_regions rs is ins i l h = h
      regions_fine (region r bs more) [] is ins i l h = absurd (cc is)
      regions_fine (region r bs more) (s ∷ rs) is ins i l (inl (shown, inl x)) = x
      regions_fine (region r bs more) (s ∷ rs) is ins i l (inl (shown, inr x)) =
          blocks_fine bs (blocks ctx.graph s) (ap first_blocks is) (λ j b e. block_in s b j e (ins 0 s refl)) (i + 2) (inside (printing_of types owns attributes same ctx) l) x
      regions_fine (region r bs more) (s ∷ rs) is ins i l (inr x) = regions_fine more rs (ap more_regions is) (λ m q e. ins (suc m) q e) i l x

      blocks_fine : (f : PtrBlocks) (bs : List (Ptr BasicBlock)) → f ≡ blocks_by ctx.graph all_of bs → ((j : ℕ) (b : Ptr BasicBlock) → slice_get bs j ≡ Some b → In (TheBlock b)) → (i : ℕ) (l : Limit)
          → BlocksFault (printing_of types owns attributes same ctx) (isolated ctx.dialects) 2 Misfit i l (seen_blocks owns.written ctx f) → ⊥
      blocks_fine no_blocks bs is ins i l h = h
      blocks_fine (forest.block b os more) [] is ins i l h = absurd (cc is)
      blocks_fine (forest.block b os more) (c ∷ bs) is ins i l h =
          block_case b (seen_operations owns.written ctx os) (seen_blocks owns.written ctx more) 2 i l
          (λ x. operations_fine os (operations_in ctx.graph c) (ap first_operations is) (λ k q e. operation_in c q k e (ins 0 c refl)) (i + 2) l x)
          (λ x. blocks_fine more bs (ap more_blocks is) (λ j d e. ins (suc j) d e) i l x) (block ctx b) h

      operations_fine : (f : PtrOperations) (ps : List (Ptr Operation)) → f ≡ operations_by ctx.graph all_of ps → ((k : ℕ) (q : Ptr Operation) → slice_get ps k ≡ Some q → In (TheOperation q)) → (i : ℕ) (l : Limit)
          → OperationsFault (printing_of types owns attributes same ctx) (isolated ctx.dialects) 2 Misfit i l (seen_operations owns.written ctx f) → ⊥
      operations_fine no_operations ps is ins i l h = h
      operations_fine (forest.operation p rs more) [] is ins i l h = absurd (cc is)
      operations_fine (forest.operation p rs more) (q ∷ ps) is ins i l h =
          let same_op : p ≡ q = ap (first_operation p) is in
          let here : In (TheOperation p) = subst (λ z. In (TheOperation z)) (sym same_op) (ins 0 q refl) in
          let all : rs ≡ all_of p = subst (λ z. rs ≡ all_of z) (sym same_op) (ap first_regions is) in
          operation_case p (seen_regions owns.written ctx rs) (seen_operations owns.written ctx more) 2 i l (operation ctx p) (fits_inside p rs all here)
          (λ x. regions_fine rs (regions ctx.graph p) (all ∙ inside_is ctx.graph nested p) (λ m r e. region_in p r m e here) i l x)
          (λ x. operations_fine more ps (ap more_operations is) (λ k o e. ins (suc k) o e) i l x) h

    -- so printing does not fail for a misfit
    pub none_misfits : IsSome (operation ctx root) → heads.MisfitsUnder types owns attributes same ctx root plain → ⊥
    none_misfits live (inl x) = let view = some_of (operation ctx root) live in x (fits_at root view.0 view.1 (0, refl))
    none_misfits live (inr x) = regions_fine (regions_by ctx.graph all_of (regions ctx.graph root)) (regions ctx.graph root) refl (λ m r e. region_in root r m e (0, refl)) 0 None x
