-- Dialects that know each operation in a root as its context does know those that printing sees.
use Rattle.std.proofs.Common.{◌≡◌, ◌∙◌, ℕ, suc, List, [], ◌∷◌, slice_get, length, Option, Some, None, option_map, refl, sym, ap, subst}
use Rattle.std.specs.Prelude.{⊤}
use Rattle.std.proofs.lemmas.Option.{slice_get-map}
use Rattle.irtext_base.specs.Text.{Text}
use Rattle.irtext_context.specs.Context.{ContextView, OperationView, BlockView, operation, block}
use Rattle.irtext_context.specs.Dialects.{Table}
use Rattle.irtext_graph.specs.declared.arena.Ptr.{Ptr}
use Rattle.irtext_graph.specs.declared.object.BasicBlock.{BasicBlock}
use Rattle.irtext_graph.specs.declared.object.Object.{Object}
use Rattle.irtext_graph.specs.declared.object.Object.TheVariants.{TheOperation, TheBlock, TheRegion}
use Rattle.irtext_graph.specs.declared.object.Operation.{Operation}
use Rattle.irtext_graph.specs.declared.object.Region.{Region}
use Rattle.irtext_graph.specs.Graph.{IsInside, parent, children}
use Rattle.irtext_graph.specs.Nested.{Nested}
use Rattle.irtext_graph.specs.Parts.{regions, blocks, operations_in}
use Rattle.irtext_graph.proofs.Inside.{within_self, within_up}
use Rattle.irtext_graph.proofs.Nests.{some_eq}
use Rattle.irtext_grammar.specs.Contexts.Nested.{operations_by, blocks_by, regions_by, within, seen_operation, seen_block, seen_operations, seen_blocks, seen_regions, seen_root}
use Rattle.irtext_grammar.specs.Grammar.Forest as forest
use Rattle.irtext_grammar.specs.Grammar.Forest.{Regions, no_regions, region, Blocks, no_blocks, Operations, no_operations, AllRegions, AllBlocks, AllOperations}
use Rattle.irtext_grammar.specs.Graphs.Graph.{Graph, GraphOp, GraphBlock}
use Rattle.irtext_print_ops.proofs.Depths.{inside_is}
use Rattle.irtext_alike.specs.Alike.{KnowsRoot}
use Rattle.pliron_text.specs.Alike.{IsKnownAlike, AreKnownAlike}
use Rattle.pliron_text.proofs.Forests.{PtrRegions, PtrBlocks, PtrOperations, first_blocks, more_regions, first_block, first_operations, more_blocks, first_operation, first_regions, more_operations}

module _ {T A : Type 0} (ctx : ContextView T A) (text_of : A → Text) (root : Ptr Operation) (nested : Nested (children ctx.graph) (parent ctx.graph)) (dialects : List (Text × Table)) (knows : KnowsRoot ctx dialects root) where
  abbrev Inner : Object → Type 0
  Inner q = IsInside ctx.graph (TheOperation root) q

  abbrev inside_of : Ptr Operation → PtrRegions
  inside_of p = within ctx.graph (suc (length ctx.graph.operations.cells)) p

  abbrev Known : GraphOp T A → Type 0
  Known o = IsKnownAlike dialects ctx.dialects o.id

  step : (k c : Object) → parent ctx.graph c ≡ Some k → Inner k → Inner c
  step k c up w = within_up (parent ctx.graph) (TheOperation root) c k up w

  known_block : (b : Ptr BasicBlock) (os : Operations (GraphOp T A) (GraphBlock T A) ⊤) (bs : Blocks (GraphOp T A) (GraphBlock T A) ⊤) (o : Option (BlockView T A))
      → AllOperations Known (λ h. ⊤) (λ r. ⊤) os → AllBlocks Known (λ h. ⊤) (λ r. ⊤) bs
      → AllBlocks Known (λ h. ⊤) (λ r. ⊤) (elim o [ Some view ↦ forest.block (seen_block text_of ctx b view) os bs | None ↦ bs ])
  known_block b os bs None inner rest = rest
  known_block b os bs (Some view) inner rest = (tt, inner, rest)

  known_operation : (p : Ptr Operation) (rs : Regions (GraphOp T A) (GraphBlock T A) ⊤) (os : Operations (GraphOp T A) (GraphBlock T A) ⊤) (o : Option (OperationView T A)) → operation ctx p ≡ o → Inner (TheOperation p)
      → AllRegions Known (λ h. ⊤) (λ r. ⊤) rs → AllOperations Known (λ h. ⊤) (λ r. ⊤) os
      → AllOperations Known (λ h. ⊤) (λ r. ⊤) (elim o [ Some view ↦ forest.operation (seen_operation text_of ctx p view) rs os | None ↦ os ])
  known_operation p rs os None is w inner rest = rest
  known_operation p rs os (Some view) is w inner rest = (knows.alike p view w is, inner, rest)

  mutual
    known_regions : (f : PtrRegions) (rs : List (Ptr Region)) → f ≡ regions_by ctx.graph inside_of rs → ((m : ℕ) (r : Ptr Region) → slice_get rs m ≡ Some r → Inner (TheRegion r)) → AllRegions Known (λ h. ⊤) (λ r. ⊤) (seen_regions text_of ctx f)
    known_regions no_regions rs is ins = tt
    known_regions (region q bs more) [] is ins = absurd (cc)
    known_regions (region q bs more) (s ∷ rs) is ins = (
      tt,
      known_blocks bs (blocks ctx.graph s) (ap first_blocks is) (λ i b e. step (TheRegion s) (TheBlock b) (nested.down (TheRegion s) i (TheBlock b) (slice_get-map TheBlock (blocks ctx.graph s) i ∙ ap (option_map TheBlock) e)) (ins 0 s refl)),
      known_regions more rs (ap more_regions is) (λ m. ins (suc m)),
    )

    known_blocks : (f : PtrBlocks) (bs : List (Ptr BasicBlock)) → f ≡ blocks_by ctx.graph inside_of bs → ((i : ℕ) (b : Ptr BasicBlock) → slice_get bs i ≡ Some b → Inner (TheBlock b)) → AllBlocks Known (λ h. ⊤) (λ r. ⊤) (seen_blocks text_of ctx f)
    known_blocks no_blocks bs is ins = tt
    known_blocks (forest.block c os more) [] is ins = absurd (cc)
    known_blocks (forest.block c os more) (d ∷ bs) is ins =
        let same : d ≡ c = sym (ap (first_block c) is) in
        let inside : Inner (TheBlock c) = subst (λ z. Inner (TheBlock z)) same (ins 0 d refl) in
        known_block c (seen_operations text_of ctx os) (seen_blocks text_of ctx more) (block ctx c)
        (known_operations os (operations_in ctx.graph c) (ap first_operations is ∙ ap (λ z. operations_by ctx.graph inside_of (operations_in ctx.graph z)) same)
        (λ i p e. step (TheBlock c) (TheOperation p) (nested.down (TheBlock c) i (TheOperation p) (slice_get-map TheOperation (operations_in ctx.graph c) i ∙ ap (option_map TheOperation) e)) inside))
        (known_blocks more bs (ap more_blocks is) (λ i. ins (suc i)))

    known_operations : (f : PtrOperations) (ps : List (Ptr Operation)) → f ≡ operations_by ctx.graph inside_of ps → ((i : ℕ) (p : Ptr Operation) → slice_get ps i ≡ Some p → Inner (TheOperation p)) → AllOperations Known (λ h. ⊤) (λ r. ⊤) (seen_operations text_of ctx f)
    known_operations no_operations ps is ins = tt
    known_operations (forest.operation q rs more) [] is ins = absurd (cc)
    known_operations (forest.operation q rs more) (d ∷ ps) is ins =
        let same : d ≡ q = sym (ap (first_operation q) is) in
        let inside : Inner (TheOperation q) = subst (λ z. Inner (TheOperation z)) same (ins 0 d refl) in
        known_operation q (seen_regions text_of ctx rs) (seen_operations text_of ctx more) (operation ctx q) refl inside
        (known_regions rs (regions ctx.graph q) (ap first_regions is ∙ ap inside_of same ∙ inside_is ctx.graph nested q)
        (λ m r e. step (TheOperation q) (TheRegion r) (nested.down (TheOperation q) m (TheRegion r) (slice_get-map TheRegion (regions ctx.graph q) m ∙ ap (option_map TheRegion) e)) inside))
        (known_operations more ps (ap more_operations is) (λ i. ins (suc i)))

  abbrev graph_at : OperationView T A → Graph T A
  graph_at view = record { own = seen_operation text_of ctx root view; regions = seen_regions text_of ctx (inside_of root) }

  -- they know each operation of the root's graph alike
  pub seen_alike : (g : Graph T A) → seen_root text_of ctx root ≡ Some g → AreKnownAlike dialects ctx.dialects g
  seen_alike g e = go (operation ctx root) refl e
    where
      here : (view : OperationView T A) → operation ctx root ≡ Some view → AreKnownAlike dialects ctx.dialects (graph_at view)
      here view is = (
        knows.alike root view (within_self (parent ctx.graph) (TheOperation root)) is,
        known_regions (inside_of root) (regions ctx.graph root) (inside_is ctx.graph nested root)
            (λ m r at. step (TheOperation root) (TheRegion r) (nested.down (TheOperation root) m (TheRegion r) (slice_get-map TheRegion (regions ctx.graph root) m ∙ ap (option_map TheRegion) at)) (within_self (parent ctx.graph) (TheOperation root))),
      )

      go : (o : Option (OperationView T A)) → operation ctx root ≡ o → option_map graph_at o ≡ Some g → AreKnownAlike dialects ctx.dialects g
      go None is h = absurd (cc)
      go (Some view) is h = subst (λ (z : Graph T A). AreKnownAlike dialects ctx.dialects z) (some_eq h) (here view is)
