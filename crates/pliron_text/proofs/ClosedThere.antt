-- Everything in a closed root is there: each operation is no placeholder, and the types of all values are known.
use Rattle.std.proofs.Common.{◌≡◌, ◌∙◌, ℕ, suc, List, [], ◌∷◌, map, slice_get, length, Option, Some, IsSome, option_map, refl, sym, ap, ap₂, subst}
use Rattle.std.specs.Prelude.{⊤}
use Rattle.std.proofs.lemmas.Option.{slice_get-map}
use Rattle.irtext_context.specs.Context.{ContextView, known, operation, block}
use Rattle.irtext_graph.specs.declared.arena.Ptr.{Ptr}
use Rattle.irtext_graph.specs.declared.object.BasicBlock.{BasicBlock}
use Rattle.irtext_graph.specs.declared.object.Object.{Object}
use Rattle.irtext_graph.specs.declared.object.Object.TheVariants.{TheOperation, TheBlock, TheRegion}
use Rattle.irtext_graph.specs.declared.object.Operation.{Operation}
use Rattle.irtext_graph.specs.declared.object.Region.{Region}
use Rattle.irtext_graph.specs.declared.object.Value.TheVariants.{Result, Argument}
use Rattle.irtext_graph.specs.Content.{Typed}
use Rattle.irtext_graph.specs.Graph.{IsInside, parent, children}
use Rattle.irtext_graph.specs.Nested.{Nested}
use Rattle.irtext_graph.specs.Parts.{results, arguments, regions, blocks, operations_in}
use Rattle.irtext_graph.proofs.Inside.{within_self, within_up}
use Rattle.irtext_grammar.specs.Contexts.Nested.{operations_by, blocks_by, regions_by, within}
use Rattle.irtext_grammar.specs.Grammar.Forest as forest
use Rattle.irtext_grammar.specs.Grammar.Forest.{no_regions, region, no_blocks, no_operations, AllRegions, AllBlocks, AllOperations}
use Rattle.irtext_closed.specs.Closed.{IsClosedRoot}
use Rattle.irtext_names.specs.Held.{OperationWhole}
use Rattle.irtext_print_ops.proofs.Depths.{inside_is}
use Rattle.pliron_text.proofs.Closing.Owned.{block_live, some_of}
use Rattle.pliron_text.proofs.Forests.{PtrRegions, PtrBlocks, PtrOperations, first_blocks, more_regions, first_block, first_operations, more_blocks, first_operation, first_regions, more_operations}
use Rattle.pliron_text.proofs.Shown.{BlockThere, results_seen, arguments_seen}

-- values whose types are known
all_known : {T : Type 0} (vs : List (Typed (Option T))) → ((i : ℕ) (t : Typed (Option T)) → slice_get vs i ≡ Some t → IsSome t.of_type) → (types : List T) × (map (λ (v : Typed (Option T)). v.of_type) vs ≡ known types)
all_known [] h = ([], refl)
all_known (v ∷ vs) h =
    let rest = all_known vs (λ i. h (suc i)) in
    let t = some_of v.of_type (h 0 v refl) in
    (t.0 ∷ rest.0, ap₂ (λ x xs. x ∷ xs) t.1 rest.1)

module _ {T A : Type 0} (c : ContextView T A) (root : Ptr Operation) (nested : Nested (children c.graph) (parent c.graph)) (shut : IsClosedRoot c root) where
  abbrev inside_of : Ptr Operation → PtrRegions
  inside_of p = within c.graph (suc (length c.graph.operations.cells)) p

  abbrev Inner : Object → Type 0
  Inner q = IsInside c.graph (TheOperation root) q

  step : (k o : Object) → parent c.graph o ≡ Some k → Inner k → Inner o
  step k o up w = within_up (parent c.graph) (TheOperation root) o k up w

  operation_there : (p : Ptr Operation) → Inner (TheOperation p) → OperationWhole c p
  operation_there p w =
      let v = some_of (operation c p) (shut.plain (TheOperation p) w) in
      let k = all_known (results c.graph p) (λ i t e. shut.typed (Result p i) w t e) in
      record { view = v.0; is = v.1; types = k.0; known_as = results_seen c p v.0 v.1 ∙ k.1 }

  block_there : (b : Ptr BasicBlock) (k : Object) → parent c.graph (TheBlock b) ≡ Some k → Inner (TheBlock b) → BlockThere c b
  block_there b k up w =
      let v = some_of (block c b) (block_live c b k up) in
      let t = all_known (arguments c.graph b) (λ i t e. shut.typed (Argument b i) w t e) in
      record { view = v.0; is = v.1; types = t.0; known_as = arguments_seen c b v.0 v.1 ∙ t.1 }

  mutual
    regions_there : (f : PtrRegions) (rs : List (Ptr Region)) → f ≡ regions_by c.graph inside_of rs → ((m : ℕ) (r : Ptr Region) → slice_get rs m ≡ Some r → Inner (TheRegion r)) → AllRegions (OperationWhole c) (BlockThere c) (λ r. ⊤) f
    regions_there no_regions rs is ins = tt
    regions_there (region q bs more) [] is ins = absurd (cc)
    regions_there (region q bs more) (s ∷ rs) is ins = (
      tt,
      blocks_there bs (blocks c.graph s) (ap first_blocks is) s (λ i b e. nested.down (TheRegion s) i (TheBlock b) (slice_get-map TheBlock (blocks c.graph s) i ∙ ap (option_map TheBlock) e)) (ins 0 s refl),
      regions_there more rs (ap more_regions is) (λ m. ins (suc m)),
    )

    blocks_there : (f : PtrBlocks) (bs : List (Ptr BasicBlock)) → f ≡ blocks_by c.graph inside_of bs → (r : Ptr Region) → ((i : ℕ) (b : Ptr BasicBlock) → slice_get bs i ≡ Some b → parent c.graph (TheBlock b) ≡ Some (TheRegion r)) → Inner (TheRegion r) → AllBlocks (OperationWhole c) (BlockThere c) (λ r. ⊤) f
    blocks_there no_blocks bs is r over w = tt
    blocks_there (forest.block b os more) [] is r over w = absurd (cc)
    blocks_there (forest.block b os more) (d ∷ bs) is r over w =
        let same : d ≡ b = sym (ap (first_block b) is) in
        let up : parent c.graph (TheBlock b) ≡ Some (TheRegion r) = subst (λ z. parent c.graph (TheBlock z) ≡ Some (TheRegion r)) same (over 0 d refl) in
        let inside = step (TheRegion r) (TheBlock b) up w in (
          block_there b (TheRegion r) up inside,
          operations_there os (operations_in c.graph b) (ap first_operations is ∙ ap (λ z. operations_by c.graph inside_of (operations_in c.graph z)) same)
              (λ i p e. step (TheBlock b) (TheOperation p) (nested.down (TheBlock b) i (TheOperation p) (slice_get-map TheOperation (operations_in c.graph b) i ∙ ap (option_map TheOperation) e)) inside),
          blocks_there more bs (ap more_blocks is) r (λ i. over (suc i)) w,
        )

    operations_there : (f : PtrOperations) (ps : List (Ptr Operation)) → f ≡ operations_by c.graph inside_of ps → ((i : ℕ) (p : Ptr Operation) → slice_get ps i ≡ Some p → Inner (TheOperation p)) → AllOperations (OperationWhole c) (BlockThere c) (λ r. ⊤) f
    operations_there no_operations ps is ins = tt
    operations_there (forest.operation q rs more) [] is ins = absurd (cc)
    operations_there (forest.operation q rs more) (d ∷ ps) is ins =
        let same : d ≡ q = sym (ap (first_operation q) is) in
        let inside : Inner (TheOperation q) = subst (λ z. Inner (TheOperation z)) same (ins 0 d refl) in (
          operation_there q inside,
          regions_there rs (regions c.graph q) (ap first_regions is ∙ ap inside_of same ∙ inside_is c.graph nested q)
              (λ m r e. step (TheOperation q) (TheRegion r) (nested.down (TheOperation q) m (TheRegion r) (slice_get-map TheRegion (regions c.graph q) m ∙ ap (option_map TheRegion) e)) inside),
          operations_there more ps (ap more_operations is) (λ i. ins (suc i)),
        )

  -- the root is
  pub own_there : OperationWhole c root
  own_there = operation_there root (within_self (parent c.graph) (TheOperation root))

  -- and so is all in it
  pub inner_there : AllRegions (OperationWhole c) (BlockThere c) (λ r. ⊤) (inside_of root)
  inner_there = regions_there (inside_of root) (regions c.graph root) (inside_is c.graph nested root)
      (λ m r e. step (TheOperation root) (TheRegion r) (nested.down (TheOperation root) m (TheRegion r) (slice_get-map TheRegion (regions c.graph root) m ∙ ap (option_map TheRegion) e)) (within_self (parent c.graph) (TheOperation root)))
