-- What holds of each operation and of each block in a root holds throughout the forest of what is nested in it.
use Rattle.std.proofs.Common.{◌≡◌, ◌∙◌, ℕ, zero, suc, List, [], ◌∷◌, length, slice_get, Option, Some, refl, ap}
use Rattle.std.specs.Bool.{⊤}
use Rattle.irtext_graph.specs.declared.arena.Ptr.{Ptr}
use Rattle.irtext_graph.specs.declared.object.BasicBlock.{BasicBlock}
use Rattle.irtext_graph.specs.declared.object.Object.{Object}
use Rattle.irtext_graph.specs.declared.object.Object.TheVariants.{TheOperation, TheBlock, TheRegion}
use Rattle.irtext_graph.specs.declared.object.Operation.{Operation}
use Rattle.irtext_graph.specs.declared.object.Region.{Region}
use Rattle.irtext_graph.specs.Graph.{GraphView, IsInside, children, parent}
use Rattle.irtext_graph.specs.Nested.{Nested, Within, climb}
use Rattle.irtext_graph.specs.Parts.{regions, blocks, operations_in}
use Rattle.irtext_grammar.specs.Contexts.Nested.{operations_by, blocks_by, regions_by, within, pointers}
use Rattle.irtext_grammar.specs.Grammar.Forest.{AllRegions, AllBlocks, AllOperations}
use Rattle.irtext_names.specs.Held.{PtrRegions}
use Rattle.irtext_print_ops.proofs.Depths.{region_up, block_up, operation_up}

-- what is one step further down is inside too
further_in : (up : Object → Option Object) (p k x : Object) → up x ≡ Some k → Within up p k → Within up p x
further_in up p k x e (n, h) = (suc n, ap (climb up n) e ∙ h)

module _ {O B T : Type 0} (g : GraphView O B T) (root : Ptr Operation) (nested : Nested (children g) (parent g)) where
  -- an object is the root or nested in it
  abbrev pub Inside : Object → Type 0
  Inside q = IsInside g (TheOperation root) q

  pub region_in : (p : Ptr Operation) (r : Ptr Region) (m : ℕ) → slice_get (regions g p) m ≡ Some r → Inside (TheOperation p) → Inside (TheRegion r)
  region_in p r m at = further_in (parent g) (TheOperation root) (TheOperation p) (TheRegion r) (region_up g nested p r m at)

  pub block_in : (r : Ptr Region) (b : Ptr BasicBlock) (j : ℕ) → slice_get (blocks g r) j ≡ Some b → Inside (TheRegion r) → Inside (TheBlock b)
  block_in r b j at = further_in (parent g) (TheOperation root) (TheRegion r) (TheBlock b) (block_up g nested r b j at)

  pub operation_in : (b : Ptr BasicBlock) (q : Ptr Operation) (i : ℕ) → slice_get (operations_in g b) i ≡ Some q → Inside (TheBlock b) → Inside (TheOperation q)
  operation_in b q i at = further_in (parent g) (TheOperation root) (TheBlock b) (TheOperation q) (operation_up g nested b q i at)

  module _ (Op : Ptr Operation → Type 0) (Head : Ptr BasicBlock → Type 0) where
    all_operations : (f : Ptr Operation → PtrRegions) (ps : List (Ptr Operation)) → ((i : ℕ) (q : Ptr Operation) → slice_get ps i ≡ Some q → Op q × AllRegions Op Head (λ r. ⊤) (f q))
        → AllOperations Op Head (λ r. ⊤) (operations_by g f ps)
    all_operations f [] e = tt
    all_operations f (p ∷ ps) e = let x = e 0 p refl in (x.0, x.1, all_operations f ps (λ i q at. e (suc i) q at))

    all_blocks : (f : Ptr Operation → PtrRegions) (bs : List (Ptr BasicBlock)) → ((j : ℕ) (b : Ptr BasicBlock) → slice_get bs j ≡ Some b → Head b × AllOperations Op Head (λ r. ⊤) (operations_by g f (operations_in g b)))
        → AllBlocks Op Head (λ r. ⊤) (blocks_by g f bs)
    all_blocks f [] e = tt
    all_blocks f (b ∷ bs) e = let x = e 0 b refl in (x.0, x.1, all_blocks f bs (λ j c at. e (suc j) c at))

    all_regions : (f : Ptr Operation → PtrRegions) (rs : List (Ptr Region)) → ((m : ℕ) (r : Ptr Region) → slice_get rs m ≡ Some r → AllBlocks Op Head (λ r. ⊤) (blocks_by g f (blocks g r)))
        → AllRegions Op Head (λ r. ⊤) (regions_by g f rs)
    all_regions f [] e = tt
    all_regions f (r ∷ rs) e = (tt, e 0 r refl, all_regions f rs (λ m s at. e (suc m) s at))

    module _ (ops : (q : Ptr Operation) → Inside (TheOperation q) → Op q) (heads : (b : Ptr BasicBlock) → Inside (TheBlock b) → Head b) where
      all_within : (n : ℕ) (p : Ptr Operation) → Inside (TheOperation p) → AllRegions Op Head (λ r. ⊤) (within g n p)
      all_within zero p l = tt
      all_within (suc n) p l = all_regions (within g n) (regions g p) (λ m r at.
          let s = region_in p r m at l in
          all_blocks (within g n) (blocks g r) (λ j b at.
          let t = block_in r b j at s in (
            heads b t,
            all_operations (within g n) (operations_in g b) (λ i q at. let u = operation_in b q i at t in (ops q u, all_within n q u)),
          )))

      -- the root, and all that is nested in it
      pub all_inside : Op root × AllRegions Op Head (λ r. ⊤) (pointers g root).regions
      all_inside = (ops root (0, refl), all_within (suc (length g.operations.cells)) root (0, refl))
