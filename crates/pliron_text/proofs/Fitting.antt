-- What was printed with all its regions fits its formats.
use Rattle.std.proofs.Common.{◌≡◌, ◌+◌, ◌⊎◌, ℕ, zero, suc, Bool, true, false, refl, sym, inl, inr, Option, Some, None, true≢false, List, length}
use Rattle.std.specs.Prelude.{⊤}
use Rattle.irtext_base.specs.Format as format
use Rattle.irtext_base.specs.Format.{Format, Directive, Id, first_fault}
use Rattle.irtext_grammar.specs.Grammar.Forest.{Regions, no_regions, region, Blocks, no_blocks, block, Operations, no_operations, operation, regions_list}
use Rattle.irtext_grammar.specs.Graphs.Closed.{FitsCustom, FitsFormat, FitRegions, FitBlocks, FitOperations, Fit}
use Rattle.irtext_grammar.specs.Graphs.Graph.{Graph, GraphOp, GraphBlock, Printing}
use Rattle.irtext_print.specs.declared.printable.refusal.Refusal.TheVariants.{Misfit}
use Rattle.irtext_print_ops.specs.Faults.{OperationFault, RegionsFault, BlocksFault, OperationsFault}

sure_bool : (b : Bool) → ((b ≡ true → ⊥) → ⊥) → b ≡ true
sure_bool true h = refl
sure_bool false h = absurd (h (λ e. true≢false (sym e)))

sure_zero : (n : ℕ) → ((n ≡ 0 → ⊥) → ⊥) → n ≡ 0
sure_zero zero h = refl
sure_zero (suc n) h = absurd (h (λ e. cc))

module _ {T A : Type 0} (C : Printing T A) (isolated : Id → Bool) where
  custom_sure : (ds : List Directive) (o : GraphOp T A) (n : ℕ) → ((((first_fault (format.custom ds) ≡ 0) × FitsCustom C isolated ds o n) → ⊥) → ⊥) → (first_fault (format.custom ds) ≡ 0) × FitsCustom C isolated ds o n
  custom_sure ds o n h = (
    sure_zero (first_fault (format.custom ds)) (λ k. h (λ p. k p.0)),
    record {
      operands = sure_bool _ (λ k. h (λ p. k p.1.operands));
      successors = sure_bool _ (λ k. h (λ p. k p.1.successors));
      results = sure_bool _ (λ k. h (λ p. k p.1.results));
      regions = sure_bool _ (λ k. h (λ p. k p.1.regions));
      keys_there = sure_bool _ (λ k. h (λ p. k p.1.keys_there));
      symbol = sure_bool _ (λ k. h (λ p. k p.1.symbol));
      others_outlined = sure_bool _ (λ k. h (λ p. k p.1.others_outlined));
    },
  )

  -- it fits, where it doesn't not
  fits_sure : (f : Option Format) (o : GraphOp T A) (n : ℕ) → ((FitsFormat C isolated f o n → ⊥) → ⊥) → FitsFormat C isolated f o n
  fits_sure None o n h = h (λ x. x)
  fits_sure (Some format.canonical) o n h = tt
  fits_sure (Some (format.custom ds)) o n h = custom_sure ds o n h

  module _ (width : ℕ) where
    mutual
      regions_fit : (i : ℕ) (rs : Regions (GraphOp T A) (GraphBlock T A) ⊤) → (RegionsFault C isolated width Misfit i None rs → ⊥) → FitRegions C isolated rs
      regions_fit i no_regions h = tt
      regions_fit i (region r bs rs) h = (blocks_fit (i + width) bs (λ k. h (inl (refl, inr k))), regions_fit i rs (λ k. h (inr k)))

      blocks_fit : (i : ℕ) (bs : Blocks (GraphOp T A) (GraphBlock T A) ⊤) → (BlocksFault C isolated width Misfit i None bs → ⊥) → FitBlocks C isolated bs
      blocks_fit i no_blocks h = tt
      blocks_fit i (block b os bs) h = (operations_fit (i + width) os (λ k. h (inl (inr k))), blocks_fit i bs (λ k. h (inr k)))

      operations_fit : (i : ℕ) (os : Operations (GraphOp T A) (GraphBlock T A) ⊤) → (OperationsFault C isolated width Misfit i None os → ⊥) → FitOperations C isolated os
      operations_fit i no_operations h = tt
      operations_fit i (operation o rs os) h = (
        fits_sure (C.format_of o.id) o (length (regions_list rs)) (λ k. h (inl (inl k))),
        regions_fit i rs (λ k. h (inl (inr k))),
        operations_fit i os (λ k. h (inr k)),
      )

    -- a root that has no reason to fail for a format fits, and so does all inside
    pub fits_whole : (i : ℕ) (g : Graph T A) → ((OperationFault C isolated width Misfit g.own g.regions ⊎ RegionsFault C isolated width Misfit i None g.regions) → ⊥) → Fit C isolated g
    fits_whole i g h = (fits_sure (C.format_of g.own.id) g.own (length (regions_list g.regions)) (λ k. h (inl k)), regions_fit i g.regions (λ k. h (inr k)))
