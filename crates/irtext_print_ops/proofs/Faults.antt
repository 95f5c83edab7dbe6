-- A reason why what a turn leaves open fails is one why what was open fails.
use Rattle.std.proofs.Common.{◌≡◌, ◌+◌, ◌⊎◌, ◌++◌, inl, inr, ℕ, zero, suc, List, [], ◌∷◌, Option, Some, None, Bool, true, false, refl, sym, subst, true≢false}
use Rattle.std.specs.Prelude.{⊤}
use Rattle.irtext_base.specs.Format as format
use Rattle.irtext_grammar.specs.Grammar.Forest.{Regions, no_regions, region, Blocks, block, Operations, operation}
use Rattle.irtext_grammar.specs.Grammar.Tree.{Part}
use Rattle.irtext_grammar.specs.Graphs.Closed.{FitsOp}
use Rattle.irtext_grammar.specs.Graphs.Graph.{GraphOp, GraphBlock, Printing, Limit}
use Rattle.irtext_print.specs.Printers.PrintedOperation.{levels}
use Rattle.irtext_print.specs.Printers.Printing.{lowered}
use Rattle.irtext_print.specs.declared.printable.refusal.Refusal.{Refusal}
use Rattle.irtext_print.specs.declared.printable.refusal.Refusal.TheVariants.{Misfit}
use Rattle.irtext_print.specs.declared.printable.state.RegionPrintDepthLimit.{RegionPrintDepthLimit}
use Rattle.irtext_print.specs.declared.printable.state.RegionPrintDepthLimit.TheVariants.{Unlimited, Max}
use Rattle.irtext_print_ops.specs.Opened.{Open, an_operation, a_region, a_block, covers}
use Rattle.irtext_print_ops.specs.Faults.{RegionsFault, OpenFault, AnyFault}

-- the open frames of a region that was begun
abbrev pub region_opens : {T A : Type 0} → ℕ → RegionPrintDepthLimit → Blocks (GraphOp T A) (GraphBlock T A) ⊤ → List (Open T A)
region_opens i limit bs = elim (lowered limit) [ None ↦ [] | Some inner ↦ a_region i (levels inner) true bs ∷ [] ]

module _ {T A : Type 0} (C : Printing T A) (isolated : format.Id → Bool) (width : ℕ) (e : Refusal) where
  -- one that is open alone
  pub only_fault : (o : Open T A) → AnyFault C isolated width e (o ∷ []) → OpenFault C isolated width e o
  only_fault o (inl x) = x
  only_fault o (inr x) = absurd x

  pub any_both : (gs hs : List (Open T A)) → AnyFault C isolated width e (gs ++ hs) → AnyFault C isolated width e gs ⊎ AnyFault C isolated width e hs
  any_both [] hs x = inr x
  any_both (g ∷ gs) hs (inl x) = inl (inl x)
  any_both (g ∷ gs) hs (inr x) = elim (any_both gs hs x) [ inl y ↦ inl (inr y) | inr y ↦ inr y ]

  pub any_front : (gs hs : List (Open T A)) → AnyFault C isolated width e gs → AnyFault C isolated width e (gs ++ hs)
  any_front [] hs x = absurd x
  any_front (g ∷ gs) hs (inl x) = inl x
  any_front (g ∷ gs) hs (inr x) = inr (any_front gs hs x)

  pub any_back : (gs hs : List (Open T A)) → AnyFault C isolated width e hs → AnyFault C isolated width e (gs ++ hs)
  any_back [] hs x = x
  any_back (g ∷ gs) hs x = inr (any_back gs hs x)

  -- the next region was begun
  opens_fault : (i : ℕ) (limit : RegionPrintDepthLimit) (bs : Blocks (GraphOp T A) (GraphBlock T A) ⊤) (rs : Regions (GraphOp T A) (GraphBlock T A) ⊤) →
      AnyFault C isolated width e (region_opens i limit bs) → RegionsFault C isolated width e i (levels limit) (region tt bs rs)
  opens_fault i Unlimited bs rs (inl x) = inl (refl, inr x)
  opens_fault i Unlimited bs rs (inr x) = absurd x
  opens_fault i (Max zero) bs rs x = absurd x
  opens_fault i (Max (suc m)) bs rs (inl x) = inl (refl, inr x)
  opens_fault i (Max (suc m)) bs rs (inr x) = absurd x

  pub operation_next : (i : ℕ) (limit : RegionPrintDepthLimit) (own : Option (GraphOp T A)) (repeats : Bool) (ps : List (Part ⊤ T A)) (bs : Blocks (GraphOp T A) (GraphBlock T A) ⊤) (rs : Regions (GraphOp T A) (GraphBlock T A) ⊤) →
      AnyFault C isolated width e (an_operation i (levels limit) own repeats ps rs ∷ region_opens i limit bs) → RegionsFault C isolated width e i (levels limit) (region tt bs rs)
  operation_next i limit own repeats ps bs rs (inl x) = inr x
  operation_next i limit own repeats ps bs rs (inr x) = opens_fault i limit bs rs x

  -- the next block was begun
  pub region_next : (i indent : ℕ) (l : Limit) (first : Bool) (h : GraphBlock T A) (os : Operations (GraphOp T A) (GraphBlock T A) ⊤) (bs : Blocks (GraphOp T A) (GraphBlock T A) ⊤) → indent ≡ i + width →
      AnyFault C isolated width e (a_region i l false bs ∷ a_block indent l true os ∷ []) → OpenFault C isolated width e (a_region i l first (block h os bs))
  region_next i indent l first h os bs n (inl x) = inr x
  region_next i indent l first h os bs n (inr (inl x)) = inl (subst (λ z. OpenFault C isolated width e (a_block z l true os)) n x)
  region_next i indent l first h os bs n (inr (inr x)) = absurd x

  -- the next operation was begun
  pub block_next : (i indent : ℕ) (l : Limit) (first : Bool) (own : Option (GraphOp T A)) (repeats : Bool) (ps : List (Part ⊤ T A)) (o : GraphOp T A) (rs inner : Regions (GraphOp T A) (GraphBlock T A) ⊤) (os : Operations (GraphOp T A) (GraphBlock T A) ⊤) →
      indent ≡ i + width → inner ≡ rs →
      AnyFault C isolated width e (a_block i l false os ∷ an_operation indent l own repeats ps rs ∷ []) → OpenFault C isolated width e (a_block i l first (operation o inner os))
  block_next i indent l first own repeats ps o rs inner os n k (inl (inl x)) = inl x
  block_next i indent l first own repeats ps o rs inner os n k (inl (inr x)) = inr (inr x)
  block_next i indent l first own repeats ps o rs inner os n k (inr (inl x)) = inr (inl (inr (subst (λ z. RegionsFault C isolated width e (i + width) l z) (sym k) (subst (λ z. RegionsFault C isolated width e z l rs) n x))))
  block_next i indent l first own repeats ps o rs inner os n k (inr (inr x)) = absurd x

  -- no region is left where no part writes it
  pub none_fault : {X : Type 0} (i : ℕ) (l : Limit) (rs : Regions (GraphOp T A) (GraphBlock T A) ⊤) → covers {T = T} {A = A} [] rs ≡ true → RegionsFault C isolated width e i l rs → X
  none_fault i l no_regions h x = absurd x
  none_fault i l (region r bs rs) h x = absurd (true≢false (sym h))

-- And what doesn't fit its format in what was open doesn't in what a turn leaves open.
module _ {T A : Type 0} (C : Printing T A) (isolated : format.Id → Bool) (width : ℕ) where
  -- the next region was begun
  pub operation_kept : (i : ℕ) (limit : RegionPrintDepthLimit) (own : Option (GraphOp T A)) (repeats : Bool) (ps : List (Part ⊤ T A)) (bs : Blocks (GraphOp T A) (GraphBlock T A) ⊤) (rs : Regions (GraphOp T A) (GraphBlock T A) ⊤) →
      RegionsFault C isolated width Misfit i (levels limit) (region tt bs rs) → AnyFault C isolated width Misfit (an_operation i (levels limit) own repeats ps rs ∷ region_opens i limit bs)
  operation_kept i limit own repeats ps bs rs (inr x) = inl x
  operation_kept i Unlimited own repeats ps bs rs (inl x) = elim x.1 [ inl y ↦ absurd y | inr y ↦ inr (inl y) ]
  operation_kept i (Max zero) own repeats ps bs rs (inl x) = absurd (true≢false x.0)
  operation_kept i (Max (suc m)) own repeats ps bs rs (inl x) = elim x.1 [ inl y ↦ absurd y | inr y ↦ inr (inl y) ]

  -- the next block was begun
  pub region_kept : (i indent : ℕ) (l : Limit) (first : Bool) (h : GraphBlock T A) (os : Operations (GraphOp T A) (GraphBlock T A) ⊤) (bs : Blocks (GraphOp T A) (GraphBlock T A) ⊤) → indent ≡ i + width →
      OpenFault C isolated width Misfit (a_region i l first (block h os bs)) → AnyFault C isolated width Misfit (a_region i l false bs ∷ a_block indent l true os ∷ [])
  region_kept i indent l first h os bs n (inl x) = inr (inl (subst (λ z. OpenFault C isolated width Misfit (a_block z l true os)) (sym n) x))
  region_kept i indent l first h os bs n (inr x) = inl x

  -- the next operation was begun
  pub block_kept : (i indent : ℕ) (l : Limit) (first : Bool) (own : Option (GraphOp T A)) (repeats : Bool) (ps : List (Part ⊤ T A)) (o : GraphOp T A) (rs inner : Regions (GraphOp T A) (GraphBlock T A) ⊤) (os : Operations (GraphOp T A) (GraphBlock T A) ⊤) →
      indent ≡ i + width → inner ≡ rs → FitsOp C isolated o rs →
      OpenFault C isolated width Misfit (a_block i l first (operation o inner os)) → AnyFault C isolated width Misfit (a_block i l false os ∷ an_operation indent l own repeats ps rs ∷ [])
  block_kept i indent l first own repeats ps o rs inner os n k fits (inl x) = absurd x
  block_kept i indent l first own repeats ps o rs inner os n k fits (inr (inl (inl x))) = absurd (x (subst (FitsOp C isolated o) (sym k) fits))
  block_kept i indent l first own repeats ps o rs inner os n k fits (inr (inl (inr x))) = inr (inl (subst (λ z. RegionsFault C isolated width Misfit z l rs) (sym n) (subst (λ z. RegionsFault C isolated width Misfit (i + width) l z) k x)))
  block_kept i indent l first own repeats ps o rs inner os n k fits (inr (inr x)) = inl (inr x)
