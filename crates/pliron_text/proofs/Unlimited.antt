-- A limit that leaves no region out prints what no limit does: the same tree, the same marks and entries, and the same reasons to fail.
use Rattle.std.proofs.Common.{◌≡◌, ◌∙◌, ◌+◌, ◌++◌, ℕ, zero, suc, Bool, false, Some, None, refl, ap, inl, inr}
use Rattle.std.specs.Prelude.{⊤}
use Rattle.irtext_base.specs.Format.{Id}
use Rattle.irtext_base.specs.Own.{Language}
use Rattle.irtext_grammar.specs.Grammar.Forest.{Regions, no_regions, region, Blocks, no_blocks, block, Operations, no_operations, operation, AllRegions, AllBlocks, AllOperations}
use Rattle.irtext_grammar.specs.Grammar.Marked.{IsShown, AllShown}
use Rattle.irtext_grammar.specs.Grammar.Tree.{Op, Head, Brace, shown}
use Rattle.irtext_grammar.specs.Graphs.Graph.{Graph, GraphOp, GraphBlock, Printing, Limit, own_marks, op_outlined, block_outlined, tree_op, tree_head, tree_regions, tree_blocks, tree_operations, marks_in_regions, marks_in_blocks, marks_in_operations, entries_of_regions, entries_of_blocks, entries_of_operations, own_entry, written}
use Rattle.irtext_grammar.specs.Spelling.Section.{section, text}
use Rattle.irtext_grammar.specs.Spelling.Spell.{spelled}
use Rattle.irtext_print.specs.declared.printable.refusal.Refusal.{Refusal}
use Rattle.irtext_print.specs.declared.printable.refusal.Refusal.TheVariants.{Misfit}
use Rattle.irtext_print_ops.specs.Faults.{RegionsFault, BlocksFault, OperationsFault}

abbrev ShownRegions : {T A : Type 0} → Regions (Op ⊤ T A) (Head ⊤ T A) (Brace ⊤) → Type 0
ShownRegions rs = AllRegions (λ o. ⊤) (λ h. ⊤) IsShown rs

abbrev ShownBlocks : {T A : Type 0} → Blocks (Op ⊤ T A) (Head ⊤ T A) (Brace ⊤) → Type 0
ShownBlocks bs = AllBlocks (λ o. ⊤) (λ h. ⊤) IsShown bs

abbrev ShownOperations : {T A : Type 0} → Operations (Op ⊤ T A) (Head ⊤ T A) (Brace ⊤) → Type 0
ShownOperations os = AllOperations (λ o. ⊤) (λ h. ⊤) IsShown os

module _ {T A : Type 0} (C : Printing T A) where
  abbrev OfRegions : Type 0
  OfRegions = Regions (GraphOp T A) (GraphBlock T A) ⊤

  abbrev OfBlocks : Type 0
  OfBlocks = Blocks (GraphOp T A) (GraphBlock T A) ⊤

  abbrev OfOperations : Type 0
  OfOperations = Operations (GraphOp T A) (GraphBlock T A) ⊤

  mutual
    -- without a limit each region is shown
    regions_unlimited : (n : ℕ) (rs : OfRegions) → ShownRegions (tree_regions C None n rs)
    regions_unlimited n no_regions = tt
    regions_unlimited n (region r bs rs) = (tt, blocks_unlimited n bs, regions_unlimited (n + marks_in_blocks C None bs) rs)

    blocks_unlimited : (n : ℕ) (bs : OfBlocks) → ShownBlocks (tree_blocks C None n bs)
    blocks_unlimited n no_blocks = tt
    blocks_unlimited n (block h os bs) =
        let m = n + own_marks C h.location (block_outlined C h) in
        (tt, operations_unlimited m os, blocks_unlimited (m + marks_in_operations C None os) bs)

    operations_unlimited : (n : ℕ) (os : OfOperations) → ShownOperations (tree_operations C None n os)
    operations_unlimited n no_operations = tt
    operations_unlimited n (operation o rs os) =
        let m = n + marks_in_regions C None rs in
        (tt, regions_unlimited n rs, operations_unlimited (m + own_marks C o.location (op_outlined C o)) os)

  -- without a limit each region of a root is shown
  pub unlimited_shown : (g : Graph T A) → AllShown (written C None g)
  unlimited_shown g = regions_unlimited 0 g.regions

  module _ (isolated : Id → Bool) (width : ℕ) (e : Refusal) where
    -- what is printed under a limit is what is printed without one
    record SameRegions (l : Limit) (rs : OfRegions) : Type 0 where
      tree : (n : ℕ) → tree_regions C l n rs ≡ tree_regions C None n rs
      marks : marks_in_regions C l rs ≡ marks_in_regions C None rs
      entries : entries_of_regions C l rs ≡ entries_of_regions C None rs
      fault : (i : ℕ) → RegionsFault C isolated width e i None rs → RegionsFault C isolated width e i l rs

    record SameBlocks (l : Limit) (bs : OfBlocks) : Type 0 where
      tree : (n : ℕ) → tree_blocks C l n bs ≡ tree_blocks C None n bs
      marks : marks_in_blocks C l bs ≡ marks_in_blocks C None bs
      entries : entries_of_blocks C l bs ≡ entries_of_blocks C None bs
      fault : (i : ℕ) → BlocksFault C isolated width e i None bs → BlocksFault C isolated width e i l bs

    record SameOperations (l : Limit) (os : OfOperations) : Type 0 where
      tree : (n : ℕ) → tree_operations C l n os ≡ tree_operations C None n os
      marks : marks_in_operations C l os ≡ marks_in_operations C None os
      entries : entries_of_operations C l os ≡ entries_of_operations C None os
      fault : (i : ℕ) → OperationsFault C isolated width e i None os → OperationsFault C isolated width e i l os

    -- ---- one more region, block or operation
    region_same : (k : ℕ) (bs : OfBlocks) (rs : OfRegions) → SameBlocks (Some k) bs → SameRegions (Some (suc k)) rs → SameRegions (Some (suc k)) (region tt bs rs)
    region_same k bs rs b q = record {
      tree = λ n. ap (λ z. region (shown tt) z (tree_regions C (Some (suc k)) (n + marks_in_blocks C (Some k) bs) rs)) (b.tree n)
          ∙ (ap (λ z. region (shown tt) (tree_blocks C None n bs) (tree_regions C (Some (suc k)) (n + z) rs)) b.marks
          ∙ ap (λ z. region (shown tt) (tree_blocks C None n bs) z) (q.tree (n + marks_in_blocks C None bs)));
      marks = ap (λ z. z + marks_in_regions C (Some (suc k)) rs) b.marks ∙ ap (λ z. marks_in_blocks C None bs + z) q.marks;
      entries = ap (λ z. z ++ entries_of_regions C (Some (suc k)) rs) b.entries ∙ ap (λ z. entries_of_blocks C None bs ++ z) q.entries;
      fault = λ i h. elim h [ inl x ↦ inl (refl, elim x.1 [ inl y ↦ inl y | inr y ↦ inr (b.fault (i + width) y) ]) | inr x ↦ inr (q.fault i x) ];
    }

    block_same : (l : Limit) (h : GraphBlock T A) (os : OfOperations) (bs : OfBlocks) → SameOperations l os → SameBlocks l bs → SameBlocks l (block h os bs)
    block_same l h os bs o b =
        let own = own_marks C h.location (block_outlined C h) in
        let first = own_entry C h.location (block_outlined C h) in
        record {
          tree = λ n. ap (λ z. block (tree_head C n h) z (tree_blocks C l (n + own + marks_in_operations C l os) bs)) (o.tree (n + own))
              ∙ (ap (λ z. block (tree_head C n h) (tree_operations C None (n + own) os) (tree_blocks C l (n + own + z) bs)) o.marks
              ∙ ap (λ z. block (tree_head C n h) (tree_operations C None (n + own) os) z) (b.tree (n + own + marks_in_operations C None os)));
          marks = ap (λ z. own + z + marks_in_blocks C l bs) o.marks ∙ ap (λ z. own + marks_in_operations C None os + z) b.marks;
          entries = ap (λ z. first ++ (z ++ entries_of_blocks C l bs)) o.entries ∙ ap (λ z. first ++ (entries_of_operations C None os ++ z)) b.entries;
          fault = λ i h. elim h [ inl x ↦ inl (elim x [ inl y ↦ inl y | inr y ↦ inr (o.fault (i + width) y) ]) | inr x ↦ inr (b.fault i x) ];
        }

    operation_same : (l : Limit) (o : GraphOp T A) (rs : OfRegions) (os : OfOperations) → SameRegions l rs → SameOperations l os → SameOperations l (operation o rs os)
    operation_same l o rs os q s =
        let own = own_marks C o.location (op_outlined C o) in
        let last = own_entry C o.location (op_outlined C o) in
        let m = marks_in_regions C None rs in
        record {
          tree = λ n. ap (λ z. operation (tree_op C (n + z) o) (tree_regions C l n rs) (tree_operations C l (n + z + own) os)) q.marks
              ∙ (ap (λ z. operation (tree_op C (n + m) o) z (tree_operations C l (n + m + own) os)) (q.tree n)
              ∙ ap (λ z. operation (tree_op C (n + m) o) (tree_regions C None n rs) z) (s.tree (n + m + own)));
          marks = ap (λ z. z + own + marks_in_operations C l os) q.marks ∙ ap (λ z. m + own + z) s.marks;
          entries = ap (λ z. z ++ (last ++ entries_of_operations C l os)) q.entries ∙ ap (λ z. entries_of_regions C None rs ++ (last ++ z)) s.entries;
          fault = λ i h. elim h [ inl x ↦ inl (elim x [ inl y ↦ inl y | inr y ↦ inr (q.fault i y) ]) | inr x ↦ inr (s.fault i x) ];
        }

    mutual
      regions_same : (l : Limit) (n : ℕ) (rs : OfRegions) → ShownRegions (tree_regions C l n rs) → SameRegions l rs
      regions_same None n rs s = record { tree = λ n. refl; marks = refl; entries = refl; fault = λ i h. h }
      regions_same (Some l) n no_regions s = record { tree = λ n. refl; marks = refl; entries = refl; fault = λ i h. h }
      regions_same (Some zero) n (region r bs rs) s = absurd s.0
      regions_same (Some (suc k)) n (region r bs rs) s = region_same k bs rs (blocks_same (Some k) n bs s.1) (regions_same (Some (suc k)) (n + marks_in_blocks C (Some k) bs) rs s.2)

      blocks_same : (l : Limit) (n : ℕ) (bs : OfBlocks) → ShownBlocks (tree_blocks C l n bs) → SameBlocks l bs
      blocks_same l n no_blocks s = record { tree = λ n. refl; marks = refl; entries = refl; fault = λ i h. h }
      blocks_same l n (block h os bs) s =
          let m = n + own_marks C h.location (block_outlined C h) in
          block_same l h os bs (operations_same l m os s.1) (blocks_same l (m + marks_in_operations C l os) bs s.2)

      operations_same : (l : Limit) (n : ℕ) (os : OfOperations) → ShownOperations (tree_operations C l n os) → SameOperations l os
      operations_same l n no_operations s = record { tree = λ n. refl; marks = refl; entries = refl; fault = λ i h. h }
      operations_same l n (operation o rs os) s =
          let m = n + marks_in_regions C l rs in
          operation_same l o rs os (regions_same l n rs s.1) (operations_same l (m + own_marks C o.location (op_outlined C o)) os s.2)

    -- a reason to fail that there is without a limit there is under this one
    pub fault_shown : (l : Limit) (g : Graph T A) → AllShown (written C l g) → (i : ℕ) → RegionsFault C isolated width e i None g.regions → RegionsFault C isolated width e i l g.regions
    fault_shown l g s = (regions_same l 0 g.regions s).fault

  -- the text is the same
  pub text_shown : (L : Language ⊤ T A) (g : Graph T A) (indentation width : ℕ) (l : Limit) → AllShown (written C l g) → text L C g indentation width l ≡ text L C g indentation width None
  text_shown L g indentation width l s =
      let same = regions_same (λ i. false) 0 Misfit l 0 g.regions s in
      let own = own_entry C g.own.location (op_outlined C g.own) in
      ap (λ z. spelled L width indentation (record { own = tree_op C z g.own; regions = tree_regions C l 0 g.regions }) ++ section L C (entries_of_regions C l g.regions ++ own)) same.marks
      ∙ (ap (λ z. spelled L width indentation (record { own = tree_op C (marks_in_regions C None g.regions) g.own; regions = z }) ++ section L C (entries_of_regions C l g.regions ++ own)) (same.tree 0)
      ∙ ap (λ z. spelled L width indentation (written C None g) ++ section L C (z ++ own)) same.entries)
