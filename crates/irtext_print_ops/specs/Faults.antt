-- For callers: why an operation with everything nested in it is not printed: an indentation inside is too deep, or an operation does
-- not fit its format.
use Rattle.std.specs.Prelude.{◌≡◌, ◌≤◌, ◌+◌, ◌^◌, ◌⊎◌, ℕ, Bool, false, List, [], ◌∷◌, ⊤}
use Rattle.irtext_base.specs.Format as format
use Rattle.irtext_grammar.specs.Grammar.Forest.{Regions, no_regions, region, Blocks, no_blocks, block, Operations, no_operations, operation}
use Rattle.irtext_grammar.specs.Graphs.Closed.{FitsOp}
use Rattle.irtext_grammar.specs.Graphs.Graph.{GraphOp, GraphBlock, Printing, Limit, is_elided, inside}
use Rattle.irtext_print.specs.declared.printable.refusal.Refusal.{Refusal}
use Rattle.irtext_print.specs.declared.printable.refusal.Refusal.TheVariants.{Depth, Misfit}
use Rattle.irtext_print_ops.specs.Opened.{Open, an_operation, a_region, a_block}

-- an indentation is a reason to fail: it does not fit 16 bits
abbrev pub IndentFault : Refusal → ℕ → Type 0
IndentFault Depth i = 2 ^ 16 ≤ i
IndentFault _ i = ⊥

module _ {T A : Type 0} (C : Printing T A) (isolated : format.Id → Bool) (width : ℕ) where
  -- an operation with these regions is a reason to fail: it does not fit its format
  abbrev pub OperationFault : Refusal → GraphOp T A → Regions (GraphOp T A) (GraphBlock T A) ⊤ → Type 0
  OperationFault Misfit o rs = FitsOp C isolated o rs → ⊥
  OperationFault _ o rs = ⊥

  abbrev mutual
    -- regions at an indentation are a reason to fail: the indentation inside one that is shown is, or its blocks are
    pub RegionsFault : Refusal → ℕ → Limit → Regions (GraphOp T A) (GraphBlock T A) ⊤ → Type 0
    RegionsFault e i l no_regions = ⊥
    RegionsFault e i l (region r bs rs) = ((is_elided C l ≡ false) × (IndentFault e (i + width) ⊎ BlocksFault e (i + width) (inside C l) bs)) ⊎ RegionsFault e i l rs

    -- blocks at an indentation are a reason to fail: the indentation inside one is, or its operations are
    pub BlocksFault : Refusal → ℕ → Limit → Blocks (GraphOp T A) (GraphBlock T A) ⊤ → Type 0
    BlocksFault e i l no_blocks = ⊥
    BlocksFault e i l (block h os bs) = (IndentFault e (i + width) ⊎ OperationsFault e (i + width) l os) ⊎ BlocksFault e i l bs

    -- operations at an indentation are a reason to fail: one of them is, or its regions are
    pub OperationsFault : Refusal → ℕ → Limit → Operations (GraphOp T A) (GraphBlock T A) ⊤ → Type 0
    OperationsFault e i l no_operations = ⊥
    OperationsFault e i l (operation o rs os) = (OperationFault e o rs ⊎ RegionsFault e i l rs) ⊎ OperationsFault e i l os

  -- the rest of what is open is a reason to fail
  abbrev pub OpenFault : Refusal → Open T A → Type 0
  OpenFault e (an_operation i l own repeats ps rs) = RegionsFault e i l rs
  OpenFault e (a_region i l first bs) = BlocksFault e (i + width) l bs
  OpenFault e (a_block i l first os) = IndentFault e (i + width) ⊎ OperationsFault e (i + width) l os

  -- the rest of something in this list of what is open is a reason to fail
  abbrev pub AnyFault : Refusal → List (Open T A) → Type 0
  AnyFault e [] = ⊥
  AnyFault e (o ∷ os) = OpenFault e o ⊎ AnyFault e os
