-- The formats of a tree's operations are accepted, where a graph of the same form fits.
use Rattle.std.proofs.Common.{◌≡◌, ℕ, Bool, sym, length}
use Rattle.std.specs.Prelude.{⊤}
use Rattle.irtext_base.specs.Format.{Id}
use Rattle.irtext_base.specs.Own.{Language}
use Rattle.irtext_grammar.specs.Grammar.Forest.{Regions, no_regions, region, Blocks, no_blocks, block, Operations, no_operations, operation, MatchRegions, MatchBlocks, MatchOperations, AllRegions, AllBlocks, AllOperations, regions_list}
use Rattle.irtext_grammar.specs.Grammar.Tree.{Op, Head, Brace, Tree}
use Rattle.irtext_grammar.specs.Graphs.Closed.{FitRegions, FitBlocks, FitOperations, Fit}
use Rattle.irtext_grammar.specs.Graphs.Graph.{Graph, GraphOp, GraphBlock, Printing}
use Rattle.irtext_grammar.proofs.Grammar.PartsOfFormats.{KnownAccepted, AllAccepted}
use Rattle.irtext_grammar.proofs.ReadRoot.{accepted_at}
use Rattle.irtext_names.proofs.Spots.{AsManyOp, AsManyBlock}

module _ {P T A : Type 0} (L : Language P T A) (C : Printing T A) (formats : (i : Id) → L.format_of i ≡ C.format_of i) (isolated : Id → Bool) where
  mutual
    regions_accepted : (xs : Regions (Op P T A) (Head P T A) (Brace P)) (rs : Regions (GraphOp T A) (GraphBlock T A) ⊤) → MatchRegions (AsManyOp isolated) (AsManyBlock isolated) (λ r s. ⊤) xs rs → FitRegions C isolated rs → AllRegions (KnownAccepted L) (λ h. ⊤) (λ r. ⊤) xs
    regions_accepted no_regions rs m f = tt
    regions_accepted (region y ys xs) no_regions m f = absurd m
    regions_accepted (region y ys xs) (region r bs rs) m f = (tt, blocks_accepted ys bs m.1 f.0, regions_accepted xs rs m.2 f.1)

    blocks_accepted : (xs : Blocks (Op P T A) (Head P T A) (Brace P)) (bs : Blocks (GraphOp T A) (GraphBlock T A) ⊤) → MatchBlocks (AsManyOp isolated) (AsManyBlock isolated) (λ r s. ⊤) xs bs → FitBlocks C isolated bs → AllBlocks (KnownAccepted L) (λ h. ⊤) (λ r. ⊤) xs
    blocks_accepted no_blocks bs m f = tt
    blocks_accepted (block h ys xs) no_blocks m f = absurd m
    blocks_accepted (block h ys xs) (block b os bs) m f = (tt, operations_accepted ys os m.1 f.0, blocks_accepted xs bs m.2 f.1)

    operations_accepted : (xs : Operations (Op P T A) (Head P T A) (Brace P)) (os : Operations (GraphOp T A) (GraphBlock T A) ⊤) → MatchOperations (AsManyOp isolated) (AsManyBlock isolated) (λ r s. ⊤) xs os → FitOperations C isolated os → AllOperations (KnownAccepted L) (λ h. ⊤) (λ r. ⊤) xs
    operations_accepted no_operations os m f = tt
    operations_accepted (operation x ys xs) no_operations m f = absurd m
    operations_accepted (operation x ys xs) (operation o rs os) m f = (accepted_at L C formats isolated o x (length (regions_list rs)) f.0 (sym m.0.0), regions_accepted ys rs m.1 f.1, operations_accepted xs os m.2 f.2)

  -- those of a whole tree are
  pub tree_accepted : (t : Tree P T A) (g : Graph T A) → AsManyOp isolated t.own g.own × MatchRegions (AsManyOp isolated) (AsManyBlock isolated) (λ r s. ⊤) t.regions g.regions → Fit C isolated g → AllAccepted L t
  tree_accepted t g m f = (accepted_at L C formats isolated g.own t.own (length (regions_list g.regions)) f.0 (sym m.0.0), regions_accepted t.regions g.regions m.1 f.1)
