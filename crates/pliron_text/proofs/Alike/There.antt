-- A text that parses as a root in one context, in another context that knows the operations of the root alike.
use Rattle.std.proofs.Common.{◌∙◌, ℕ, Bool, List, sym, subst}
use Rattle.std.specs.Prelude.{⊤}
use Rattle.irtext_base.specs.Format.{Id}
use Rattle.irtext_base.specs.Own.{Texts, Lawful, Verdict}
use Rattle.irtext_base.specs.Reading.{never}
use Rattle.irtext_base.specs.Text.{Text}
use Rattle.irtext_context.specs.Dialects.{Table}
use Rattle.irtext_grammar.specs.Contexts.Formats.{op_id}
use Rattle.irtext_grammar.specs.Grammar.Forest.{Regions, no_regions, region, Blocks, no_blocks, block, Operations, no_operations, operation, AllRegions, AllBlocks, AllOperations}
use Rattle.irtext_grammar.specs.Grammar.Marked.{reads_root}
use Rattle.irtext_grammar.specs.Grammar.Section.{Entry}
use Rattle.irtext_grammar.specs.Grammar.Tree.{Tree}
use Rattle.irtext_grammar.specs.Graphs.Build.{build}
use Rattle.irtext_grammar.specs.Graphs.Graph.{Graph, GraphOp, GraphBlock, Printing}
use Rattle.irtext_grammar.specs.Graphs.Same.{Locations, UpToFillings, resolved_root}
use Rattle.irtext_grammar.specs.Promises.Supported.{supported}
use Rattle.irtext_grammar.proofs.Grammar.UniqueRoot.{one_root}
use Rattle.irtext_alike.specs.Alike.{KnowAlike}
use Rattle.pliron_text.specs.Alike.{IsKnownAlike, AreKnownAlike}
use Rattle.pliron_text.proofs.Alike.Ids.{root_ids}
use Rattle.pliron_text.proofs.Alike.Reads.{AlikeTree, alike_root}

module _ {T A : Type 0} (a b : List (Text × Table)) (alike : KnowAlike a b) where
  mutual
    regions_known : (rs : Regions (GraphOp T A) (GraphBlock T A) ⊤) → AllRegions (λ o. IsKnownAlike a b o.id) (λ h. ⊤) (λ r. ⊤) rs
    regions_known no_regions = tt
    regions_known (region r bs rs) = (tt, blocks_known bs, regions_known rs)

    blocks_known : (bs : Blocks (GraphOp T A) (GraphBlock T A) ⊤) → AllBlocks (λ o. IsKnownAlike a b o.id) (λ h. ⊤) (λ r. ⊤) bs
    blocks_known no_blocks = tt
    blocks_known (block h os bs) = (tt, operations_known os, blocks_known bs)

    operations_known : (os : Operations (GraphOp T A) (GraphBlock T A) ⊤) → AllOperations (λ o. IsKnownAlike a b o.id) (λ h. ⊤) (λ r. ⊤) os
    operations_known no_operations = tt
    operations_known (operation o rs os) = (alike (op_id o.id), regions_known rs, operations_known os)

  -- and they know those of any graph alike
  pub graph_alike : (g : Graph T A) → AreKnownAlike a b g
  graph_alike g = (alike (op_id g.own.id), regions_known g.regions)

module _ {T A X : Type 0} (types : Texts T) (owns : Texts A) (types_law : Lawful T types) (owns_law : Lawful A owns) (location_at : Text → Verdict X) (K : Locations X) (C : Printing T A) (isolated : Id → Bool) (first : ℕ → X)
    (d e : List (Text × Table)) (g : Graph T A) (alike : AreKnownAlike e d g) (text : Text) where
  -- the text parses here and there as the tree, whose operations are known alike
  pub record ReadsHere (t : Tree ℕ T A) (es : List (Entry ℕ A X)) (u : Text) : Type 0 where
    pub here : reads_root (supported d types owns) location_at t es text u
    pub there : reads_root (supported e types owns) location_at t es text u
    pub known : AlikeTree d e t

  module _ (t : Tree ℕ T A) (es : List (Entry ℕ A X)) (u : Text) (here : reads_root (supported d types owns) location_at t es text u) (same : UpToFillings K (resolved_root C isolated g) (build isolated first es t)) where
    pub reads_too : ReadsHere t es u
    reads_too =
        let known = root_ids (λ i. IsKnownAlike e d i) K C isolated first es g t same alike in
        record { here = here; there = alike_root types owns d e never location_at t es known text u here; known = known }

    -- whatever it parses as there, it parses as here
    pub reads_there : (s : Tree ℕ T A) (fs : List (Entry ℕ A X)) (v : Text) → reads_root (supported e types owns) location_at s fs text v → ReadsHere s fs v
    reads_there s fs v r =
        let o = one_root (supported e types owns) types_law owns_law (λ p q t e f. e ∙ sym f) (λ t u e. absurd e) location_at s t fs es text v u r reads_too.there in
        subst (λ z. ReadsHere z fs v) (sym o.0) (subst (λ z. ReadsHere t z v) (sym o.1) (subst (λ z. ReadsHere t es z) (sym o.2) reads_too))
