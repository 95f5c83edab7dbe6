-- Where a tree is what is written of a graph, places aside, each item of the tree is what is written of the graph's item at its place.
use Rattle.std.proofs.Common.{◌≡◌, ℕ, ◌+◌, Bool, length, Option, Some, None, refl, sym, ap, ◌∙◌, subst}
use Rattle.std.specs.Prelude.{⊤}
use Rattle.irtext_base.specs.Format as format
use Rattle.irtext_base.specs.Format.{Format, Accepted, Id}
use Rattle.irtext_base.specs.Own.{Language}
use Rattle.irtext_grammar.specs.Grammar.Forest.{Regions, no_regions, region, Blocks, no_blocks, block, Operations, no_operations, operation, MatchRegions, MatchBlocks, MatchOperations, MatchRoots, regions_list, AllRegions, AllBlocks, AllOperations}
use Rattle.irtext_grammar.specs.Grammar.Tree.{Op, Head, Brace, Tree}
use Rattle.irtext_grammar.specs.Grammar.Bare.{bare_op, bare_head, bare_regions, bare_blocks, bare_operations, bare}
use Rattle.irtext_grammar.specs.Graphs.Graph.{Graph, GraphOp, GraphBlock, Printing, tree_op, tree_head, own_marks, tree_regions, tree_blocks, tree_operations, marks_in_regions, marks_in_blocks, marks_in_operations, written, op_outlined, block_outlined}
use Rattle.irtext_grammar.specs.Graphs.Closed.{FitsFormat, FitRegions, FitBlocks, FitOperations, Fit}
use Rattle.irtext_grammar.proofs.Grammar.PartsOfFormats.{KnownAccepted, AllAccepted}
use Rattle.irtext_grammar.proofs.Lists.Numbering.{some_inside}

region_parts : {O B R : Type 0} (r s : R) (bs cs : Blocks O B R) (rs ss : Regions O B R) → region r bs rs ≡ region s cs ss → (bs ≡ cs) × (rs ≡ ss)
region_parts r s bs cs rs ss e = (cc, cc)

region_none : {O B R : Type 0} (r : R) (bs : Blocks O B R) (rs : Regions O B R) → region r bs rs ≡ no_regions → ⊥
region_none r bs rs e = cc

block_parts : {O B R : Type 0} (h k : B) (os ps : Operations O B R) (bs cs : Blocks O B R) → block h os bs ≡ block k ps cs → (h ≡ k) × (os ≡ ps) × (bs ≡ cs)
block_parts h k os ps bs cs e = (cc, cc, cc)

block_none : {O B R : Type 0} (h : B) (os : Operations O B R) (bs : Blocks O B R) → block h os bs ≡ no_blocks → ⊥
block_none h os bs e = cc

operation_parts : {O B R : Type 0} (o p : O) (rs ss : Regions O B R) (os ps : Operations O B R) → operation o rs os ≡ operation p ss ps → (o ≡ p) × (rs ≡ ss) × (os ≡ ps)
operation_parts o p rs ss os ps e = (cc, cc, cc)

operation_none : {O B R : Type 0} (o : O) (rs : Regions O B R) (os : Operations O B R) → operation o rs os ≡ no_operations → ⊥
operation_none o rs os e = cc

module _ {P T A : Type 0} (C : Printing T A) where
  -- written with some number of marks before it
  abbrev pub WrittenOp : GraphOp T A → Op P T A → Type 0
  WrittenOp o p = (n : ℕ) × (bare_op p ≡ tree_op C n o)

  -- a block's own is what is written of the graph's block, its places aside
  abbrev pub WrittenBlock : GraphBlock T A → Head P T A → Type 0
  WrittenBlock h k = (n : ℕ) × (bare_head k ≡ tree_head C n h)

  mutual
    written_regions : (n : ℕ) (a : Regions (GraphOp T A) (GraphBlock T A) ⊤) (r : Regions (Op P T A) (Head P T A) (Brace P)) → bare_regions r ≡ tree_regions C None n a → MatchRegions WrittenOp WrittenBlock (λ x y. ⊤) a r
    written_regions n no_regions no_regions e = tt
    written_regions n no_regions (region b bs rs) e = absurd (region_none _ _ _ e)
    written_regions n (region c cs ss) no_regions e = absurd (region_none _ _ _ (sym e))
    written_regions n (region c cs ss) (region b bs rs) e =
        let q = region_parts _ _ (bare_blocks bs) (tree_blocks C None n cs) (bare_regions rs) (tree_regions C None (n + marks_in_blocks C None cs) ss) e in
        (tt, written_blocks n cs bs q.0, written_regions (n + marks_in_blocks C None cs) ss rs q.1)

    written_blocks : (n : ℕ) (a : Blocks (GraphOp T A) (GraphBlock T A) ⊤) (r : Blocks (Op P T A) (Head P T A) (Brace P)) → bare_blocks r ≡ tree_blocks C None n a → MatchBlocks WrittenOp WrittenBlock (λ x y. ⊤) a r
    written_blocks n no_blocks no_blocks e = tt
    written_blocks n no_blocks (block h os bs) e = absurd (block_none _ _ _ e)
    written_blocks n (block c cs ds) no_blocks e = absurd (block_none _ _ _ (sym e))
    written_blocks n (block c cs ds) (block h os bs) e =
        let m = n + own_marks C c.location (block_outlined C c) in
        let q = block_parts (bare_head h) (tree_head C n c) (bare_operations os) (tree_operations C None m cs) (bare_blocks bs) (tree_blocks C None (m + marks_in_operations C None cs) ds) e in
        ((n, q.0), written_operations m cs os q.1, written_blocks (m + marks_in_operations C None cs) ds bs q.2)

    written_operations : (n : ℕ) (a : Operations (GraphOp T A) (GraphBlock T A) ⊤) (r : Operations (Op P T A) (Head P T A) (Brace P)) → bare_operations r ≡ tree_operations C None n a → MatchOperations WrittenOp WrittenBlock (λ x y. ⊤) a r
    written_operations n no_operations no_operations e = tt
    written_operations n no_operations (operation o rs os) e = absurd (operation_none _ _ _ e)
    written_operations n (operation c cs ds) no_operations e = absurd (operation_none _ _ _ (sym e))
    written_operations n (operation c cs ds) (operation o rs os) e =
        let m = n + marks_in_regions C None cs in
        let q = operation_parts (bare_op o) (tree_op C m c) (bare_regions rs) (tree_regions C None n cs) (bare_operations os) (tree_operations C None (m + own_marks C c.location (op_outlined C c)) ds) e in
        ((m, q.0), written_regions n cs rs q.1, written_operations (m + own_marks C c.location (op_outlined C c)) ds os q.2)

  -- each item of the tree is what is written of the graph's item at its place
  pub written_as : (g : Graph T A) (t : Tree P T A) → bare t ≡ written C None g → MatchRoots WrittenOp WrittenBlock (λ x y. ⊤) g t
  written_as g t e = ((marks_in_regions C None g.regions, ap (λ z. z.own) e), written_regions 0 g.regions t.regions (ap (λ z. z.regions) e))

  -- ---- the formats of what is written
  module _ (isolated : Id → Bool) (L : Language P T A) (same : (i : Id) → L.format_of i ≡ C.format_of i) where
    -- the format of an operation that fits it is accepted
    fits_accepted : (f : Option Format) (o : GraphOp T A) (n : ℕ) → FitsFormat C isolated f o n → (d : Format) → f ≡ Some d → Accepted d
    fits_accepted None o n x d e = absurd x
    fits_accepted (Some format.canonical) o n x d e = subst Accepted (some_inside format.canonical d e) refl
    fits_accepted (Some (format.custom ds)) o n x d e = subst Accepted (some_inside (format.custom ds) d e) x.0

    known : (o : GraphOp T A) (p : Op P T A) (n : ℕ) → FitsFormat C isolated (C.format_of o.id) o n → WrittenOp o p → KnownAccepted L p
    known o p n x w d e = fits_accepted (C.format_of o.id) o n x d (ap C.format_of (sym (ap (λ z. z.id) w.1)) ∙ (sym (same p.id) ∙ e))

    mutual
      known_regions : (a : Regions (GraphOp T A) (GraphBlock T A) ⊤) (r : Regions (Op P T A) (Head P T A) (Brace P)) → FitRegions C isolated a → MatchRegions WrittenOp WrittenBlock (λ x y. ⊤) a r → AllRegions (KnownAccepted L) (λ b. ⊤) (λ r. ⊤) r
      known_regions no_regions no_regions f w = tt
      known_regions no_regions (region b bs rs) f w = absurd w
      known_regions (region c cs ss) no_regions f w = absurd w
      known_regions (region c cs ss) (region b bs rs) f w = (tt, known_blocks cs bs f.0 w.1, known_regions ss rs f.1 w.2)

      known_blocks : (a : Blocks (GraphOp T A) (GraphBlock T A) ⊤) (r : Blocks (Op P T A) (Head P T A) (Brace P)) → FitBlocks C isolated a → MatchBlocks WrittenOp WrittenBlock (λ x y. ⊤) a r → AllBlocks (KnownAccepted L) (λ b. ⊤) (λ r. ⊤) r
      known_blocks no_blocks no_blocks f w = tt
      known_blocks no_blocks (block h os bs) f w = absurd w
      known_blocks (block c cs ds) no_blocks f w = absurd w
      known_blocks (block c cs ds) (block h os bs) f w = (tt, known_operations cs os f.0 w.1, known_blocks ds bs f.1 w.2)

      known_operations : (a : Operations (GraphOp T A) (GraphBlock T A) ⊤) (r : Operations (Op P T A) (Head P T A) (Brace P)) → FitOperations C isolated a → MatchOperations WrittenOp WrittenBlock (λ x y. ⊤) a r → AllOperations (KnownAccepted L) (λ b. ⊤) (λ r. ⊤) r
      known_operations no_operations no_operations f w = tt
      known_operations no_operations (operation o rs os) f w = absurd w
      known_operations (operation c cs ds) no_operations f w = absurd w
      known_operations (operation c cs ds) (operation o rs os) f w = (known c o (length (regions_list cs)) f.0 w.0, known_regions cs rs f.1 w.1, known_operations ds os f.2 w.2)

    -- the formats of what is written of a graph that fits are accepted
    pub accepted_written : (g : Graph T A) (t : Tree P T A) → Fit C isolated g → bare t ≡ written C None g → AllAccepted L t
    accepted_written g t f e = let w = written_as g t e in (known g.own t.own (length (regions_list g.regions)) f.0 w.0, known_regions g.regions t.regions f.1 w.1)
