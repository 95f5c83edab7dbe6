-- A language in which a region can be left out: a tree of the text's own language is one of this language too, with every region shown.
use Rattle.std.specs.Prelude.{List, [], ◌∷◌, codes, ⊤}
use Rattle.irtext_base.specs.Text.{Text, after_space}
use Rattle.irtext_base.specs.Reading.{the, literal, separated, more, repeated}
use Rattle.irtext_base.specs.Own.{Language}
use Rattle.irtext_grammar.specs.Grammar.Forest.{Regions, no_regions, region, Blocks, no_blocks, block, Operations, no_operations, operation, AllRegions, AllBlocks, AllOperations}
use Rattle.irtext_grammar.specs.Grammar.Tree as tree
use Rattle.irtext_grammar.specs.Grammar.Tree.{Part, Op, Head, Brace, shown, elided, Tree, parts_of}
use Rattle.irtext_grammar.specs.Grammar.Bare.{bare_brace, bare_regions, bare_blocks, bare_operations, bare}
use Rattle.irtext_grammar.specs.Grammar.Marked.{IsShown, AllShown}
use Rattle.irtext_grammar.specs.Grammar.Reads as reads
use Rattle.irtext_grammar.proofs.Grammar.Nested.{EachRegion, EachBlock, EachOperation, all_regions}

abbrev ShownRegions : {P T A : Type 0} → Regions (Op P T A) (Head P T A) (Brace P) → Type 0
ShownRegions rs = AllRegions (λ o. ⊤) (λ h. ⊤) IsShown rs

abbrev ShownBlocks : {P T A : Type 0} → Blocks (Op P T A) (Head P T A) (Brace P) → Type 0
ShownBlocks bs = AllBlocks (λ o. ⊤) (λ h. ⊤) IsShown bs

abbrev ShownOperations : {P T A : Type 0} → Operations (Op P T A) (Head P T A) (Brace P) → Type 0
ShownOperations os = AllOperations (λ o. ⊤) (λ h. ⊤) IsShown os

-- the same language, where a region can be left out
abbrev pub lenient : {P T A : Type 0} → Language P T A → Language P T A
lenient L = record L { left_out = literal (codes "{..}") }

module _ {P T A : Type 0} (L : Language P T A) (never_out : (t u : Text) → L.left_out t u → ⊥) where
  abbrev Inner : Type 0
  Inner = Regions (Op P T A) (Head P T A) (Brace P)

  abbrev Leaves : Type 0
  Leaves = Blocks (Op P T A) (Head P T A) (Brace P)

  abbrev Steps : Type 0
  Steps = Operations (Op P T A) (Head P T A) (Brace P)

  abbrev M : Language P T A
  M = lenient L

  abbrev LenientRegion : Brace P → Leaves → Type 0
  LenientRegion brace bs = (t u : Text) → reads.region_read L brace (reads.block_readings L bs) t u → reads.region_read M brace (reads.block_readings M bs) t u × IsShown brace × ShownBlocks bs

  abbrev LenientBlock : Head P T A → Steps → Type 0
  LenientBlock h os = (t u : Text) → reads.block_read L h (reads.operation_readings L os) t u → reads.block_read M h (reads.operation_readings M os) t u × ShownOperations os

  abbrev LenientOperation : Op P T A → Inner → Type 0
  LenientOperation o rs = (t u : Text) → reads.operation_read L o (reads.region_readings L rs) t u → reads.operation_read M o (reads.region_readings M rs) t u × ShownRegions rs

  abbrev LenientRegions : Inner → Type 0
  LenientRegions rs = EachRegion LenientRegion rs

  abbrev LenientBlocks : Leaves → Type 0
  LenientBlocks bs = EachBlock LenientBlock bs

  abbrev LenientOperations : Steps → Type 0
  LenientOperations os = EachOperation LenientOperation os

  lenient_repeated : (rs : Inner) (t u : Text) → LenientRegions rs → repeated (the 123) (reads.region_readings L rs) t u → repeated (the 123) (reads.region_readings M rs) t u × ShownRegions rs
  lenient_repeated no_regions t u s a = (a, tt)
  lenient_repeated (region brace bs rs) t u s (m, a, b) =
      let r = s.0 t m a in
      let k = lenient_repeated rs (after_space m) u s.1 b in
      ((m, r.0, k.0), (r.1, r.2, k.1))

  lenient_parts : (ps : List (Part P T A)) (rs : Inner) (t u : Text) → LenientRegions rs → reads.parts L ps (reads.region_readings L rs) t u → reads.parts M ps (reads.region_readings M rs) t u × ShownRegions rs
  lenient_parts [] no_regions t u s a = (a, tt)
  lenient_parts [] (region brace bs rs) t u s a = absurd a
  lenient_parts (tree.piece p ∷ ps) rs t u s (m, a, b) = let k = lenient_parts ps rs m u s b in ((m, a, k.0), k.1)
  lenient_parts (tree.region i ∷ ps) no_regions t u s a = absurd a
  lenient_parts (tree.region i ∷ ps) (region brace bs rs) t u s (m, a, b) =
      let r = s.0 (after_space t) m a in
      let k = lenient_parts ps rs m u s.1 b in
      ((m, r.0, k.0), (r.1, r.2, k.1))
  lenient_parts (tree.regions ∷ ps) rs t u s (m, a, b) =
      let r = lenient_repeated rs (after_space t) m s a in
      let k = lenient_parts ps no_regions m u tt b in
      ((m, r.0, k.0), r.1)

  lenient_operation : (o : Op P T A) (rs : Inner) → LenientRegions rs → (t u : Text) → reads.operation_read L o (reads.region_readings L rs) t u → reads.operation_read M o (reads.region_readings M rs) t u × ShownRegions rs
  lenient_operation o rs s t u (at, (is, (m, a, (k, b, (n, c, d))))) = let r = lenient_parts (parts_of o.body) rs k n s c in ((at, (is, (m, a, (k, b, (n, r.0, d))))), r.1)

  lenient_more : (os : Steps) (t u : Text) → LenientOperations os → more 59 (reads.operation_readings L os) t u → more 59 (reads.operation_readings M os) t u × ShownOperations os
  lenient_more no_operations t u s a = (a, tt)
  lenient_more (operation o rs os) t u s (m, l, (k, a, b)) =
      let r = s.0 (after_space m) k a in
      let q = lenient_more os (after_space k) u s.1 b in
      ((m, l, (k, r.0, q.0)), (tt, r.1, q.1))

  lenient_steps : (os : Steps) (t u : Text) → LenientOperations os → separated 59 reads.no_operation (reads.operation_readings L os) t u → separated 59 reads.no_operation (reads.operation_readings M os) t u × ShownOperations os
  lenient_steps no_operations t u s a = (a, tt)
  lenient_steps (operation o rs os) t u s (m, a, b) =
      let r = s.0 t m a in
      let q = lenient_more os (after_space m) u s.1 b in
      ((m, r.0, q.0), (tt, r.1, q.1))

  lenient_block : (h : Head P T A) (os : Steps) → LenientOperations os → (t u : Text) → reads.block_read L h (reads.operation_readings L os) t u → reads.block_read M h (reads.operation_readings M os) t u × ShownOperations os
  lenient_block h os s t u (m1, l, (m2, p, (m3, a, (m4, q, (m5, d, (m6, k, (m7, c, o))))))) = let r = lenient_steps os (after_space m7) u s o in ((m1, l, (m2, p, (m3, a, (m4, q, (m5, d, (m6, k, (m7, c, r.0))))))), r.1)

  lenient_leaves : (bs : Leaves) (t u : Text) → LenientBlocks bs → repeated (the 94) (reads.block_readings L bs) t u → repeated (the 94) (reads.block_readings M bs) t u × ShownBlocks bs
  lenient_leaves no_blocks t u s a = (a, tt)
  lenient_leaves (block h os bs) t u s (m, a, b) =
      let r = s.0 t m a in
      let q = lenient_leaves bs (after_space m) u s.1 b in
      ((m, r.0, q.0), (tt, r.1, q.1))

  lenient_region : (brace : Brace P) (bs : Leaves) → LenientBlocks bs → (t u : Text) → reads.region_read L brace (reads.block_readings L bs) t u → reads.region_read M brace (reads.block_readings M bs) t u × IsShown brace × ShownBlocks bs
  lenient_region elided no_blocks s t u a = absurd (never_out t u a)
  lenient_region elided (block h os bs) s t u a = absurd a
  lenient_region (shown p) bs s t u (at, (m, o, (k, a, c))) = let r = lenient_leaves bs (after_space m) k s a in ((at, (m, o, (k, r.0, c))), tt, r.1)

  -- a tree that a text parses as in its own language it parses as in the lenient one, with every region shown
  pub lenient_reads : (t : Tree P T A) (text rest : Text) → reads.reads L t text rest → reads.reads M t text rest × AllShown t
  lenient_reads t text rest a = lenient_operation t.own t.regions (all_regions LenientRegion LenientBlock LenientOperation lenient_region lenient_block lenient_operation t.regions) text rest a

-- a bare tree has the same regions
bare_shown : {P : Type 0} (brace : Brace P) → IsShown brace → IsShown (bare_brace brace)
bare_shown (shown p) s = tt
bare_shown elided s = s

module _ {P T A : Type 0} where
  mutual
    bare_regions_shown : (rs : Regions (Op P T A) (Head P T A) (Brace P)) → ShownRegions rs → ShownRegions (bare_regions rs)
    bare_regions_shown no_regions s = tt
    bare_regions_shown (region brace bs rs) s = (bare_shown brace s.0, bare_blocks_shown bs s.1, bare_regions_shown rs s.2)

    bare_blocks_shown : (bs : Blocks (Op P T A) (Head P T A) (Brace P)) → ShownBlocks bs → ShownBlocks (bare_blocks bs)
    bare_blocks_shown no_blocks s = tt
    bare_blocks_shown (block h os bs) s = (tt, bare_operations_shown os s.1, bare_blocks_shown bs s.2)

    bare_operations_shown : (os : Operations (Op P T A) (Head P T A) (Brace P)) → ShownOperations os → ShownOperations (bare_operations os)
    bare_operations_shown no_operations s = tt
    bare_operations_shown (operation o rs os) s = (tt, bare_regions_shown rs s.1, bare_operations_shown os s.2)

  -- a tree without its places has every region shown where the tree has
  pub bare_all_shown : (t : Tree P T A) → AllShown t → AllShown (bare t)
  bare_all_shown t s = bare_regions_shown t.regions s
