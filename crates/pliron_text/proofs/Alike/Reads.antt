-- Two contexts that know the operations of a tree alike: a text that parses as the tree in one parses as it in the other, whatever is parsed
-- where a region is left out.
use Rattle.std.proofs.Common.{◌∙◌, ℕ, List, [], ◌∷◌, ap}
use Rattle.std.specs.Option.{option_map}
use Rattle.std.specs.Prelude.{⊤}
use Rattle.irtext_base.specs.Text.{Text, after_space}
use Rattle.irtext_base.specs.Reading.{Reading, the, separated, more, repeated}
use Rattle.irtext_base.specs.Own.{Texts, Language, Verdict}
use Rattle.irtext_context.specs.Dialects.{Table}
use Rattle.irtext_grammar.specs.Grammar.Forest.{Regions, no_regions, region, Blocks, no_blocks, block, Operations, no_operations, operation, AllRegions, AllBlocks, AllOperations}
use Rattle.irtext_grammar.specs.Grammar.Marked.{reads_root}
use Rattle.irtext_grammar.specs.Grammar.Reads as reads
use Rattle.irtext_grammar.specs.Grammar.Section.{Entry}
use Rattle.irtext_grammar.specs.Grammar.Tree as tree
use Rattle.irtext_grammar.specs.Grammar.Tree.{Part, Op, Head, Brace, shown, elided, Tree, parts_of}
use Rattle.irtext_grammar.specs.Promises.Supported.{supported}
use Rattle.irtext_grammar.proofs.Grammar.Nested.{EachRegion, EachBlock, EachOperation, all_regions}
use Rattle.pliron_text.specs.Alike.{IsKnownAlike}

module _ {T A : Type 0} (d e : List (Text × Table)) where
  -- the operation is known alike
  abbrev pub Alike : Op ℕ T A → Type 0
  Alike o = IsKnownAlike e d o.id

  abbrev pub AlikeRegions : Regions (Op ℕ T A) (Head ℕ T A) (Brace ℕ) → Type 0
  AlikeRegions rs = AllRegions Alike (λ h. ⊤) (λ r. ⊤) rs

  abbrev pub AlikeBlocks : Blocks (Op ℕ T A) (Head ℕ T A) (Brace ℕ) → Type 0
  AlikeBlocks bs = AllBlocks Alike (λ h. ⊤) (λ r. ⊤) bs

  abbrev pub AlikeOperations : Operations (Op ℕ T A) (Head ℕ T A) (Brace ℕ) → Type 0
  AlikeOperations os = AllOperations Alike (λ h. ⊤) (λ r. ⊤) os

  -- the same of a root and of all that is nested in it
  abbrev pub AlikeTree : Tree ℕ T A → Type 0
  AlikeTree t = Alike t.own × AlikeRegions t.regions

module _ {T A : Type 0} (types : Texts T) (owns : Texts A) (d e : List (Text × Table)) (left_out : Reading) where
  abbrev Inner : Type 0
  Inner = Regions (Op ℕ T A) (Head ℕ T A) (Brace ℕ)

  abbrev Leaves : Type 0
  Leaves = Blocks (Op ℕ T A) (Head ℕ T A) (Brace ℕ)

  abbrev Steps : Type 0
  Steps = Operations (Op ℕ T A) (Head ℕ T A) (Brace ℕ)

  abbrev L : Language ℕ T A
  L = record (supported d types owns) { left_out = left_out }

  abbrev M : Language ℕ T A
  M = record (supported e types owns) { left_out = left_out }

  abbrev ReadRegion : Brace ℕ → Leaves → Type 0
  ReadRegion brace bs = AlikeBlocks d e bs → (t u : Text) → reads.region_read L brace (reads.block_readings L bs) t u → reads.region_read M brace (reads.block_readings M bs) t u

  abbrev ReadBlock : Head ℕ T A → Steps → Type 0
  ReadBlock h os = AlikeOperations d e os → (t u : Text) → reads.block_read L h (reads.operation_readings L os) t u → reads.block_read M h (reads.operation_readings M os) t u

  abbrev ReadOperation : Op ℕ T A → Inner → Type 0
  ReadOperation o rs = Alike d e o → AlikeRegions d e rs → (t u : Text) → reads.operation_read L o (reads.region_readings L rs) t u → reads.operation_read M o (reads.region_readings M rs) t u

  alike_repeated : (rs : Inner) (t u : Text) → EachRegion ReadRegion rs → AlikeRegions d e rs → repeated (the 123) (reads.region_readings L rs) t u → repeated (the 123) (reads.region_readings M rs) t u
  alike_repeated no_regions t u s k a = a
  alike_repeated (region brace bs rs) t u s (w, k, q) (m, a, b) = (m, s.0 k t m a, alike_repeated rs (after_space m) u s.1 q b)

  alike_parts : (ps : List (Part ℕ T A)) (rs : Inner) (t u : Text) → EachRegion ReadRegion rs → AlikeRegions d e rs → reads.parts L ps (reads.region_readings L rs) t u → reads.parts M ps (reads.region_readings M rs) t u
  alike_parts [] no_regions t u s k a = a
  alike_parts [] (region brace bs rs) t u s k a = absurd a
  alike_parts (tree.piece p ∷ ps) rs t u s k (m, a, b) = (m, a, alike_parts ps rs m u s k b)
  alike_parts (tree.region i ∷ ps) no_regions t u s k a = absurd a
  alike_parts (tree.region i ∷ ps) (region brace bs rs) t u s (w, k, q) (m, a, b) = (m, s.0 k (after_space t) m a, alike_parts ps rs m u s.1 q b)
  alike_parts (tree.regions ∷ ps) rs t u s k (m, a, b) = (m, alike_repeated rs (after_space t) m s k a, alike_parts ps no_regions m u tt tt b)

  alike_operation : (o : Op ℕ T A) (rs : Inner) → EachRegion ReadRegion rs → ReadOperation o rs
  alike_operation o rs s known k t u (at, ((f, is, shape), (m, a, (l, b, (n, c, x))))) = (at, ((f, ap (option_map (λ known. known.format)) known ∙ is, shape), (m, a, (l, b, (n, alike_parts (parts_of o.body) rs l n s k c, x)))))

  alike_more : (os : Steps) (t u : Text) → EachOperation ReadOperation os → AlikeOperations d e os → more 59 (reads.operation_readings L os) t u → more 59 (reads.operation_readings M os) t u
  alike_more no_operations t u s k a = a
  alike_more (operation o rs os) t u s (w, k, q) (m, l, (n, a, b)) = (m, l, (n, s.0 w k (after_space m) n a, alike_more os (after_space n) u s.1 q b))

  alike_steps : (os : Steps) (t u : Text) → EachOperation ReadOperation os → AlikeOperations d e os → separated 59 reads.no_operation (reads.operation_readings L os) t u → separated 59 reads.no_operation (reads.operation_readings M os) t u
  alike_steps no_operations t u s k a = a
  alike_steps (operation o rs os) t u s (w, k, q) (m, a, b) = (m, s.0 w k t m a, alike_more os (after_space m) u s.1 q b)

  alike_block : (h : Head ℕ T A) (os : Steps) → EachOperation ReadOperation os → ReadBlock h os
  alike_block h os s k t u (m1, l, (m2, p, (m3, a, (m4, q, (m5, x, (m6, n, (m7, c, o))))))) = (m1, l, (m2, p, (m3, a, (m4, q, (m5, x, (m6, n, (m7, c, alike_steps os (after_space m7) u s k o)))))))

  alike_leaves : (bs : Leaves) (t u : Text) → EachBlock ReadBlock bs → AlikeBlocks d e bs → repeated (the 94) (reads.block_readings L bs) t u → repeated (the 94) (reads.block_readings M bs) t u
  alike_leaves no_blocks t u s k a = a
  alike_leaves (block h os bs) t u s (w, k, q) (m, a, b) = (m, s.0 k t m a, alike_leaves bs (after_space m) u s.1 q b)

  alike_region : (brace : Brace ℕ) (bs : Leaves) → EachBlock ReadBlock bs → ReadRegion brace bs
  alike_region elided no_blocks s k t u a = a
  alike_region elided (block h os bs) s k t u a = absurd a
  alike_region (shown p) bs s k t u (at, (m, o, (n, a, c))) = (at, (m, o, (n, alike_leaves bs (after_space m) n s k a, c)))

  pub alike_reads : (t : Tree ℕ T A) → AlikeTree d e t → (text rest : Text) → reads.reads L t text rest → reads.reads M t text rest
  alike_reads t known text rest a = alike_operation t.own t.regions (all_regions ReadRegion ReadBlock ReadOperation alike_region alike_block alike_operation t.regions) known.0 known.1 text rest a

  -- the same of a root with its section
  pub alike_root : {X : Type 0} (location_at : Text → Verdict X) (t : Tree ℕ T A) (es : List (Entry ℕ A X)) → AlikeTree d e t → (text rest : Text) → reads_root L location_at t es text rest → reads_root M location_at t es text rest
  alike_root location_at t es known text rest (m, a, b) = (m, alike_reads t known text m a, b)
