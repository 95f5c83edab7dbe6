-- What a tree does with names, and what it builds, in two contexts that know its operations alike.
use Rattle.std.proofs.Common.{◌≡◌, ◌∙◌, ℕ, suc, Bool, false, cond, List, [], ◌∷◌, Option, Some, None, refl, ap, ap₂}
use Rattle.irtext_base.specs.Format.{Id, same_text}
use Rattle.irtext_base.specs.Text.{Text}
use Rattle.irtext_context.specs.Dialects.{Table, Known}
use Rattle.irtext_grammar.specs.Contexts.Formats.{isolated}
use Rattle.irtext_grammar.specs.Grammar.Forest.{Regions, no_regions, region, Blocks, no_blocks, block, Operations, no_operations, operation}
use Rattle.irtext_grammar.specs.Grammar.Section.{Entry}
use Rattle.irtext_grammar.specs.Grammar.Tree.{Op, Head, Brace, Tree}
use Rattle.irtext_grammar.specs.Graphs.Build.{built_op, built_head, built_regions, built_blocks, built_operations, build}
use Rattle.irtext_grammar.specs.Names.Acts.{header_acts, operation_script, region_script, region_scripts, blocks_script, operations_script, section_acts, rule_of, failures_of}
use Rattle.irtext_grammar.specs.Names.Scopes.{Fact, facts, failures, no_scope}
use Rattle.irtext_grammar.specs.Names.Script.{Path, Script, done, does_all}
use Rattle.pliron_text.specs.Alike.{IsKnownAlike}
use Rattle.pliron_text.proofs.Alike.Reads.{AlikeRegions, AlikeBlocks, AlikeOperations, AlikeTree}

module _ (d e : List (Text × Table)) where
  -- an operation that is known alike is isolated in both or in neither
  pub same_isolation : (id : Id) → IsKnownAlike e d id → isolated e id ≡ isolated d id
  same_isolation id known = ap is known
    where
      is : Option Known → Bool
      is o = elim o [ Some k ↦ k.isolated | None ↦ false ]

  module _ {T A : Type 0} where
    mutual
      regions_alike : (p : Path) (j : ℕ) (b : Bool) (rs : Regions (Op ℕ T A) (Head ℕ T A) (Brace ℕ)) → AlikeRegions {T = T} {A = A} d e rs → region_scripts (isolated e) p j b rs ≡ region_scripts (isolated d) p j b rs
      regions_alike p j b no_regions k = refl
      regions_alike p j b (region brace bs rs) (w, k, q) = ap₂ (λ s more. region_script b brace s ∷ more) (blocks_alike (j ∷ p) 0 bs k) (regions_alike p (suc j) b rs q)

      pub blocks_alike : (p : Path) (i : ℕ) (bs : Blocks (Op ℕ T A) (Head ℕ T A) (Brace ℕ)) → AlikeBlocks {T = T} {A = A} d e bs → blocks_script (isolated e) p i bs ≡ blocks_script (isolated d) p i bs
      blocks_alike p i no_blocks k = refl
      blocks_alike p i (block h os bs) (w, k, q) =
          ap (does_all (header_acts (i ∷ p) h)) (operations_alike (i ∷ p) 0 os (blocks_script (isolated e) p (suc i) bs) k ∙ ap (operations_script (isolated d) (i ∷ p) 0 os) (blocks_alike p (suc i) bs q))

      operations_alike : (p : Path) (i : ℕ) (os : Operations (Op ℕ T A) (Head ℕ T A) (Brace ℕ)) (then : Script Text ℕ) → AlikeOperations {T = T} {A = A} d e os → operations_script (isolated e) p i os then ≡ operations_script (isolated d) p i os then
      operations_alike p i no_operations then k = refl
      operations_alike p i (operation o rs os) then (w, k, q) =
          ap₂ (operation_script (i ∷ p) o) (regions_alike (i ∷ p) 0 (isolated e o.id) rs k ∙ ap (λ b. region_scripts (isolated d) (i ∷ p) 0 b rs) (same_isolation o.id w)) (operations_alike p (suc i) os then q)

    -- what is wrong in a root is the same
    pub failures_alike : {X : Type 0} (t : Tree ℕ T A) (es : List (Entry ℕ A X)) → AlikeTree d e t → failures_of (isolated e) t es ≡ failures_of (isolated d) t es
    failures_alike t es (w, k) =
        ap (λ rs. failures same_text no_scope (operation_script [] t.own rs (does_all (section_acts (rule_of t) es) done)))
        (regions_alike [] 0 (isolated e t.own.id) t.regions k ∙ ap (λ b. region_scripts (isolated d) [] 0 b t.regions) (same_isolation t.own.id w))

    module _ {X : Type 0} (first : ℕ → X) (all : List (Entry ℕ A X)) where
      mutual
        built_regions_alike : (v : List (Fact Text)) (p : Path) (j : ℕ) (b : Bool) (rs : Regions (Op ℕ T A) (Head ℕ T A) (Brace ℕ)) → AlikeRegions {T = T} {A = A} d e rs → built_regions (isolated e) first all v p j b rs ≡ built_regions (isolated d) first all v p j b rs
        built_regions_alike v p j b no_regions k = refl
        built_regions_alike v p j b (region brace bs rs) (w, k, q) =
            ap₂ (region tt)
            (built_blocks_alike (cond b (facts same_text (blocks_script (isolated e) (j ∷ p) 0 bs)).values v) (facts same_text (blocks_script (isolated e) (j ∷ p) 0 bs)).labels (j ∷ p) 0 bs k
            ∙ ap (λ s. built_blocks (isolated d) first all (cond b (facts same_text s).values v) (facts same_text s).labels (j ∷ p) 0 bs) (blocks_alike (j ∷ p) 0 bs k))
            (built_regions_alike v p (suc j) b rs q)

        built_blocks_alike : (v l : List (Fact Text)) (p : Path) (i : ℕ) (bs : Blocks (Op ℕ T A) (Head ℕ T A) (Brace ℕ)) → AlikeBlocks {T = T} {A = A} d e bs → built_blocks (isolated e) first all v l p i bs ≡ built_blocks (isolated d) first all v l p i bs
        built_blocks_alike v l p i no_blocks k = refl
        built_blocks_alike v l p i (block h os bs) (w, k, q) = ap₂ (block (built_head (isolated d) first all h)) (built_operations_alike v l (i ∷ p) 0 os k) (built_blocks_alike v l p (suc i) bs q)

        built_operations_alike : (v l : List (Fact Text)) (p : Path) (i : ℕ) (os : Operations (Op ℕ T A) (Head ℕ T A) (Brace ℕ)) → AlikeOperations {T = T} {A = A} d e os → built_operations (isolated e) first all v l p i os ≡ built_operations (isolated d) first all v l p i os
        built_operations_alike v l p i no_operations k = refl
        built_operations_alike v l p i (operation o rs os) (w, k, q) =
            ap₂ (operation (built_op (isolated d) first all v l o))
            (built_regions_alike v (i ∷ p) 0 (isolated e o.id) rs k ∙ ap (λ b. built_regions (isolated d) first all v (i ∷ p) 0 b rs) (same_isolation o.id w))
            (built_operations_alike v l p (suc i) os q)

      -- what it builds is the same
      pub build_alike : (t : Tree ℕ T A) → AlikeTree d e t → build (isolated e) first all t ≡ build (isolated d) first all t
      build_alike t (w, k) =
          ap (λ rs. record { own = built_op (isolated d) first all [] [] t.own; regions = rs })
          (built_regions_alike [] [] 0 (isolated e t.own.id) t.regions k ∙ ap (λ b. built_regions (isolated d) first all [] [] 0 b t.regions) (same_isolation t.own.id w))
