-- What a tree builds has the shape of what it builds without its places.
use Rattle.std.proofs.Common.{◌≡◌, ℕ, suc, Bool, cond, List, [], ◌∷◌, map, refl, sym, ap, ap₂, ◌∙◌}
use Rattle.std.specs.Prelude.{⊤}
use Rattle.irtext_base.specs.Text.{Text}
use Rattle.irtext_base.specs.Format.{same_text, Id}
use Rattle.irtext_grammar.specs.Grammar.Forest.{Regions, no_regions, region, Blocks, no_blocks, block, Operations, no_operations, operation, Root, MatchRegions, MatchBlocks, MatchOperations}
use Rattle.irtext_grammar.specs.Grammar.Tree.{Name, Op, Head, Brace, Tree, operand_names, successor_labels}
use Rattle.irtext_grammar.specs.Grammar.Bare.{bare_name, bare_argument, bare_op, bare_head, bare_regions, bare_blocks, bare_operations, bare}
use Rattle.irtext_grammar.specs.Names.Script.{Path}
use Rattle.irtext_grammar.specs.Names.Scopes as scopes
use Rattle.irtext_grammar.specs.Names.Scopes.{Fact, facts}
use Rattle.irtext_grammar.specs.Grammar.Section.{Entry}
use Rattle.irtext_grammar.specs.Names.Acts.{blocks_script}
use Rattle.irtext_grammar.specs.Graphs.Build.{built_op, built_head, built_regions, built_blocks, built_operations, build}
use Rattle.irtext_grammar.specs.Graphs.Same.{ResolvedOp, ResolvedBlock, SameShape, SameBlockShape, SameShapes}
use Rattle.irtext_grammar.proofs.Names.Natural.{facts_as, facts_natural}
use Rattle.irtext_grammar.proofs.Graphs.BareScript.{any_script, fact_same, mapped_twice, bare_operand_names, bare_successor_labels, bare_result_types, same_itself, blocks_bare}

looked : {P : Type 0} (v w : List (Fact Text)) (ns : List (Name P)) (ms : List (Name ⊤)) → ms ≡ map bare_name ns → w ≡ v → map (λ n. scopes.lookup same_text n.text w) ms ≡ map (λ n. scopes.lookup same_text n.text v) ns
looked v w ns ms e f = ap₂ (λ ms w. map (λ n. scopes.lookup same_text n.text w) ms) e f ∙ mapped_twice bare_name (λ n. scopes.lookup same_text n.text v) ns

module _ {P T A X Y : Type 0} (isolated : Id → Bool) (first : P → X) (es : List (Entry P A X)) (bare_first : ⊤ → Y) (bare_es : List (Entry ⊤ A Y)) where
  facts_bare : (p : Path) (bs : Blocks (Op P T A) (Head P T A) (Brace P)) → facts same_text (blocks_script isolated p 0 (bare_blocks bs)) ≡ facts_as (λ n. n) (facts same_text (blocks_script isolated p 0 bs))
  facts_bare p bs = ap (facts same_text) (sym (blocks_bare isolated p 0 bs)) ∙ facts_natural (λ n. n) (λ (q : P). tt) same_text same_text (λ n. ⊤) same_itself (blocks_script isolated p 0 bs) (any_script (blocks_script isolated p 0 bs))

  values_bare : (p : Path) (bs : Blocks (Op P T A) (Head P T A) (Brace P)) → (facts same_text (blocks_script isolated p 0 (bare_blocks bs))).values ≡ (facts same_text (blocks_script isolated p 0 bs)).values
  values_bare p bs = ap (λ z. z.values) (facts_bare p bs) ∙ fact_same (facts same_text (blocks_script isolated p 0 bs)).values

  labels_bare : (p : Path) (bs : Blocks (Op P T A) (Head P T A) (Brace P)) → (facts same_text (blocks_script isolated p 0 (bare_blocks bs))).labels ≡ (facts same_text (blocks_script isolated p 0 bs)).labels
  labels_bare p bs = ap (λ z. z.labels) (facts_bare p bs) ∙ fact_same (facts same_text (blocks_script isolated p 0 bs)).labels

  shape_op : (a : ResolvedOp T A) (w m v l : List (Fact Text)) (o : Op P T A) → w ≡ v → m ≡ l → SameShape a (built_op isolated bare_first bare_es w m (bare_op o)) → SameShape a (built_op isolated first es v l o)
  shape_op a w m v l o e f s = record {
    id = s.id;
    result_types = s.result_types ∙ bare_result_types o.body;
    operands = s.operands ∙ looked v w (operand_names o) (operand_names (bare_op o)) (bare_operand_names o) e;
    successors = s.successors ∙ looked l m (successor_labels o) (successor_labels (bare_op o)) (bare_successor_labels o) f;
  }

  shape_head : (a : ResolvedBlock T A) (h : Head P T A) → SameBlockShape a (built_head isolated bare_first bare_es (bare_head h)) → SameBlockShape a (built_head isolated first es h)
  shape_head a h s = record { argument_types = s.argument_types ∙ mapped_twice bare_argument (λ (x : Name ⊤ × T). x.1) h.arguments }

  mutual
    shape_regions : (a : Regions (ResolvedOp T A) (ResolvedBlock T A) ⊤) (w v : List (Fact Text)) (p : Path) (j : ℕ) (iso : Bool) (rs : Regions (Op P T A) (Head P T A) (Brace P)) → w ≡ v
        → MatchRegions SameShape SameBlockShape (λ r s. ⊤) a (built_regions isolated bare_first bare_es w p j iso (bare_regions rs)) → MatchRegions SameShape SameBlockShape (λ r s. ⊤) a (built_regions isolated first es v p j iso rs)
    shape_regions no_regions w v p j iso no_regions e s = tt
    shape_regions no_regions w v p j iso (region b bs rs) e s = absurd s
    shape_regions (region c cs ds) w v p j iso no_regions e s = absurd s
    shape_regions (region c cs ds) w v p j iso (region b bs rs) e s = (
      tt,
      shape_blocks cs _ _ _ _ (j ∷ p) 0 bs (ap₂ (cond iso) (values_bare (j ∷ p) bs) e) (labels_bare (j ∷ p) bs) s.1,
      shape_regions ds w v p (suc j) iso rs e s.2,
    )

    shape_blocks : (a : Blocks (ResolvedOp T A) (ResolvedBlock T A) ⊤) (w m v l : List (Fact Text)) (p : Path) (k : ℕ) (bs : Blocks (Op P T A) (Head P T A) (Brace P)) → w ≡ v → m ≡ l
        → MatchBlocks SameShape SameBlockShape (λ r s. ⊤) a (built_blocks isolated bare_first bare_es w m p k (bare_blocks bs)) → MatchBlocks SameShape SameBlockShape (λ r s. ⊤) a (built_blocks isolated first es v l p k bs)
    shape_blocks no_blocks w m v l p k no_blocks e f s = tt
    shape_blocks no_blocks w m v l p k (block h os bs) e f s = absurd s
    shape_blocks (block c cs ds) w m v l p k no_blocks e f s = absurd s
    shape_blocks (block c cs ds) w m v l p k (block h os bs) e f s = (shape_head c h s.0, shape_operations cs w m v l (k ∷ p) 0 os e f s.1, shape_blocks ds w m v l p (suc k) bs e f s.2)

    shape_operations : (a : Operations (ResolvedOp T A) (ResolvedBlock T A) ⊤) (w m v l : List (Fact Text)) (p : Path) (i : ℕ) (os : Operations (Op P T A) (Head P T A) (Brace P)) → w ≡ v → m ≡ l
        → MatchOperations SameShape SameBlockShape (λ r s. ⊤) a (built_operations isolated bare_first bare_es w m p i (bare_operations os)) → MatchOperations SameShape SameBlockShape (λ r s. ⊤) a (built_operations isolated first es v l p i os)
    shape_operations no_operations w m v l p i no_operations e f s = tt
    shape_operations no_operations w m v l p i (operation o rs os) e f s = absurd s
    shape_operations (operation c cs ds) w m v l p i no_operations e f s = absurd s
    shape_operations (operation c cs ds) w m v l p i (operation o rs os) e f s = (shape_op c w m v l o e f s.0, shape_regions cs w v (i ∷ p) 0 (isolated o.id) rs e s.1, shape_operations ds w m v l p (suc i) os e f s.2)

  -- what has the shape of a tree built without its places has that of the tree built
  pub shapes_bare : (a : Root (ResolvedOp T A) (ResolvedBlock T A) ⊤) (t : Tree P T A) → SameShapes a (build isolated bare_first bare_es (bare t)) → SameShapes a (build isolated first es t)
  shapes_bare a t s = (shape_op a.own [] [] [] [] t.own refl refl s.0, shape_regions a.regions [] [] [] 0 (isolated t.own.id) t.regions refl s.1)
