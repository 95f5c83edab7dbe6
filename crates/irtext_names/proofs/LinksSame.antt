-- The links of what a tree builds are the same, whatever entries of a section give its items.
use Rattle.std.proofs.Common.{◌≡◌, ℕ, suc, Bool, cond, List, [], ◌∷◌, ◌++◌, refl, ap, ap₂}
use Rattle.irtext_base.specs.Text.{Text}
use Rattle.irtext_base.specs.Format.{same_text, Id}
use Rattle.irtext_grammar.specs.Grammar.Forest.{Regions, no_regions, region, Blocks, no_blocks, block, Operations, no_operations, operation}
use Rattle.irtext_grammar.specs.Grammar.Section.{Entry}
use Rattle.irtext_grammar.specs.Grammar.Tree.{Op, Head, Brace, Tree}
use Rattle.irtext_grammar.specs.Graphs.Build.{built_op, built_regions, built_blocks, built_operations, build}
use Rattle.irtext_grammar.specs.Graphs.Links.{op_links, region_links, block_links, operation_links, links}
use Rattle.irtext_grammar.specs.Names.Acts.{blocks_script}
use Rattle.irtext_grammar.specs.Names.Scopes.{Fact, facts}
use Rattle.irtext_grammar.specs.Names.Script.{Path}

module _ {P T A X : Type 0} (isolated : Id → Bool) (first : P → X) (es : List (Entry P A X)) where
  mutual
    regions_same : (v : List (Fact Text)) (p : Path) (j : ℕ) (iso : Bool) (rs : Regions (Op P T A) (Head P T A) (Brace P)) → region_links p j (built_regions isolated first es v p j iso rs) ≡ region_links p j (built_regions isolated first [] v p j iso rs)
    regions_same v p j iso no_regions = refl
    regions_same v p j iso (region brace bs rs) =
        let inside = facts same_text (blocks_script isolated (j ∷ p) 0 bs) in
        ap₂ ◌++◌ (blocks_same (cond iso inside.values v) inside.labels (j ∷ p) 0 bs) (regions_same v p (suc j) iso rs)

    blocks_same : (v l : List (Fact Text)) (p : Path) (j : ℕ) (bs : Blocks (Op P T A) (Head P T A) (Brace P)) → block_links p j (built_blocks isolated first es v l p j bs) ≡ block_links p j (built_blocks isolated first [] v l p j bs)
    blocks_same v l p j no_blocks = refl
    blocks_same v l p j (block h os bs) = ap₂ ◌++◌ (operations_same v l (j ∷ p) 0 os) (blocks_same v l p (suc j) bs)

    operations_same : (v l : List (Fact Text)) (p : Path) (j : ℕ) (os : Operations (Op P T A) (Head P T A) (Brace P)) → operation_links p j (built_operations isolated first es v l p j os) ≡ operation_links p j (built_operations isolated first [] v l p j os)
    operations_same v l p j no_operations = refl
    operations_same v l p j (operation o rs os) =
        ap₂ ◌++◌ (ap (λ y. op_links (j ∷ p) (built_op isolated first [] v l o) ++ y) (regions_same v (j ∷ p) 0 (isolated o.id) rs)) (operations_same v l p (suc j) os)

  pub links_same : (t : Tree P T A) → links (build isolated first es t) ≡ links (build isolated first [] t)
  links_same t = ap (λ y. op_links [] (built_op isolated first [] [] [] t.own) ++ y) (regions_same [] [] 0 (isolated t.own.id) t.regions)
