-- What is bound in the script of a tree is what the operands and successors of the built graph hold, at the same paths; and where
-- the tree resolves, each of them holds something.
use Rattle.std.proofs.Common.{ℕ, suc, Bool, cond, List, [], ◌∷◌, ◌++◌, Option, sym, ap, ◌∙◌}
use Rattle.std.specs.Prelude.{⊤}
use Rattle.std.proofs.lemmas.List.{append_assoc}
use Rattle.irtext_base.specs.Text.{Text}
use Rattle.irtext_base.specs.Format.{same_text, Id}
use Rattle.irtext_grammar.specs.Grammar.Forest.{Regions, no_regions, region, Blocks, no_blocks, block, Operations, no_operations, operation}
use Rattle.irtext_grammar.specs.Grammar.Tree as tree
use Rattle.irtext_grammar.specs.Grammar.Tree.{Part, Op, Head, Brace, shown, elided, Tree, parts_of}
use Rattle.irtext_grammar.specs.Spelling.Spellable.{Enough}
use Rattle.irtext_grammar.specs.Names.Script.{Path, Place, User, Script, does_all}
use Rattle.irtext_grammar.specs.Names.Scopes.{Fact, facts}
use Rattle.irtext_grammar.specs.Grammar.Section.{Entry}
use Rattle.irtext_grammar.specs.Names.Acts.{singles, single_labels, piece_acts, all_of, parts_script, closing_acts, header_acts, region_script, region_scripts, blocks_script, operations_script, tree_script}
use Rattle.irtext_grammar.specs.Graphs.Build.{built_op, built_regions, built_blocks, built_operations, build}
use Rattle.irtext_grammar.proofs.Grammar.PartsOfFormats.{FormedOp, FormedRegions, FormedBlocks, FormedOperations, Formed}
use Rattle.irtext_grammar.proofs.Lists.Sets.{Same, same_refl, same_path, same_then, same_both}
use Rattle.irtext_grammar.proofs.Names.UsesMean.{acts_meant, meant, meant_all}
use Rattle.irtext_grammar.proofs.Graphs.PartKinds.{formed_numbered}
use Rattle.irtext_grammar.proofs.Graphs.Slots.{same_under, same_past, op_slots, region_slots, block_slots, operation_slots, slots, closing_means_nothing, header_means_nothing, parts_meant, op_meant}

one_more : (h s a b : List (User × Option Place)) (x y : List (User × Option Place)) → Same x (h ++ y) → Same y (a ++ (s ++ b)) → Same x (a ++ ((h ++ s) ++ b))
one_more h s a b x y e f = same_then e (same_then (same_under h f) (same_then (same_past h a (s ++ b)) (same_under a (same_path _ _ (sym (append_assoc h s b))))))

module _ {P T A X : Type 0} (isolated : Id → Bool) (first : P → X) (es : List (Entry P A X)) where
  -- region by region: what it means, with whatever is done then
  abbrev RegionsMeant : List (Fact Text) → List (Fact Text) → Path → ℕ → Bool → Regions (Op P T A) (Head P T A) (Brace P) → Type 0
  RegionsMeant v l p j iso no_regions = ⊤
  RegionsMeant v l p j iso (region brace bs rs) =
      ((x : Script Text P) → Same (meant same_text v l (region_script iso brace (blocks_script isolated (j ∷ p) 0 bs) x))
      ((block_slots (j ∷ p) 0 (built_blocks isolated first es (cond iso (facts same_text (blocks_script isolated (j ∷ p) 0 bs)).values v) (facts same_text (blocks_script isolated (j ∷ p) 0 bs)).labels (j ∷ p) 0 bs)) ++ meant same_text v l x))
      × RegionsMeant v l p (suc j) iso rs

  module _ (v l : List (Fact Text)) (p : Path) (iso : Bool) where
    abbrev Held : ℕ → Regions (Op P T A) (Head P T A) (Brace P) → List (User × Option Place)
    Held j rs = region_slots p j (built_regions isolated first es v p j iso rs)

    all_meant : (j : ℕ) (rs : Regions (Op P T A) (Head P T A) (Brace P)) (x : Script Text P) → RegionsMeant v l p j iso rs → Same (meant same_text v l (all_of (region_scripts isolated p j iso rs) x)) (Held j rs ++ meant same_text v l x)
    all_meant j no_regions x h = same_refl (meant same_text v l x)
    all_meant j (region brace bs rs) x h =
        let bl = built_blocks isolated first es (cond iso (facts same_text (blocks_script isolated (j ∷ p) 0 bs)).values v) (facts same_text (blocks_script isolated (j ∷ p) 0 bs)).labels (j ∷ p) 0 bs in
        let one = block_slots (j ∷ p) 0 bl in
        same_then (same_then (h.0 (all_of (region_scripts isolated p (suc j) iso rs) x)) (same_under one (all_meant (suc j) rs x h.1)))
        (same_path _ _ (sym (append_assoc one (Held (suc j) rs) (meant same_text v l x))))

    module _ (k m : ℕ) (x : Script Text P) where
      parts_walk : (ps : List (Part P T A)) (j : ℕ) (rs : Regions (Op P T A) (Head P T A) (Brace P)) → Enough ps rs → RegionsMeant v l p j iso rs
          → Same (meant same_text v l (parts_script p k m ps (region_scripts isolated p j iso rs) x)) (parts_meant v l p k m ps ++ (Held j rs ++ (meant same_text v l x)))
      parts_walk [] j no_regions e h = same_refl (meant same_text v l x)
      parts_walk [] j (region brace bs rs) e h = absurd e
      parts_walk (tree.piece y ∷ ps) j rs e h =
          let acts = acts_meant same_text v l (piece_acts p k m y) in
          same_then (same_path _ _ (meant_all same_text v l (piece_acts p k m y) (parts_script p k m ps (region_scripts isolated p j iso rs) x)))
          (same_then (same_under acts (parts_walk ps j rs e h)) (same_path _ _ (sym (append_assoc acts (parts_meant v l p k m ps) (Held j rs ++ (meant same_text v l x))))))
      parts_walk (tree.region i ∷ ps) j no_regions e h = absurd e
      parts_walk (tree.region i ∷ ps) j (region brace bs rs) e h =
          let bl = built_blocks isolated first es (cond iso (facts same_text (blocks_script isolated (j ∷ p) 0 bs)).values v) (facts same_text (blocks_script isolated (j ∷ p) 0 bs)).labels (j ∷ p) 0 bs in
          let one = block_slots (j ∷ p) 0 bl in
          let rest = parts_script p k m ps (region_scripts isolated p (suc j) iso rs) x in
          one_more one (Held (suc j) rs) (parts_meant v l p k m ps) (meant same_text v l x) _ (meant same_text v l rest) (h.0 rest) (parts_walk ps (suc j) rs e h.1)
      parts_walk (tree.regions ∷ ps) j rs e h =
          let rest = parts_script p k m ps [] x in
          same_then (all_meant j rs rest h) (same_then (same_under (Held j rs) (parts_walk ps j no_regions e tt)) (same_past (Held j rs) (parts_meant v l p k m ps) (meant same_text v l x)))

  op_walk : (v l : List (Fact Text)) (p : Path) (o : Op P T A) (rs : Regions (Op P T A) (Head P T A) (Brace P)) (x : Script Text P) → FormedOp o rs → RegionsMeant v l p 0 (isolated o.id) rs
      → Same (meant same_text v l (parts_script p (singles (parts_of o.body)) (single_labels (parts_of o.body)) (parts_of o.body) (region_scripts isolated p 0 (isolated o.id) rs) (does_all (closing_acts p o) x)))
      (op_slots p (built_op isolated first es v l o) ++ (Held v l p (isolated o.id) 0 rs ++ meant same_text v l x))
  op_walk v l p o rs x f h =
      let k = singles (parts_of o.body) in
      let m = single_labels (parts_of o.body) in
      let held = Held v l p (isolated o.id) 0 rs in
      same_then (parts_walk v l p (isolated o.id) k m (does_all (closing_acts p o) x) (parts_of o.body) 0 rs f.enough h)
      (same_both (op_meant v l p o (formed_numbered f.format o.body f.accepted f.is_of))
      (same_under held (same_path _ _ (meant_all same_text v l (closing_acts p o) x ∙ ap (λ z. z ++ meant same_text v l x) (closing_means_nothing v l p o)))))

  mutual
    regions_walk : (v l : List (Fact Text)) (p : Path) (j : ℕ) (iso : Bool) (rs : Regions (Op P T A) (Head P T A) (Brace P)) → FormedRegions rs → RegionsMeant v l p j iso rs
    regions_walk v l p j iso no_regions f = tt
    regions_walk v l p j iso (region (shown place) bs rs) f = (
      (λ x. same_both (blocks_walk (cond iso (facts same_text (blocks_script isolated (j ∷ p) 0 bs)).values v) (facts same_text (blocks_script isolated (j ∷ p) 0 bs)).labels (j ∷ p) 0 bs f.0) (same_refl (meant same_text v l x))),
      regions_walk v l p (suc j) iso rs f.1,
    )
    regions_walk v l p j iso (region elided bs rs) f = absurd f

    blocks_walk : (v l : List (Fact Text)) (p : Path) (k : ℕ) (bs : Blocks (Op P T A) (Head P T A) (Brace P)) → FormedBlocks bs → Same (meant same_text v l (blocks_script isolated p k bs)) (block_slots p k (built_blocks isolated first es v l p k bs))
    blocks_walk v l p k no_blocks f = same_refl []
    blocks_walk v l p k (block h os bs) f =
        let rest = blocks_script isolated p (suc k) bs in
        let now = operation_slots (k ∷ p) 0 (built_operations isolated first es v l (k ∷ p) 0 os) in
        same_then (same_path _ _ (meant_all same_text v l (header_acts (k ∷ p) h) (operations_script isolated (k ∷ p) 0 os rest) ∙ ap (λ z. z ++ meant same_text v l (operations_script isolated (k ∷ p) 0 os rest)) (header_means_nothing v l (k ∷ p) h)))
        (same_then (operations_walk v l (k ∷ p) 0 os rest f.0) (same_under now (blocks_walk v l p (suc k) bs f.1)))

    operations_walk : (v l : List (Fact Text)) (p : Path) (i : ℕ) (os : Operations (Op P T A) (Head P T A) (Brace P)) (x : Script Text P) → FormedOperations os
        → Same (meant same_text v l (operations_script isolated p i os x)) (operation_slots p i (built_operations isolated first es v l p i os) ++ meant same_text v l x)
    operations_walk v l p i no_operations x f = same_refl (meant same_text v l x)
    operations_walk v l p i (operation o rs os) x f =
        let own = op_slots (i ∷ p) (built_op isolated first es v l o) in
        let held = Held v l (i ∷ p) (isolated o.id) 0 rs in
        let later = operation_slots p (suc i) (built_operations isolated first es v l p (suc i) os) in
        let rest = operations_script isolated p (suc i) os x in
        same_then (op_walk v l (i ∷ p) o rs rest f.0.0 (regions_walk v l (i ∷ p) 0 (isolated o.id) rs f.0.1))
        (same_then (same_under own (same_under held (operations_walk v l p (suc i) os x f.1)))
        (same_path _ _ (sym (append_assoc own held (later ++ meant same_text v l x)) ∙ sym (append_assoc (own ++ held) later (meant same_text v l x)))))

  -- what the whole tree means, before whatever is done then
  pub tree_walk : (t : Tree P T A) (x : Script Text P) → Formed t → Same (meant same_text [] [] (tree_script isolated t x)) (slots (build isolated first es t) ++ meant same_text [] [] x)
  tree_walk t x f =
      let own = op_slots [] (built_op isolated first es [] [] t.own) in
      same_then (op_walk [] [] [] t.own t.regions x f.0 (regions_walk [] [] [] 0 (isolated t.own.id) t.regions f.1))
      (same_path _ _ (sym (append_assoc own (Held [] [] [] (isolated t.own.id) 0 t.regions) (meant same_text [] [] x))))
