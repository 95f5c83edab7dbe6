-- The links of a built graph are what is bound in the tree's script; and where the tree resolves, each operand and successor holds something.
use Rattle.std.proofs.Common.{◌≡◌, ℕ, suc, Bool, true, ◌&&◌, List, [], ◌∷◌, ◌++◌, flat_map, Option, Some, is_some, refl, ap, ◌∙◌}
use Rattle.std.specs.Prelude.{⊤, ◌↔◌}
use Rattle.std.specs.List.{list_all}
use Rattle.std.proofs.lemmas.List.{append-nil}
use Rattle.irtext_base.specs.Text.{Text}
use Rattle.irtext_base.specs.Format.{same_text, Id}
use Rattle.irtext_grammar.specs.Spelling.Spellable.{Each}
use Rattle.irtext_grammar.specs.Grammar.Forest.{Regions, no_regions, region, Blocks, no_blocks, block, Operations, no_operations, operation, AllRegions, AllBlocks, AllOperations}
use Rattle.irtext_grammar.specs.Grammar.Tree.{Name, Tree}
use Rattle.irtext_grammar.specs.Names.Script.{Path, Place, User, operand, successor, Act, Script, done, does_all}
use Rattle.irtext_grammar.specs.Names.Scopes.{Fact, link, no_scope, failures, bound}
use Rattle.irtext_grammar.specs.Grammar.Section.{Item, direct, reference, Entry, of_item, of_once}
use Rattle.irtext_grammar.specs.Names.Acts.{tree_script, item_acts, reference_acts, entry_acts, late_acts, section_acts, root_script, Rule, rule_of}
use Rattle.irtext_grammar.specs.Graphs.Build.{BuiltOp, BuiltBlock, Built, build}
use Rattle.irtext_grammar.specs.Graphs.Links.{OpLinked, Linked, links_from, op_links, region_links, block_links, operation_links, links}
use Rattle.irtext_grammar.specs.Names.Placeholders.{In}
use Rattle.irtext_grammar.proofs.Lists.Sets.{Same, same_path, same_then, in_left}
use Rattle.irtext_grammar.proofs.Names.UsesMean.{each_in, in_each, in_link, in_both, acts_meant, meant, meant_all, bound_meant, all_mean}
use Rattle.irtext_grammar.proofs.Lists.Numbering.{numbered}
use Rattle.irtext_grammar.proofs.Graphs.Slots.{op_slots, region_slots, block_slots, operation_slots, slots, nothing_both}
use Rattle.irtext_grammar.proofs.Graphs.Bindings.{tree_walk}
use Rattle.irtext_grammar.proofs.Grammar.PartsOfFormats.{Formed}
use Rattle.irtext_grammar.proofs.Lists.Each.{each_left, each_right}

-- the links have what the slots have
abbrev LinksAs : User → Place → List (User × Place) → List (User × Option Place) → Type 0
LinksAs u q ls ss = In (u, q) ls ↔ In (u, Some q) ss

linked_from : (u : User) (q : Place) (user : ℕ → User) (k : ℕ) (os : List (Option Place)) → LinksAs u q (links_from user k os) (numbered user k os)
linked_from u q user k [] = ((λ h. h), (λ h. h))
linked_from u q user k (o ∷ os) = in_both (u, q) (u, Some q) (link (user k) o) (links_from user (suc k) os) ((user k, o) ∷ []) (numbered user (suc k) os) (in_link u (user k) o q) (linked_from u q user (suc k) os)

module _ {T A X : Type 0} (u : User) (q : Place) where
  linked_op : (p : Path) (o : BuiltOp T A X) → LinksAs u q (op_links p o) (op_slots p o)
  linked_op p o = in_both (u, q) (u, Some q) _ _ _ _ (linked_from u q (operand p) 0 o.operands) (linked_from u q (successor p) 0 o.successors)

  mutual
    linked_regions : (p : Path) (j : ℕ) (rs : Regions (BuiltOp T A X) (BuiltBlock T A X) ⊤) → LinksAs u q (region_links p j rs) (region_slots p j rs)
    linked_regions p j no_regions = ((λ h. h), (λ h. h))
    linked_regions p j (region r bs rs) = in_both (u, q) (u, Some q) _ _ _ _ (linked_blocks (j ∷ p) 0 bs) (linked_regions p (suc j) rs)

    linked_blocks : (p : Path) (k : ℕ) (bs : Blocks (BuiltOp T A X) (BuiltBlock T A X) ⊤) → LinksAs u q (block_links p k bs) (block_slots p k bs)
    linked_blocks p k no_blocks = ((λ h. h), (λ h. h))
    linked_blocks p k (block h os bs) = in_both (u, q) (u, Some q) _ _ _ _ (linked_operations (k ∷ p) 0 os) (linked_blocks p (suc k) bs)

    linked_operations : (p : Path) (i : ℕ) (os : Operations (BuiltOp T A X) (BuiltBlock T A X) ⊤) → LinksAs u q (operation_links p i os) (operation_slots p i os)
    linked_operations p i no_operations = ((λ h. h), (λ h. h))
    linked_operations p i (operation o rs os) = in_both (u, q) (u, Some q) _ _ _ _ (in_both (u, q) (u, Some q) _ _ _ _ (linked_op (i ∷ p) o) (linked_regions (i ∷ p) 0 rs)) (linked_operations p (suc i) os)

  linked : (b : Built T A X) → LinksAs u q (links b) (slots b)
  linked b = in_both (u, q) (u, Some q) _ _ _ _ (linked_op [] b.own) (linked_regions [] 0 b.regions)

-- ---- each holds something
abbrev Means : User × Option Place → Type 0
Means e = is_some e.1 ≡ true

means_there : (u : ℕ → User) (k : ℕ) (xs : List (Option Place)) → Each Means (numbered u k xs) → list_all is_some xs ≡ true
means_there u k [] h = refl
means_there u k (x ∷ xs) h = ap (λ b. b && list_all is_some xs) h.0 ∙ means_there u (suc k) xs h.1

module _ {T A X : Type 0} where
  op_holds : (p : Path) (o : BuiltOp T A X) → Each Means (op_slots p o) → OpLinked o
  op_holds p o h = (
    means_there (operand p) 0 o.operands (each_left Means (numbered (operand p) 0 o.operands) (numbered (successor p) 0 o.successors) h),
    means_there (successor p) 0 o.successors (each_right Means (numbered (operand p) 0 o.operands) (numbered (successor p) 0 o.successors) h),
  )

  mutual
    regions_hold : (p : Path) (j : ℕ) (rs : Regions (BuiltOp T A X) (BuiltBlock T A X) ⊤) → Each Means (region_slots p j rs) → AllRegions OpLinked (λ b. ⊤) (λ r. ⊤) rs
    regions_hold p j no_regions h = tt
    regions_hold p j (region r bs rs) h =
        (tt, blocks_hold (j ∷ p) 0 bs (each_left Means (block_slots (j ∷ p) 0 bs) (region_slots p (suc j) rs) h), regions_hold p (suc j) rs (each_right Means (block_slots (j ∷ p) 0 bs) (region_slots p (suc j) rs) h))

    blocks_hold : (p : Path) (k : ℕ) (bs : Blocks (BuiltOp T A X) (BuiltBlock T A X) ⊤) → Each Means (block_slots p k bs) → AllBlocks OpLinked (λ b. ⊤) (λ r. ⊤) bs
    blocks_hold p k no_blocks h = tt
    blocks_hold p k (block g os bs) h =
        (tt, operations_hold (k ∷ p) 0 os (each_left Means (operation_slots (k ∷ p) 0 os) (block_slots p (suc k) bs) h), blocks_hold p (suc k) bs (each_right Means (operation_slots (k ∷ p) 0 os) (block_slots p (suc k) bs) h))

    operations_hold : (p : Path) (i : ℕ) (os : Operations (BuiltOp T A X) (BuiltBlock T A X) ⊤) → Each Means (operation_slots p i os) → AllOperations OpLinked (λ b. ⊤) (λ r. ⊤) os
    operations_hold p i no_operations h = tt
    operations_hold p i (operation o rs os) h =
        let own = op_slots (i ∷ p) o in
        let inner = region_slots (i ∷ p) 0 rs in
        let later = operation_slots p (suc i) os in
        let now = each_left Means (own ++ inner) later h in
        (op_holds (i ∷ p) o (each_left Means own inner now), regions_hold (i ∷ p) 0 rs (each_right Means own inner now), operations_hold p (suc i) os (each_right Means (own ++ inner) later h))

  each_holds : (b : Built T A X) → Each Means (slots b) → Linked b
  each_holds b h = (op_holds [] b.own (each_left Means (op_slots [] b.own) (region_slots [] 0 b.regions) h), regions_hold [] 0 b.regions (each_right Means (op_slots [] b.own) (region_slots [] 0 b.regions) h))

-- ---- a section says nothing to operands and successors
module _ (v l : List (Fact Text)) where
  abbrev Silent : {P : Type 0} → List (Act Text P) → Type 0
  Silent acts = acts_meant same_text v l acts ≡ []

  silent_both : {P : Type 0} → (xs ys : List (Act Text P)) → Silent xs → Silent ys → Silent (xs ++ ys)
  silent_both xs ys = nothing_both v l xs ys

  silent_items : {P A : Type 0} → (rule : Rule A) (es : List (Name P × Item P A)) → Silent (flat_map (item_acts rule) es)
  silent_items rule [] = refl
  silent_items rule ((n, direct a) ∷ es) = silent_items rule es
  silent_items rule ((n, reference m) ∷ es) = silent_items rule es

  silent_entries : {P A X : Type 0} → (rules : ℕ → Rule A) (es : List (Entry P A X)) → Silent (flat_map (entry_acts rules) es)
  silent_entries rules [] = refl
  silent_entries rules (of_item m x items ∷ es) = silent_both (flat_map (item_acts (rules m.index)) items) (flat_map (entry_acts rules) es) (silent_items (rules m.index) items) (silent_entries rules es)
  silent_entries rules (of_once m a ∷ es) = silent_entries rules es

  silent_references : {P A X : Type 0} → (rule : Rule A) (all : List (Entry P A X)) (es : List (Name P × Item P A)) → Silent (flat_map (reference_acts rule all) es)
  silent_references rule all [] = refl
  silent_references rule all ((n, direct a) ∷ es) = silent_references rule all es
  silent_references rule all ((n, reference m) ∷ es) = silent_references rule all es

  silent_late : {P A X : Type 0} → (rules : ℕ → Rule A) (all es : List (Entry P A X)) → Silent (flat_map (late_acts rules all) es)
  silent_late rules all [] = refl
  silent_late rules all (of_item m x items ∷ es) = silent_both (flat_map (reference_acts (rules m.index) all) items) (flat_map (late_acts rules all) es) (silent_references (rules m.index) all items) (silent_late rules all es)
  silent_late rules all (of_once m a ∷ es) = silent_late rules all es

  section_means_nothing : {P A X : Type 0} → (rules : ℕ → Rule A) (es : List (Entry P A X)) → meant same_text v l (does_all (section_acts rules es) done) ≡ []
  section_means_nothing rules es =
      meant_all same_text v l (section_acts rules es) done
      ∙ (append-nil (acts_meant same_text v l (section_acts rules es)) ∙ silent_both (flat_map (entry_acts rules) es) (flat_map (late_acts rules es) es) (silent_entries rules es) (silent_late rules es es))

module _ {P T A X : Type 0} (isolated : Id → Bool) (first : P → X) (es : List (Entry P A X)) (t : Tree P T A) (f : Formed t) where
  -- what is bound is what the graph's links are
  pub bound_linked : (u : User) (q : Place) → In (u, q) (bound same_text [] [] (root_script isolated t es)) ↔ In (u, q) (links (build isolated first es t))
  bound_linked u q =
      let g = build isolated first es t in
      let b = bound_meant same_text [] [] (root_script isolated t es) u q in
      let w : Same (meant same_text [] [] (root_script isolated t es)) (slots g) =
      same_then (tree_walk isolated first es t (does_all (section_acts (rule_of t) es) done) f) (same_path _ _ (ap (λ z. slots g ++ z) (section_means_nothing [] [] (rule_of t) es) ∙ append-nil (slots g))) in
      let s = linked u q g in
      ((λ h. s.1 (w.into (u, Some q) (b.0 h))), (λ h. b.1 (w.back (u, Some q) (s.0 h))))

  -- each operand and successor of a tree that resolves holds something
  pub all_there : (x : Script Text P) → failures same_text no_scope (tree_script isolated t x) ≡ [] → Linked (build isolated first es t)
  all_there x e =
      let g = build isolated first es t in
      let m = all_mean same_text no_scope [] [] (tree_script isolated t x) e tt tt in
      let w = tree_walk isolated first es t x f in
      each_holds g (in_each Means (slots g) (λ z i. each_in Means (meant same_text [] [] (tree_script isolated t x)) m z (w.back z (in_left z (slots g) (meant same_text [] [] x) i))))
