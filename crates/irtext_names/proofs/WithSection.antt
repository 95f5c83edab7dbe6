-- A root with its section: the failures of both are the failures of the tree, and then those of the section; and the items of the tree,
-- with what the section gives them, are what both build.
use Rattle.std.proofs.Common.{◌≡◌, ◌∙◌, ℕ, zero, suc, Bool, true, false, ◌||◌, List, [], ◌∷◌, ◌++◌, length, Option, Some, None, IsSome, option_map, is_some, refl, sym, ap, ap₂, inl, inr}
use Rattle.irtext_base.specs.Text.{Text}
use Rattle.irtext_base.specs.Format.{same_text, Id}
use Rattle.irtext_base.specs.Paths.{Written, KeepsPaths}
use Rattle.irtext_context.specs.Context.{ContextView, operation}
use Rattle.irtext_graph.specs.declared.arena.Ptr.{Ptr}
use Rattle.irtext_graph.specs.declared.object.Operation.{Operation}
use Rattle.irtext_graph.specs.declared.object.BasicBlock.{BasicBlock}
use Rattle.irtext_graph.specs.declared.object.Region.{Region}
use Rattle.irtext_graph.specs.declared.object.Object.{Object}
use Rattle.irtext_graph.specs.declared.object.Site.TheVariants.{AtOperand, AtSuccessor}
use Rattle.irtext_graph.specs.Graph.{GraphView, CountsOn, parent}
use Rattle.irtext_graph.specs.Nested.{climb}
use Rattle.irtext_graph.specs.Parts.{regions, blocks, operations_in}
use Rattle.irtext_graph.specs.Store.{get}
use Rattle.irtext_grammar.specs.Contexts.Nested.{operations_by, blocks_by, regions_by, within, pointers}
use Rattle.irtext_grammar.specs.Grammar.Forest as forest
use Rattle.irtext_grammar.specs.Grammar.Forest.{Regions, no_regions, Blocks, no_blocks, Operations, no_operations}
use Rattle.irtext_grammar.specs.Grammar.Marked.{regions_marked, blocks_marked, operations_marked, marked}
use Rattle.irtext_grammar.specs.Grammar.Reads as grammar
use Rattle.irtext_grammar.specs.Grammar.Section.{Entry}
use Rattle.irtext_grammar.specs.Grammar.Tree.{Mark, Op, Head, Brace, Tree}
use Rattle.irtext_grammar.specs.Graphs.Build.{build}
use Rattle.irtext_grammar.specs.Graphs.Links.{Linked, links}
use Rattle.irtext_grammar.specs.Names.Acts.{tree_script, root_script, section_acts, region_scripts, rule_of, failures_of, marked_as}
use Rattle.irtext_grammar.specs.Names.Resolves.{all_in_regions, all_in_blocks, all_in_operations, everywhere}
use Rattle.irtext_grammar.specs.Names.Scopes.{no_scope, facts, failures}
use Rattle.irtext_grammar.specs.Names.Script.{Script, entry, done, does, does_all, follow}
use Rattle.irtext_grammar.specs.Names.Script as script
use Rattle.irtext_grammar.proofs.Names.Followed.{failures_follow}
use Rattle.irtext_grammar.proofs.Names.Following.{operation_follow, regions_follow}
use Rattle.irtext_grammar.proofs.Names.InScripts.{WholeOperations}
use Rattle.irtext_grammar.proofs.Names.Plainly.{append_empty}
use Rattle.irtext_grammar.proofs.Names.ResolvedScript.{Entryless}
use Rattle.irtext_grammar.proofs.Names.TreeClaims.{root_entryless}
use Rattle.irtext_grammar.proofs.Names.TreeLists.{marks_in_root}
use Rattle.irtext_grammar.specs.Promises.Section.{is_noted}
use Rattle.irtext_names.specs.Given.{RootHas}
use Rattle.irtext_names.specs.Held.{placed_under, held_root, held_op, held_regions}
use Rattle.irtext_names.specs.OnlyNew.{OnlyNew}
use Rattle.irtext_names.specs.WithSection.{refused, SameShape}
use Rattle.irtext_names.proofs.Equal.{Keeps, root_same}
use Rattle.irtext_graph.proofs.Marks.{counts_on}

-- ---- what is wrong
module _ {P : Type 0} where
  no_entries : (x : Script Text P) → Entryless x → (facts same_text x).entries ≡ []
  no_entries done n = refl
  no_entries (does (entry i p) k) n = absurd n
  no_entries (script.within true p body k) n = append_empty (facts same_text body).entries (facts same_text k).entries (no_entries body n.0) (no_entries k n.1)
  no_entries (script.within false p body k) n = append_empty (facts same_text body).entries (facts same_text k).entries (no_entries body n.0) (no_entries k n.1)
  no_entries (does _ k) n = no_entries k n

module _ {P T A X : Type 0} (isolated : Id → Bool) (t : Tree P T A) (es : List (Entry P A X)) (w : WholeOperations (forest.operation t.own t.regions no_operations)) where
  abbrev of_tree : Script Text P
  of_tree = tree_script isolated t done

  abbrev of_section : Script Text P
  of_section = does_all (section_acts (rule_of t) es) done

  root_parts : root_script isolated t es ≡ follow of_tree of_section
  root_parts = operation_follow [] t.own (region_scripts isolated [] 0 (isolated t.own.id) t.regions) done of_section (regions_follow isolated [] 0 (isolated t.own.id) t.regions)

  -- the failures of a root and its section are those of the tree, and then those of the section after the tree's marks
  pub section_failures : failures_of isolated t es ≡ failures same_text no_scope of_tree ++ refused (facts same_text of_tree).marks (rule_of t) es
  section_failures =
      ap (failures same_text no_scope) root_parts
      ∙ (failures_follow same_text no_scope of_tree of_section
      ∙ ap (λ ns. failures same_text no_scope of_tree ++ failures same_text (record { values = None; labels = None; marks = (facts same_text of_tree).marks; entries = ns }) of_section) (no_entries of_tree (root_entryless isolated t w)))

  -- where nothing is wrong in the tree, it is what is wrong in the section
  pub section_alone : failures same_text no_scope of_tree ≡ [] → failures_of isolated t es ≡ refused (facts same_text of_tree).marks (rule_of t) es
  section_alone e = section_failures ∙ ap (λ fs. fs ++ refused (facts same_text of_tree).marks (rule_of t) es) e

-- ---- whether a tree has a mark
noted_both : {X : Type 0} (xs ys : List X) → is_noted (xs ++ ys) ≡ (is_noted xs || is_noted ys)
noted_both [] ys = refl
noted_both (x ∷ xs) ys = refl

noted_mark : {P : Type 0} (m : Option (Mark P)) → is_noted (marked_as m) ≡ is_some m
noted_mark None = refl
noted_mark (Some m) = refl

or_join : (a b c : Bool) → (a || (b || c)) ≡ ((a || b) || c)
or_join true b c = refl
or_join false b c = refl

or_flip : (a b : Bool) → (a || b) ≡ (b || a)
or_flip true true = refl
or_flip true false = refl
or_flip false true = refl
or_flip false false = refl

module _ {P T A : Type 0} (isolated : Id → Bool) where
  abbrev of_op : Op P T A → List ℕ
  of_op o = marked_as o.mark

  abbrev of_head : Head P T A → List ℕ
  of_head h = marked_as h.mark

  mutual
    regions_noted : (iso : Bool) (rs : Regions (Op P T A) (Head P T A) (Brace P)) → is_noted (all_in_regions isolated of_op of_head everywhere iso rs) ≡ regions_marked rs
    regions_noted iso no_regions = refl
    regions_noted iso (forest.region brace bs rs) = noted_both (all_in_blocks isolated of_op of_head everywhere bs) (all_in_regions isolated of_op of_head everywhere iso rs) ∙ ap₂ ◌||◌ (blocks_noted bs) (regions_noted iso rs)

    blocks_noted : (bs : Blocks (Op P T A) (Head P T A) (Brace P)) → is_noted (all_in_blocks isolated of_op of_head everywhere bs) ≡ blocks_marked bs
    blocks_noted no_blocks = refl
    blocks_noted (forest.block h os bs) =
        noted_both (of_head h) (all_in_operations isolated of_op of_head everywhere os ++ all_in_blocks isolated of_op of_head everywhere bs)
        ∙ ap₂ ◌||◌ (noted_mark h.mark) (noted_both (all_in_operations isolated of_op of_head everywhere os) (all_in_blocks isolated of_op of_head everywhere bs) ∙ ap₂ ◌||◌ (operations_noted os) (blocks_noted bs))
        ∙ or_join (is_some h.mark) (operations_marked os) (blocks_marked bs)

    operations_noted : (os : Operations (Op P T A) (Head P T A) (Brace P)) → is_noted (all_in_operations isolated of_op of_head everywhere os) ≡ operations_marked os
    operations_noted no_operations = refl
    operations_noted (forest.operation o rs os) =
        let inside = all_in_regions isolated of_op of_head everywhere (isolated o.id) rs in
        let later = all_in_operations isolated of_op of_head everywhere os in
        noted_both (inside ++ of_op o) later
        ∙ ap₂ ◌||◌ (noted_both inside (of_op o) ∙ (ap₂ ◌||◌ (regions_noted (isolated o.id) rs) (noted_mark o.mark) ∙ or_flip (regions_marked rs) (is_some o.mark))) (operations_noted os)

  -- a tree has a mark exactly where one is recorded of it
  pub tree_noted : (t : Tree P T A) → WholeOperations (forest.operation t.own t.regions no_operations) → is_noted (facts same_text (tree_script isolated t done)).marks ≡ marked t
  tree_noted t w =
      let inside = all_in_regions isolated of_op of_head everywhere (isolated t.own.id) t.regions in
      ap is_noted (marks_in_root isolated t w) ∙ (noted_both inside (of_op t.own) ∙ (ap₂ ◌||◌ (regions_noted (isolated t.own.id) t.regions) (noted_mark t.own.mark) ∙ or_flip (regions_marked t.regions) (is_some t.own.mark)))

-- ---- the same forest of pointers
module _ {O B T : Type 0} (g k : GraphView O B T) (s : SameShape g k) where
  module _ (n : ℕ) (h : (p : Ptr Operation) → within k n p ≡ within g n p) where
    operations_by_same : (os : List (Ptr Operation)) → operations_by k (within k n) os ≡ operations_by g (within g n) os
    operations_by_same [] = refl
    operations_by_same (p ∷ os) = ap₂ (λ x y. forest.operation p x y) (h p) (operations_by_same os)

    blocks_by_same : (bs : List (Ptr BasicBlock)) → blocks_by k (within k n) bs ≡ blocks_by g (within g n) bs
    blocks_by_same [] = refl
    blocks_by_same (b ∷ bs) = ap₂ (λ x y. forest.block b x y) (ap (λ os. operations_by k (within k n) os) (s.same_operations b) ∙ operations_by_same (operations_in g b)) (blocks_by_same bs)

    regions_by_same : (rs : List (Ptr Region)) → regions_by k (within k n) rs ≡ regions_by g (within g n) rs
    regions_by_same [] = refl
    regions_by_same (r ∷ rs) = ap₂ (λ x y. forest.region r x y) (ap (λ bs. blocks_by k (within k n) bs) (s.same_blocks r) ∙ blocks_by_same (blocks g r)) (regions_by_same rs)

  inside_same : (n : ℕ) (p : Ptr Operation) → within k n p ≡ within g n p
  inside_same zero p = refl
  inside_same (suc n) p = ap (λ rs. regions_by k (within k n) rs) (s.same_regions p) ∙ regions_by_same n (inside_same n) (regions g p)

  pub pointers_same : (p : Ptr Operation) → pointers k p ≡ pointers g p
  pointers_same p = ap (λ rs. record { own = p; regions = rs }) (ap (λ n. within k (suc n) p) s.places ∙ inside_same (suc (length g.operations.cells)) p)

  -- what is nested inside is the same
  climb_same : (n : ℕ) (o : Option Object) → climb (parent k) n o ≡ climb (parent g) n o
  climb_same zero o = refl
  climb_same (suc n) None = refl
  climb_same (suc n) (Some q) = ap (climb (parent k) n) (s.same_parents q) ∙ climb_same n (parent g q)

-- ---- a context in which data of items changed
module _ {T A : Type 0} (mid new : ContextView T A) (shape : SameShape mid.graph new.graph) (first : ℕ → Written A) (isolated : Id → Bool) (op : Ptr Operation) (t : Tree ℕ T A) (es : List (Entry ℕ A (Written A))) where
  keeps_still : Keeps mid first es isolated (placed_under (pointers mid.graph op)) (links (build isolated first es t)) → Keeps new first es isolated (placed_under (pointers mid.graph op)) (links (build isolated first es t))
  keeps_still k = record {
    operands_keep = λ p r i q at l. let x = k.operands_keep p r i q at l in (x.0, shape.same_uses (AtOperand p i) ∙ x.1, x.2);
    successors_keep = λ p r i q at l. let x = k.successors_keep p r i q at l in (x.0, shape.same_uses (AtSuccessor p i) ∙ x.1, x.2);
  }

  -- what is under the pointer is what the tree builds with its section
  pub builds_given : Linked (build isolated first es t) → Keeps mid first es isolated (placed_under (pointers mid.graph op)) (links (build isolated first es t)) → RootHas new first es (pointers mid.graph op) t
      → held_root new op ≡ Some (build isolated first es t)
  builds_given linked keeps has =
      ap (λ ps. option_map (λ view. record { own = held_op new (placed_under ps) op view; regions = held_regions new (placed_under ps) ps.regions }) (operation new op)) (pointers_same mid.graph new.graph shape op)
      ∙ root_same new first es isolated (pointers mid.graph op) t has linked (keeps_still keeps)

-- still only the operation and what is nested in it is new
pub only_still : {T A : Type 0} (op : Ptr Operation) (old mid new : ContextView T A) → OnlyNew op old mid → SameShape mid.graph new.graph
    → ((p : Ptr Operation) → IsSome (get old.graph.operations p) → get new.graph.operations p ≡ get mid.graph.operations p)
    → ((b : Ptr BasicBlock) → IsSome (get old.graph.blocks b) → get new.graph.blocks b ≡ get mid.graph.blocks b)
    → ((r : Ptr Region) → IsSome (get old.graph.regions r) → get new.graph.regions r ≡ get mid.graph.regions r)
    → CountsOn mid.graph new.graph → KeepsPaths old.paths new.paths → new.dialects ≡ mid.dialects → OnlyNew op old new
only_still op old mid new only shape operations blocks regions counts paths dialects = record {
  live = λ q s. elim (only.live q (shape.was_live q s)) [ inl was ↦ inl was | inr i ↦ inr (i.0, climb_same mid.graph new.graph shape i.0 (Some q) ∙ i.1) ];
  is_new = λ q i s. only.is_new q (i.0, sym (climb_same mid.graph new.graph shape i.0 (Some q)) ∙ i.1) s;
  operations = λ p s. operations p s ∙ only.operations p s;
  blocks = λ b s. blocks b s ∙ only.blocks b s;
  regions = λ r s. regions r s ∙ only.regions r s;
  uses = λ d s there e. only.uses d s there (sym (shape.same_uses s) ∙ e);
  counts = counts_on old.graph mid.graph new.graph only.counts counts;
  paths = paths;
  dialects = dialects ∙ only.dialects;
}
