-- Places and locations say nothing to names: a root with its section resolves where it does without them.
use Rattle.std.proofs.Common.{◌≡◌, ℕ, Bool, true, false, cond, ◌==◌, List, [], ◌∷◌, ◌++◌, map, Option, Some, None, option_map, refl, sym, ap, ap₂, ◌∙◌}
use Rattle.std.specs.Prelude.{⊤, flat_map, is_some}
use Rattle.irtext_base.specs.Text.{Text}
use Rattle.irtext_base.specs.Format.{same_text, Id}
use Rattle.irtext_grammar.specs.Grammar.Forest.{Regions, no_regions, region, Blocks, no_blocks, block, Operations, no_operations, operation}
use Rattle.irtext_grammar.specs.Grammar.Tree.{Name, Mark, Attribute, Op, Head, Brace, Tree}
use Rattle.irtext_grammar.specs.Grammar.Bare.{bare_mark_if, bare_regions, bare_blocks, bare_operations, bare}
use Rattle.irtext_grammar.specs.Grammar.Section.{Item, direct, reference, Entry, of_item, of_once}
use Rattle.irtext_grammar.specs.Spelling.SectionEntries.{bare_pair, bare_section_entry, bare_section}
use Rattle.irtext_grammar.specs.Names.Script as script
use Rattle.irtext_grammar.specs.Names.Script.{Act, done, does_all, act_as, failure_as}
use Rattle.irtext_grammar.specs.Names.Scopes.{is_among, no_scope, failures}
use Rattle.irtext_grammar.specs.Names.Acts.{item_acts, shared_attribute, keeps_if, entry_acts, reference_acts, late_acts, section_acts, tree_script, root_script, failures_of, Rule, marked_as, block_marks_in_regions, block_marks_in_blocks, block_marks_in_operations, rule_of, may_hold, keeps_label_key}
use Rattle.irtext_grammar.specs.Graphs.Contents.{as_text}
use Rattle.irtext_grammar.specs.Graphs.Build.{resolved, content_in, content}
use Rattle.irtext_grammar.proofs.Names.Natural.{map_both, failures_natural}
use Rattle.irtext_grammar.proofs.Graphs.BareScript.{same_itself, any_script, E, tree_bare, does_bare, nothing_left}

module _ {P : Type 0} where
  abbrev B : Act Text P → Act Text ⊤
  B a = act_as (λ n. n) (λ p. tt) a

  flat_bare : {U V : Type 0} (F : U → List (Act Text P)) (G : V → List (Act Text ⊤)) (h : U → V) → ((u : U) → G (h u) ≡ map B (F u)) → (us : List U) → flat_map G (map h us) ≡ map B (flat_map F us)
  flat_bare F G h e [] = refl
  flat_bare F G h e (u ∷ us) = ap₂ ◌++◌ (e u) (flat_bare F G h e us) ∙ sym (map_both B (F u) (flat_map F us))

  item_bare : {A : Type 0} (rule : Rule A) (e : Name P × Item P A) → item_acts rule (bare_pair e) ≡ map B (item_acts rule e)
  item_bare rule (n, direct a) = refl
  item_bare rule (n, reference m) = refl

module _ {P A X Y : Type 0} (text : X → Y) where
  -- a section without its places has the same attributes that are written once
  pub once_bare : (i : ℕ) (es : List (Entry P A X)) → shared_attribute i (bare_section text es) ≡ shared_attribute i es
  once_bare i [] = refl
  once_bare i (of_item m x items ∷ es) = once_bare i es
  once_bare i (of_once m a ∷ es) = ap (λ o. elim o [ Some b ↦ Some b | None ↦ cond (m.index == i) (Some a) None ]) (once_bare i es)

  entry_bare : (rules : ℕ → Rule A) (e : Entry P A X) → entry_acts rules (bare_section_entry text e) ≡ map B (entry_acts rules e)
  entry_bare rules (of_item m x items) = ap (λ z. script.entry m.index tt ∷ z) (flat_bare (item_acts (rules m.index)) (item_acts (rules m.index)) bare_pair (item_bare (rules m.index)) items)
  entry_bare rules (of_once m a) = refl

  reference_bare : (rule : Rule A) (all : List (Entry P A X)) (e : Name P × Item P A) → reference_acts rule (bare_section text all) (bare_pair e) ≡ map B (reference_acts rule all e)
  reference_bare rule all (n, direct a) = refl
  reference_bare rule all (n, reference m) = ap (λ o. script.claim (is_some o) (record { cause = script.UnknownPrintOnce m.index; at = Some tt }) ∷ script.claim (keeps_if rule n.text o) (record { cause = script.ReservedKey n.text; at = Some tt }) ∷ []) (once_bare m.index all)

  late_bare : (rules : ℕ → Rule A) (all : List (Entry P A X)) (e : Entry P A X) → late_acts rules (bare_section text all) (bare_section_entry text e) ≡ map B (late_acts rules all e)
  late_bare rules all (of_item m x items) = flat_bare (reference_acts (rules m.index) all) (reference_acts (rules m.index) (bare_section text all)) bare_pair (reference_bare (rules m.index) all) items
  late_bare rules all (of_once m a) = refl

  section_bare : (rules : ℕ → Rule A) (es : List (Entry P A X)) → section_acts rules (bare_section text es) ≡ map B (section_acts rules es)
  section_bare rules es = ap₂ ◌++◌ (flat_bare (entry_acts rules) (entry_acts rules) (bare_section_entry text) (entry_bare rules) es) (flat_bare (late_acts rules es) (late_acts rules (bare_section text es)) (bare_section_entry text) (late_bare rules es) es)
      ∙ sym (map_both B (flat_map (entry_acts rules) es) (flat_map (late_acts rules es) es))

  resolved_bare : (all : List (Entry P A X)) (e : Name P × Item P A) → resolved (bare_section text all) (bare_pair e) ≡ resolved all e
  resolved_bare all (n, direct a) = refl
  resolved_bare all (n, reference m) = ap (λ o. elim o [ Some a ↦ (n.text, a) ∷ [] | None ↦ [] ]) (once_bare m.index all)

  all_resolved : (all : List (Entry P A X)) (items : List (Name P × Item P A)) → flat_map (resolved (bare_section text all)) (map bare_pair items) ≡ flat_map (resolved all) items
  all_resolved all [] = refl
  all_resolved all (e ∷ items) = ap₂ ◌++◌ (resolved_bare all e) (all_resolved all items)

  content_in_bare : (all es : List (Entry P A X)) (i : ℕ) → content_in (bare_section text all) (bare_section text es) i ≡ option_map (as_text text) (content_in all es i)
  content_in_bare all [] i = refl
  content_in_bare all (of_once m a ∷ es) i = content_in_bare all es i
  content_in_bare all (of_item m x items ∷ es) i =
      ap₂ (λ c o. cond (m.index == i) (Some (option_map text x, c)) o) (all_resolved all items) (content_in_bare all es i) ∙ go (m.index == i) (flat_map (resolved all) items) (content_in all es i)
    where
      go : (b : Bool) (c : List (Text × Attribute A)) (o : Option (Option X × List (Text × Attribute A))) → cond b (Some (option_map text x, c)) (option_map (as_text text) o) ≡ option_map (as_text text) (cond b (Some (x, c)) o)
      go true c o = refl
      go false c o = refl

  -- a mark's content without places is its content where there are none
  pub content_bare : (es : List (Entry P A X)) (m : Option (Mark P)) → content (bare_section text es) (bare_mark_if m) ≡ option_map (as_text text) (content es m)
  content_bare es None = refl
  content_bare es (Some m) = content_in_bare es es m.index

-- the marks of a tree's blocks are those of the tree without places
marked_bare : {P : Type 0} (m : Option (Mark P)) → marked_as m ≡ marked_as (bare_mark_if m)
marked_bare None = refl
marked_bare (Some m) = refl

module _ {P T A : Type 0} where
  mutual
    regions_marks_bare : (rs : Regions (Op P T A) (Head P T A) (Brace P)) → block_marks_in_regions rs ≡ block_marks_in_regions (bare_regions rs)
    regions_marks_bare no_regions = refl
    regions_marks_bare (region r bs rs) = ap₂ ◌++◌ (blocks_marks_bare bs) (regions_marks_bare rs)

    blocks_marks_bare : (bs : Blocks (Op P T A) (Head P T A) (Brace P)) → block_marks_in_blocks bs ≡ block_marks_in_blocks (bare_blocks bs)
    blocks_marks_bare no_blocks = refl
    blocks_marks_bare (block h os bs) = ap₂ ◌++◌ (marked_bare h.mark) (ap₂ ◌++◌ (operations_marks_bare os) (blocks_marks_bare bs))

    operations_marks_bare : (os : Operations (Op P T A) (Head P T A) (Brace P)) → block_marks_in_operations os ≡ block_marks_in_operations (bare_operations os)
    operations_marks_bare no_operations = refl
    operations_marks_bare (operation o rs os) = ap₂ ◌++◌ (regions_marks_bare rs) (operations_marks_bare os)

  rules_bare : (t : Tree P T A) → rule_of t ≡ rule_of (bare t)
  rules_bare t = ap (λ ms i. cond (is_among i ms) keeps_label_key may_hold) (regions_marks_bare t.regions)

module _ {P T A X Y : Type 0} (text : X → Y) (isolated : Id → Bool) where
  root_bare : (t : Tree P T A) (es : List (Entry P A X)) → E (root_script isolated t es) ≡ root_script isolated (bare t) (bare_section text es)
  root_bare t es =
      tree_bare isolated t (does_all (section_acts (rule_of t) es) done)
      ∙ ap (tree_script isolated (bare t)) (does_bare (section_acts (rule_of t) es) done ∙ ap (λ z. does_all z done) (sym (section_bare text (rule_of t) es) ∙ ap (λ z. section_acts z (bare_section text es)) (rules_bare t)))

  -- a root with its section resolves where it does without places
  pub root_resolves_bare : (t : Tree P T A) (es : List (Entry P A X)) → failures_of isolated (bare t) (bare_section text es) ≡ [] → failures_of isolated t es ≡ []
  root_resolves_bare t es e =
      nothing_left (failure_as (λ n. n) (λ p. tt)) (failures_of isolated t es)
      (sym (failures_natural (λ n. n) (λ (p : P). tt) same_text same_text (λ n. ⊤) same_itself no_scope (root_script isolated t es) (record { values = tt; labels = tt }) (any_script (root_script isolated t es)))
      ∙ (ap (failures same_text no_scope) (root_bare t es) ∙ e))
