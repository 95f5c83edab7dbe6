-- A root and its section have no failure exactly if they resolve.
use Rattle.std.proofs.Common.{◌≡◌, Bool, true, false, ◌==◌, List, [], ◌∷◌, ◌++◌, map, refl, sym, ap, ◌∙◌, subst}
use Rattle.irtext_base.specs.Text.{Text}
use Rattle.irtext_base.specs.Format.{Id, same_text, distinct}
use Rattle.irtext_grammar.specs.Spelling.Spellable.{Each}
use Rattle.irtext_grammar.specs.Grammar.Forest.{Regions, no_regions, region, no_operations, operation}
use Rattle.irtext_grammar.specs.Grammar.Tree.{Name, Op, Head, Brace, Tree}
use Rattle.irtext_grammar.specs.Grammar.Section.{Entry}
use Rattle.irtext_grammar.specs.Names.Script.{entry, Script, done, does, within, does_all, follow}
use Rattle.irtext_grammar.specs.Names.Scopes.{Fact, uses, defines, ◌⊳◌, no_scope, outward, facts, failures}
use Rattle.irtext_grammar.specs.Spelling.Writable.{has_region}
use Rattle.irtext_grammar.specs.Names.Acts.{section_acts, tree_script, root_script, failures_of, region_scripts, rule_of}
use Rattle.irtext_grammar.specs.Names.Resolves.{texts, all_in_regions, all_in_blocks, shared, kept_inside, used_values, used_labels, marks_of, scopes_of, DefinesOnce, DefinesUsed, Resolves}
use Rattle.irtext_grammar.proofs.Names.Plainly.{both_empty, append_empty}
use Rattle.irtext_grammar.proofs.Names.Followed.{failures_follow}
use Rattle.irtext_grammar.proofs.Names.Following.{operation_follow, regions_follow}
use Rattle.irtext_grammar.proofs.Lists.Fresh.{fresh_distinct, distinct_fresh}
use Rattle.irtext_grammar.proofs.Names.ResolvedScript.{defined, used, Entryless, Good, good_of, of_good}
use Rattle.irtext_grammar.proofs.Names.ResolvedSection.{section_resolves, resolves_section, same_number_symmetric}
use Rattle.irtext_grammar.proofs.Names.InScripts.{WholeOperations}
use Rattle.irtext_grammar.proofs.Names.TreeLists as lists
use Rattle.irtext_grammar.proofs.Names.TreeUses as uses
use Rattle.irtext_grammar.proofs.Names.TreeScopes.{root_scopes}
use Rattle.irtext_grammar.proofs.Names.TreeClaims.{root_claims, root_entryless, root_outer}
use Rattle.irtext_grammar.proofs.Lists.Each.{each_right}

module _ {P : Type 0} where
  no_entries : (x : Script Text P) → Entryless x → (facts same_text x).entries ≡ []
  no_entries done n = refl
  no_entries (does (entry i p) k) n = absurd n
  no_entries (within true p body k) n = append_empty (facts same_text body).entries (facts same_text k).entries (no_entries body n.0) (no_entries k n.1)
  no_entries (within false p body k) n = append_empty (facts same_text body).entries (facts same_text k).entries (no_entries body n.0) (no_entries k n.1)
  no_entries (does _ k) n = no_entries k n

-- ---- nothing outside
is_empty : {X : Type 0} (x : X) (xs : List X) → x ∷ xs ≡ [] → ⊥
is_empty x xs e = cc

no_facts : (fs : List (Fact Text)) → defined fs ≡ [] → Each (λ n. ⊥) (used fs) → fs ≡ []
no_facts [] e u = refl
no_facts (uses n p ∷ fs) e u = absurd u.0
no_facts (defines n p ∷ fs) e u = absurd (is_empty n (defined fs) e)

each_none : (xs : List Text) → Each (λ n. ⊥) xs → xs ≡ []
each_none [] e = refl
each_none (x ∷ xs) e = absurd e.0

none_each : (xs : List Text) → xs ≡ [] → Each (λ n. ⊥) xs
none_each xs e = subst (Each (λ n. ⊥)) (sym e) tt

no_texts : {P : Type 0} (ns : List (Name P)) → texts ns ≡ [] → ns ≡ []
no_texts [] e = refl
no_texts (n ∷ ns) e = absurd (is_empty n.text (texts ns) e)

each_zip : {X : Type 0} (Q R : X → Type 0) (xs : List X) → Each (λ x. Q x × R x) xs → Each Q xs × Each R xs
each_zip Q R [] e = (tt, tt)
each_zip Q R (x ∷ xs) e = let r = each_zip Q R xs e.1 in ((e.0.0, r.0), (e.0.1, r.1))

zip_each : {X : Type 0} (Q R : X → Type 0) (xs : List X) → Each Q xs → Each R xs → Each (λ x. Q x × R x) xs
zip_each Q R [] a b = tt
zip_each Q R (x ∷ xs) a b = ((a.0, b.0), zip_each Q R xs a.1 b.1)

module _ {P T A : Type 0} (isolated : Id → Bool) where
  -- a root whose regions are isolated says nothing of their values outside
  none_shared : {X : Type 0} (of_op : Op P T A → List X) (of_head : Head P T A → List X) (iso : Bool) (rs : Regions (Op P T A) (Head P T A) (Brace P)) → (has_region rs ≡ true → iso ≡ true) → all_in_regions isolated of_op of_head shared iso rs ≡ []
  none_shared of_op of_head iso no_regions e = refl
  none_shared of_op of_head iso (region brace bs rs) e =
      let q = e refl in
      let xs = all_in_blocks isolated of_op of_head shared bs in
      append_empty (shared iso xs) (all_in_regions isolated of_op of_head shared iso rs) (ap (λ b. shared b xs) q) (none_shared of_op of_head iso rs (λ h. q))

  none_kept : {X : Type 0} (of_op : Op P T A → List X) (of_head : Head P T A → List X) (iso : Bool) (rs : Regions (Op P T A) (Head P T A) (Brace P)) → all_in_regions isolated of_op of_head kept_inside iso rs ≡ []
  none_kept of_op of_head iso no_regions = refl
  none_kept of_op of_head iso (region brace bs rs) = none_kept of_op of_head iso rs

module _ {P T A X : Type 0} (isolated : Id → Bool) (t : Tree P T A) (es : List (Entry P A X)) (w : WholeOperations (operation t.own t.regions no_operations)) where
  abbrev x : Script Text P
  x = tree_script isolated t done

  abbrev R : {Y : Type 0} → (Op P T A → List Y) → (Head P T A → List Y) → (Bool → List Y → List Y) → List Y
  R of_op of_head outward = all_in_regions isolated of_op of_head outward (isolated t.own.id) t.regions

  root_parts : root_script isolated t es ≡ follow x (does_all (section_acts (rule_of t) es) done)
  root_parts = operation_follow [] t.own (region_scripts isolated [] 0 (isolated t.own.id) t.regions) done (does_all (section_acts (rule_of t) es) done) (regions_follow isolated [] 0 (isolated t.own.id) t.regions)

  parts_failures : failures_of isolated t es ≡ failures same_text no_scope x ++ failures same_text (no_scope ⊳ facts same_text x) (does_all (section_acts (rule_of t) es) done)
  parts_failures = ap (failures same_text no_scope) root_parts ∙ failures_follow same_text no_scope x (does_all (section_acts (rule_of t) es) done)

  marks_are : (facts same_text x).marks ≡ marks_of isolated t
  marks_are = lists.marks_in_root isolated t w

  entries_are : (facts same_text x).entries ≡ []
  entries_are = no_entries x (root_entryless isolated t w)

  nothing_outside : (facts same_text x).values ≡ [] → (facts same_text x).labels ≡ [] → (t.own.names ≡ []) × (used_values t.own ≡ []) × (used_labels t.own ≡ [])
  nothing_outside v l =
      let d = sym (lists.values_in_root isolated t w) ∙ ap defined v in
      let u = (uses.values_in_root isolated (λ n. ⊥) t w).to (none_each (used (facts same_text x).values) (ap used v)) in
      let m = (uses.labels_in_root isolated (λ n. ⊥) t w).to (none_each (used (facts same_text x).labels) (ap used l)) in (
        no_texts t.own.names (both_empty (R (λ o. texts o.names) (λ h. texts (map (λ a. a.0) h.arguments)) shared) (texts t.own.names) d).1,
        each_none (used_values t.own) (each_right (λ n. ⊥) (R used_values (λ h. []) shared) (used_values t.own) u),
        each_none (used_labels t.own) (each_right (λ n. ⊥) (R used_labels (λ h. []) kept_inside) (used_labels t.own) m),
      )

  no_values : (t.own.names ≡ []) → (used_values t.own ≡ []) → (has_region t.regions ≡ true → isolated t.own.id ≡ true) → (facts same_text x).values ≡ []
  no_values n u i =
      no_facts (facts same_text x).values
      (lists.values_in_root isolated t w ∙ append_empty (R (λ o. texts o.names) (λ h. texts (map (λ a. a.0) h.arguments)) shared) (texts t.own.names) (none_shared isolated (λ o. texts o.names) (λ h. texts (map (λ a. a.0) h.arguments)) (isolated t.own.id) t.regions i) (ap texts n))
      ((uses.values_in_root isolated (λ n. ⊥) t w).from (none_each (R used_values (λ h. []) shared ++ used_values t.own) (append_empty (R used_values (λ h. []) shared) (used_values t.own) (none_shared isolated used_values (λ h. []) (isolated t.own.id) t.regions i) u)))

  no_labels : used_labels t.own ≡ [] → (facts same_text x).labels ≡ []
  no_labels u =
      no_facts (facts same_text x).labels
      (lists.labels_in_root isolated t w ∙ ap (λ z. z ++ []) (none_kept isolated (λ o. []) (λ h. h.label.text ∷ []) (isolated t.own.id) t.regions))
      ((uses.labels_in_root isolated (λ n. ⊥) t w).from (none_each (R used_labels (λ h. []) kept_inside ++ used_labels t.own) (append_empty (R used_labels (λ h. []) kept_inside) (used_labels t.own) (none_kept isolated used_labels (λ h. []) (isolated t.own.id) t.regions) u)))

  -- a root without failures resolves
  pub resolves : failures_of isolated t es ≡ [] → Resolves isolated t es
  resolves e =
      let b = both_empty (failures same_text no_scope x) (failures same_text (no_scope ⊳ facts same_text x) (does_all (section_acts (rule_of t) es) done)) (sym parts_failures ∙ e) in
      let g = good_of no_scope x (root_entryless isolated t w) b.0 in
      let c = (root_claims isolated t w).to g.claims in
      let s = each_zip DefinesOnce DefinesUsed (scopes_of isolated t) ((root_scopes isolated t w).to g.scopes) in
      record {
        counts = c.0;
        keys = c.1;
        nothing_outside = nothing_outside g.values g.labels;
        is_isolated = (root_outer isolated t w).to (g.outer refl);
        once = s.0;
        known = s.1;
        marks = ap (distinct ◌==◌) (sym marks_are) ∙ fresh_distinct ◌==◌ same_number_symmetric (facts same_text x).marks g.marks;
        section = section_resolves (rule_of t) es (no_scope ⊳ facts same_text x) (marks_of isolated t) marks_are entries_are b.1;
      }

  -- a root that resolves has no failure
  pub not_refused : Resolves isolated t es → failures_of isolated t es ≡ []
  not_refused r =
      let g : Good no_scope x = record {
        claims = (root_claims isolated t w).from (r.counts, r.keys);
        values = no_values r.nothing_outside.0 r.nothing_outside.1 r.is_isolated;
        labels = no_labels r.nothing_outside.2;
        marks = distinct_fresh ◌==◌ same_number_symmetric (facts same_text x).marks (ap (distinct ◌==◌) marks_are ∙ r.marks);
        outer = λ e. (root_outer isolated t w).from r.is_isolated;
        scopes = (root_scopes isolated t w).from (zip_each DefinesOnce DefinesUsed (scopes_of isolated t) r.once r.known);
      } in
      parts_failures ∙ append_empty (failures same_text no_scope x) (failures same_text (no_scope ⊳ facts same_text x) (does_all (section_acts (rule_of t) es) done)) (of_good no_scope x (root_entryless isolated t w) g)
      (resolves_section (rule_of t) es (no_scope ⊳ facts same_text x) (marks_of isolated t) marks_are entries_are r.section)
