-- A section has no failure exactly if its entries, references and keys are right.
use Rattle.std.proofs.Common.{◌≡◌, ℕ, true, not, ◌&&◌, ◌==◌, List, [], ◌∷◌, ◌++◌, refl, sym, ap, ap₂, ◌∙◌, subst, append_assoc, append-nil, arith}
use Rattle.std.specs.Prelude.{⊤, flat_map}
use Rattle.std.proofs.lemmas.Bool.Decides.{nat_tests}
use Rattle.irtext_base.specs.Text.{Text}
use Rattle.irtext_base.specs.Format.{same_text, has}
use Rattle.irtext_base.proofs.Characters.{and_left, and_right}
use Rattle.irtext_grammar.specs.Spelling.Spellable.{Each}
use Rattle.irtext_grammar.specs.Grammar.Tree.{Name}
use Rattle.irtext_grammar.specs.Grammar.Section.{Item, direct, reference, Entry, of_item, of_once}
use Rattle.irtext_grammar.specs.Names.Script.{Act, entry, claim, done, does_all}
use Rattle.irtext_grammar.specs.Names.Scopes.{Scopes, ◌⊳◌, fact_of, is_among, act_failures, failures}
use Rattle.irtext_grammar.specs.Names.Acts.{item_acts, entry_acts, reference_acts, late_acts, section_acts, Rule}
use Rattle.irtext_grammar.specs.Names.Resolves.{items, indices, is_known, is_kept, SectionResolves, EntryKept}
use Rattle.irtext_grammar.proofs.Names.Plainly.{both_empty, append_empty}
use Rattle.irtext_grammar.proofs.Lists.Fresh.{Fresh, fresh_distinct, distinct_fresh, both, is_not, not_is}
use Rattle.irtext_grammar.proofs.Names.ResolvedScript.{among_has, if_nothing, nothing_if}
use Rattle.irtext_grammar.proofs.Lists.Each.{each_both, each_left, each_right}

-- the test of numbers goes both ways
pub same_number_symmetric : (m n : ℕ) → (m == n) ≡ (n == m)
same_number_symmetric m n = grind (arith, nat_tests)

module _ {P : Type 0} where
  -- an entry, or a claim
  abbrev Quiet : Act Text P → Type 0
  Quiet (entry i p) = ⊤
  Quiet (claim b x) = ⊤
  Quiet _ = ⊥

  abbrev Holds : Act Text P → Type 0
  Holds (claim b x) = b ≡ true
  Holds _ = ⊤

  abbrev index_of : Act Text P → List ℕ
  index_of (entry i p) = i ∷ []
  index_of _ = []

  -- what entries and claims require, after these marks and these entries
  abbrev Right : List ℕ → List ℕ → List (Act Text P) → Type 0
  Right ms ns acts = Each Holds acts × Fresh ◌==◌ ns (flat_map index_of acts) × Each (λ i. has ◌==◌ i ms ≡ true) (flat_map index_of acts)

  right_of : (s : Scopes Text) (ms ns : List ℕ) → s.marks ≡ ms → s.entries ≡ ns → (acts : List (Act Text P)) → Each Quiet acts → failures same_text s (does_all acts done) ≡ [] → Right ms ns acts
  right_of s ms ns em en [] q e = (tt, tt, tt)
  right_of s ms ns em en (entry i p ∷ acts) q e =
      let b = both_empty (act_failures same_text s (entry i p)) (failures same_text (s ⊳ fact_of (entry i p)) (does_all acts done)) e in
      let c = if_nothing (is_among i s.marks && not (is_among i s.entries)) _ b.0 in
      let r = right_of (s ⊳ fact_of (entry i p)) ms (ns ++ i ∷ []) (append-nil s.marks ∙ em) (ap (λ z. z ++ i ∷ []) en) acts q.1 b.1 in (
        (tt, r.0),
        (sym (among_has i ns) ∙ (ap (is_among i) (sym en) ∙ is_not (is_among i s.entries) (and_right (is_among i s.marks) (not (is_among i s.entries)) c)), r.1),
        (sym (among_has i ms) ∙ (ap (is_among i) (sym em) ∙ and_left (is_among i s.marks) (not (is_among i s.entries)) c), r.2),
      )
  right_of s ms ns em en (claim t x ∷ acts) q e =
      let b = both_empty (act_failures same_text s (claim t x)) (failures same_text (s ⊳ fact_of (claim t x)) (does_all acts done)) e in
      let r = right_of (s ⊳ fact_of (claim t x)) ms ns (append-nil s.marks ∙ em) (append-nil s.entries ∙ en) acts q.1 b.1 in
      ((if_nothing t x b.0, r.0), r.1, r.2)
  right_of s ms ns em en (_ ∷ acts) q e = absurd q.0

  of_right : (s : Scopes Text) (ms ns : List ℕ) → s.marks ≡ ms → s.entries ≡ ns → (acts : List (Act Text P)) → Each Quiet acts → Right ms ns acts → failures same_text s (does_all acts done) ≡ []
  of_right s ms ns em en [] q r = refl
  of_right s ms ns em en (entry i p ∷ acts) q r =
      let c = both (is_among i s.marks) (not (is_among i s.entries)) (ap (is_among i) em ∙ (among_has i ms ∙ r.2.0)) (not_is (is_among i s.entries) (ap (is_among i) en ∙ (among_has i ns ∙ r.1.0))) in
      append_empty (act_failures same_text s (entry i p)) (failures same_text (s ⊳ fact_of (entry i p)) (does_all acts done)) (nothing_if (is_among i s.marks && not (is_among i s.entries)) _ c)
      (of_right (s ⊳ fact_of (entry i p)) ms (ns ++ i ∷ []) (append-nil s.marks ∙ em) (ap (λ z. z ++ i ∷ []) en) acts q.1 (r.0.1, r.1.1, r.2.1))
  of_right s ms ns em en (claim t x ∷ acts) q r =
      append_empty (act_failures same_text s (claim t x)) (failures same_text (s ⊳ fact_of (claim t x)) (does_all acts done)) (nothing_if t x r.0.0)
      (of_right (s ⊳ fact_of (claim t x)) ms ns (append-nil s.marks ∙ em) (append-nil s.entries ∙ en) acts q.1 (r.0.1, r.1, r.2))
  of_right s ms ns em en (_ ∷ acts) q r = absurd q.0

-- what is gathered of two lists joined
pub flat_both : {X Y : Type 0} (f : X → List Y) (xs ys : List X) → flat_map f (xs ++ ys) ≡ flat_map f xs ++ flat_map f ys
flat_both f [] ys = refl
flat_both f (x ∷ xs) ys = ap (λ z. f x ++ z) (flat_both f xs ys) ∙ sym (append_assoc (f x) (flat_map f xs) (flat_map f ys))

module _ {P A X : Type 0} (rules : ℕ → Rule A) (all : List (Entry P A X)) where
  abbrev Pair : Type 0
  Pair = Name P × Item P A

  -- what the pairs of one entry do, at the entry and after the last entry
  abbrev Known : List Pair → Type 0
  Known = Each (λ i. is_known all i ≡ true)

  abbrev Kept : Rule A → List Pair → Type 0
  Kept rule = Each (λ i. is_kept rule all i ≡ true)

  pairs_quiet : (rule : Rule A) (ps : List Pair) → Each Quiet (flat_map (item_acts rule) ps)
  pairs_quiet rule [] = tt
  pairs_quiet rule ((n, direct a) ∷ ps) = (tt, pairs_quiet rule ps)
  pairs_quiet rule ((n, reference m) ∷ ps) = pairs_quiet rule ps

  pairs_index : (rule : Rule A) (ps : List Pair) → flat_map index_of (flat_map (item_acts rule) ps) ≡ []
  pairs_index rule [] = refl
  pairs_index rule ((n, direct a) ∷ ps) = pairs_index rule ps
  pairs_index rule ((n, reference m) ∷ ps) = pairs_index rule ps

  late_quiet : (rule : Rule A) (ps : List Pair) → Each Quiet (flat_map (reference_acts rule all) ps)
  late_quiet rule [] = tt
  late_quiet rule ((n, direct a) ∷ ps) = late_quiet rule ps
  late_quiet rule ((n, reference m) ∷ ps) = (tt, (tt, late_quiet rule ps))

  late_index : (rule : Rule A) (ps : List Pair) → flat_map index_of (flat_map (reference_acts rule all) ps) ≡ []
  late_index rule [] = refl
  late_index rule ((n, direct a) ∷ ps) = late_index rule ps
  late_index rule ((n, reference m) ∷ ps) = late_index rule ps

  pairs_hold : (rule : Rule A) (ps : List Pair) → Each Holds (flat_map (item_acts rule) ps) → Each Holds (flat_map (reference_acts rule all) ps) → Known ps × Kept rule ps
  pairs_hold rule [] h k = (tt, tt)
  pairs_hold rule ((n, direct a) ∷ ps) h k = let r = pairs_hold rule ps h.1 k in ((refl, r.0), (h.0, r.1))
  pairs_hold rule ((n, reference m) ∷ ps) h k = let r = pairs_hold rule ps h k.1.1 in ((k.0, r.0), (k.1.0, r.1))

  hold_pairs : (rule : Rule A) (ps : List Pair) → Known ps → Kept rule ps → Each Holds (flat_map (item_acts rule) ps) × Each Holds (flat_map (reference_acts rule all) ps)
  hold_pairs rule [] a b = (tt, tt)
  hold_pairs rule ((n, direct x) ∷ ps) a b = let r = hold_pairs rule ps a.1 b.1 in ((b.0, r.0), r.1)
  hold_pairs rule ((n, reference m) ∷ ps) a b = let r = hold_pairs rule ps a.1 b.1 in (r.0, (a.0, (b.0, r.1)))

  entries_quiet : (es : List (Entry P A X)) → Each Quiet (flat_map (entry_acts rules) es)
  entries_quiet [] = tt
  entries_quiet (of_item m x ps ∷ es) = (tt, each_both Quiet (flat_map (item_acts (rules m.index)) ps) (flat_map (entry_acts rules) es) (pairs_quiet (rules m.index) ps) (entries_quiet es))
  entries_quiet (of_once m a ∷ es) = entries_quiet es

  entries_late : (es : List (Entry P A X)) → Each Quiet (flat_map (late_acts rules all) es)
  entries_late [] = tt
  entries_late (of_item m x ps ∷ es) = each_both Quiet (flat_map (reference_acts (rules m.index) all) ps) (flat_map (late_acts rules all) es) (late_quiet (rules m.index) ps) (entries_late es)
  entries_late (of_once m a ∷ es) = entries_late es

  entries_index : (es : List (Entry P A X)) → flat_map index_of (flat_map (entry_acts rules) es) ≡ indices es
  entries_index [] = refl
  entries_index (of_item m x ps ∷ es) = ap (λ z. m.index ∷ z) (flat_both index_of (flat_map (item_acts (rules m.index)) ps) (flat_map (entry_acts rules) es) ∙ ap₂ ◌++◌ (pairs_index (rules m.index) ps) (entries_index es))
  entries_index (of_once m a ∷ es) = entries_index es

  entries_no_index : (es : List (Entry P A X)) → flat_map index_of (flat_map (late_acts rules all) es) ≡ []
  entries_no_index [] = refl
  entries_no_index (of_item m x ps ∷ es) = flat_both index_of (flat_map (reference_acts (rules m.index) all) ps) (flat_map (late_acts rules all) es) ∙ ap₂ ◌++◌ (late_index (rules m.index) ps) (entries_no_index es)
  entries_no_index (of_once m a ∷ es) = entries_no_index es

  entries_hold : (es : List (Entry P A X)) → Each Holds (flat_map (entry_acts rules) es) → Each Holds (flat_map (late_acts rules all) es) → Known (items es) × Each (EntryKept rules all) es
  entries_hold [] h k = (tt, tt)
  entries_hold (of_item m x ps ∷ es) h k =
      let a = pairs_hold (rules m.index) ps (each_left Holds (flat_map (item_acts (rules m.index)) ps) (flat_map (entry_acts rules) es) h.1) (each_left Holds (flat_map (reference_acts (rules m.index) all) ps) (flat_map (late_acts rules all) es) k) in
      let b = entries_hold es (each_right Holds (flat_map (item_acts (rules m.index)) ps) (flat_map (entry_acts rules) es) h.1) (each_right Holds (flat_map (reference_acts (rules m.index) all) ps) (flat_map (late_acts rules all) es) k) in
      (each_both _ ps (items es) a.0 b.0, (a.1, b.1))
  entries_hold (of_once m a ∷ es) h k = let r = entries_hold es h k in (r.0, (tt, r.1))

  hold_entries : (es : List (Entry P A X)) → Known (items es) → Each (EntryKept rules all) es → Each Holds (flat_map (entry_acts rules) es) × Each Holds (flat_map (late_acts rules all) es)
  hold_entries [] h k = (tt, tt)
  hold_entries (of_item m x ps ∷ es) h k =
      let a = hold_pairs (rules m.index) ps (each_left _ ps (items es) h) k.0 in
      let b = hold_entries es (each_right _ ps (items es) h) k.1 in
      ((tt, each_both Holds (flat_map (item_acts (rules m.index)) ps) (flat_map (entry_acts rules) es) a.0 b.0), each_both Holds (flat_map (reference_acts (rules m.index) all) ps) (flat_map (late_acts rules all) es) a.1 b.1)
  hold_entries (of_once m a ∷ es) h k = hold_entries es h k.1

module _ {P A X : Type 0} (rules : ℕ → Rule A) (es : List (Entry P A X)) where
  quiet : Each Quiet (section_acts rules es)
  quiet = each_both Quiet (flat_map (entry_acts rules) es) (flat_map (late_acts rules es) es) (entries_quiet rules es es) (entries_late rules es es)

  index_all : flat_map index_of (section_acts rules es) ≡ indices es
  index_all = flat_both index_of (flat_map (entry_acts rules) es) (flat_map (late_acts rules es) es) ∙ (ap₂ ◌++◌ (entries_index rules es es) (entries_no_index rules es es) ∙ append-nil (indices es))

  -- a section without failures resolves
  pub section_resolves : (s : Scopes Text) (marks : List ℕ) → s.marks ≡ marks → s.entries ≡ [] → failures same_text s (does_all (section_acts rules es) done) ≡ [] → SectionResolves rules marks es
  section_resolves s marks em en e =
      let r = right_of s marks [] em en (section_acts rules es) quiet e in
      let h = entries_hold rules es es (each_left Holds (flat_map (entry_acts rules) es) (flat_map (late_acts rules es) es) r.0) (each_right Holds (flat_map (entry_acts rules) es) (flat_map (late_acts rules es) es) r.0) in
      record {
        one_each = fresh_distinct ◌==◌ same_number_symmetric (indices es) (subst (Fresh ◌==◌ []) index_all r.1);
        marked = subst (Each (λ i. has ◌==◌ i marks ≡ true)) index_all r.2;
        known = h.0;
        kept = h.1;
      }

  -- a section that resolves has no failure
  pub resolves_section : (s : Scopes Text) (marks : List ℕ) → s.marks ≡ marks → s.entries ≡ [] → SectionResolves rules marks es → failures same_text s (does_all (section_acts rules es) done) ≡ []
  resolves_section s marks em en r =
      let h = hold_entries rules es es r.known r.kept in
      of_right s marks [] em en (section_acts rules es) quiet (
        each_both Holds (flat_map (entry_acts rules) es) (flat_map (late_acts rules es) es) h.0 h.1,
        subst (Fresh ◌==◌ []) (sym index_all) (distinct_fresh ◌==◌ same_number_symmetric (indices es) r.one_each),
        subst (Each (λ i. has ◌==◌ i marks ≡ true)) (sym index_all) r.marked,
      )
