-- A closed root's text with its section parses as a tree and entries that resolve, in which each item has its own entry.
use Rattle.std.proofs.Common.{◌≡◌, ℕ, ◌+◌, ◌<◌, ◌^◌, Bool, true, false, cond, List, [], ◌∷◌, ◌++◌, length, Option, None, refl, sym, ap, ap₂, ◌∙◌, subst, arith, append-nil, inl, Some}
use Rattle.std.specs.Prelude.{⊤}
use Rattle.irtext_base.specs.Text.{Text}
use Rattle.irtext_base.specs.Format.{same_text, Id}
use Rattle.irtext_base.specs.Own.{Texts, Language, language, unplaced, Lawful, Unreserved, Verdict}
use Rattle.irtext_grammar.specs.Grammar.Forest.{Regions, no_regions, region, Blocks, no_blocks, block, Operations, no_operations, operation, AllRegions, AllBlocks, AllOperations}
use Rattle.irtext_grammar.specs.Grammar.Tree.{Attribute, given_names, ident, own, Tree}
use Rattle.irtext_grammar.specs.Grammar.Bare.{bare}
use Rattle.irtext_grammar.specs.Spelling.Spellable.{Each, IsIdentifier}
use Rattle.irtext_grammar.specs.Spelling.Writable.{AfterRoot}
use Rattle.irtext_grammar.specs.Spelling.Spell.{spelled}
use Rattle.irtext_grammar.specs.Graphs.Identifiers.{EntryHasIdentifiers, OpHasIdentifiers, BlockHasIdentifiers, HasIdentifiers}
use Rattle.irtext_grammar.specs.Graphs.ReservedKeys.{GraphKeepsKeys}
use Rattle.irtext_grammar.specs.Graphs.Graph as graph
use Rattle.irtext_grammar.specs.Graphs.Graph.{Graph, Limit, GraphOp, GraphBlock, Printing, outlined, shared, is_marked, own_marks, marks_in_regions, written, own_entry, entries_of_regions, entries_of_blocks, entries_of_operations, entries_of, op_outlined, block_outlined, outlined_entries, label_entry}
use Rattle.irtext_grammar.specs.Spelling.Section as section
use Rattle.irtext_grammar.specs.Grammar.Section.{Entry}
use Rattle.irtext_grammar.specs.Names.Script.{Script, done, does_all, follow}
use Rattle.irtext_grammar.specs.Names.Scopes.{no_scope, facts, failures}
use Rattle.irtext_grammar.specs.Names.Acts.{section_acts, rule_of, region_scripts, tree_script, failures_of}
use Rattle.irtext_grammar.specs.Graphs.Closed.{Closed, Fit}
use Rattle.irtext_grammar.specs.Graphs.Same.{Locations, SmallGraph}
use Rattle.irtext_grammar.specs.Graphs.RoundTrip.{LocationReads, Held, GraphHeld}
use Rattle.irtext_grammar.specs.Spelling.SectionEntries.{bare_section, written_section, SmallSection, numbers}
use Rattle.irtext_grammar.proofs.Names.Following.{regions_follow, operation_follow}
use Rattle.irtext_grammar.proofs.Names.Followed.{failures_follow}
use Rattle.irtext_grammar.proofs.Sections.MarksWritten.{Numbered, root_numbered}
use Rattle.irtext_grammar.proofs.Names.Resolved.{tree_resolves}
use Rattle.irtext_grammar.proofs.Sections.Back.{SmallItem, IsSpellablePair, IsSpellableEntryOf}
use Rattle.irtext_grammar.proofs.Sections.Bare.{root_resolves_bare}
use Rattle.irtext_grammar.proofs.Sections.Content.{length_entries}
use Rattle.irtext_grammar.proofs.Sections.Kept.{section_clean}
use Rattle.irtext_grammar.proofs.Sections.EntryRules.{entries_ruled}
use Rattle.irtext_grammar.proofs.Sections.Once.{Mention, Mentions, place_below, each_shared}
use Rattle.irtext_grammar.proofs.Graphs.WrittenSpellable.{written_fine}
use Rattle.irtext_grammar.proofs.Grammar.BackTree as back
use Rattle.irtext_grammar.proofs.Sections.AfterRoot.{section_after}
use Rattle.irtext_grammar.proofs.Grammar.Placed as placed
use Rattle.irtext_grammar.proofs.RoundTrips.RootBack.{AreSpellableItems, RootRead, TreeRead, root_after}
use Rattle.irtext_grammar.proofs.Lists.Each.{each_filter}

from_zero : (a b : ℕ) → 0 + a ≡ b → a ≡ b
from_zero a b e = omega arith

each_append : {X : Type 0} (Q : X → Type 0) (xs ys : List X) → Each Q xs → Each Q ys → Each Q (xs ++ ys)
each_append Q [] ys h k = k
each_append Q (x ∷ xs) ys h k = (h.0, each_append Q xs ys h.1 k)

each_two : {X : Type 0} (Q R S : X → Type 0) → ((x : X) → Q x → R x → S x) → (xs : List X) → Each Q xs → Each R xs → Each S xs
each_two Q R S f [] h k = tt
each_two Q R S f (x ∷ xs) h k = (f x h.0 k.0, each_two Q R S f xs h.1 k.1)

-- what holds of each item's own entry holds of all entries
module _ {T A : Type 0} (C : Printing T A) (Q : graph.Entry C → Type 0) (OfO : GraphOp T A → Type 0) (OfB : GraphBlock T A → Type 0) (op : (o : GraphOp T A) → OfO o → Each Q (own_entry C o.location (op_outlined C o))) (head : (h : GraphBlock T A) → OfB h → Each Q (own_entry C h.location (block_outlined C h))) where
  mutual
    regions_each : (rs : Regions (GraphOp T A) (GraphBlock T A) ⊤) → AllRegions OfO OfB (λ r. ⊤) rs → Each Q (entries_of_regions C None rs)
    regions_each no_regions h = tt
    regions_each (region r bs rs) h = each_append Q (entries_of_blocks C None bs) (entries_of_regions C None rs) (blocks_each bs h.1) (regions_each rs h.2)

    blocks_each : (bs : Blocks (GraphOp T A) (GraphBlock T A) ⊤) → AllBlocks OfO OfB (λ r. ⊤) bs → Each Q (entries_of_blocks C None bs)
    blocks_each no_blocks h = tt
    blocks_each (block b os bs) h =
        each_append Q (own_entry C b.location (block_outlined C b)) _ (head b h.0) (each_append Q (entries_of_operations C None os) (entries_of_blocks C None bs) (operations_each os h.1) (blocks_each bs h.2))

    operations_each : (os : Operations (GraphOp T A) (GraphBlock T A) ⊤) → AllOperations OfO OfB (λ r. ⊤) os → Each Q (entries_of_operations C None os)
    operations_each no_operations h = tt
    operations_each (operation o rs os) h =
        each_append Q (entries_of_regions C None rs) _ (regions_each rs h.1) (each_append Q (own_entry C o.location (op_outlined C o)) (entries_of_operations C None os) (op o h.0) (operations_each os h.2))

  graph_each : (g : Graph T A) → OfO g.own → AllRegions OfO OfB (λ r. ⊤) g.regions → Each Q (entries_of C None g)
  graph_each g h k = each_append Q (entries_of_regions C None g.regions) (own_entry C g.own.location (op_outlined C g.own)) (regions_each g.regions k) (op g.own h)

module _ {T A : Type 0} (C : Printing T A) where
  own_each : (Q : graph.Entry C → Type 0) (l : Option Text) (es : List (Text × Attribute A)) → Q (record { location = l; attributes = es }) → Each Q (own_entry C l es)
  own_each Q l es h = go (is_marked C l es)
    where
      go : (b : Bool) → Each Q (cond b (record { location = l; attributes = es } ∷ []) [])
      go true = (h, tt)
      go false = tt

  abbrev EntryWordy : graph.Entry C → Type 0
  EntryWordy e = Each EntryHasIdentifiers e.attributes

  outlined_wordy : (es : List (Text × Attribute A)) → Each EntryHasIdentifiers es → Each EntryHasIdentifiers (outlined_entries C es)
  outlined_wordy es h = each_filter EntryHasIdentifiers (λ e. outlined C e.1) es h

  label_wordy : (l : Option Text) (es : List (Text × Attribute A)) → ((n : Text) → l ≡ Some n → IsIdentifier n) → Each EntryHasIdentifiers es → Each EntryHasIdentifiers (label_entry l ++ es)
  label_wordy None es h k = k
  label_wordy (Some n) es h k = ((refl, h n refl), k)

  entries_wordy : (g : Graph T A) → HasIdentifiers C g → Each EntryWordy (entries_of C None g)
  entries_wordy g w =
      graph_each C EntryWordy (OpHasIdentifiers C) (BlockHasIdentifiers C) (λ o k. own_each EntryWordy o.location (op_outlined C o) (outlined_wordy o.attributes k.attributes))
      (λ b k. own_each EntryWordy b.location (block_outlined C b) (label_wordy (C.label b.place) (outlined_entries C b.attributes) (w.label b.place) (outlined_wordy b.attributes k.attributes))) g w.own w.regions

  module _ {X : Type 0} (location_at : Text → Verdict X) (K : Locations X) where
    abbrev EntryLocated : graph.Entry C → Type 0
    EntryLocated e = LocationReads location_at K e.location

    entries_located : (g : Graph T A) → GraphHeld location_at K g → Each EntryLocated (entries_of C None g)
    entries_located g h = graph_each C EntryLocated (λ o. Held location_at K o.location o.attributes) (λ b. Held location_at K b.location b.attributes) (λ o k. own_each EntryLocated o.location (op_outlined C o) k.0) (λ b k. own_each EntryLocated b.location (block_outlined C b) k.0) g h.0 h.1

  -- one script and then another, in a root
  tree_follow : (isolated : Id → Bool) (t : Tree ⊤ T A) (x y : Script Text ⊤) → tree_script isolated t (follow x y) ≡ follow (tree_script isolated t x) y
  tree_follow isolated t x y = operation_follow [] t.own (region_scripts isolated [] 0 (isolated t.own.id) t.regions) x y (regions_follow isolated [] 0 (isolated t.own.id) t.regions)

  -- the marks that are written, as many as there are entries
  pub marks_written : (isolated : Id → Bool) (l : Limit) (g : Graph T A) → HasIdentifiers C g → Fit C isolated g → Numbered (length (entries_of C l g)) 0 (tree_script isolated (written C l g) done)
  marks_written isolated l g wordy fit =
      let n = marks_in_regions C l g.regions + own_marks C g.own.location (op_outlined C g.own) in
      let e : n ≡ length (entries_of C l g) = sym (length_entries C l g) in
      let e' : n + 0 ≡ n = omega arith in
      subst (λ m. Numbered m 0 (tree_script isolated (written C l g) done)) e (root_numbered C isolated wordy.given wordy.label l g n done fit (record { count = 0; sum = e'; marks = refl; entries = refl }))

  -- the marks of a written root are the numbers from 0 on
  pub marks_in_order : (isolated : Id → Bool) (l : Limit) (g : Graph T A) → HasIdentifiers C g → Fit C isolated g → (facts same_text (tree_script isolated (written C l g) done)).marks ≡ numbers 0 (length (entries_of C l g))
  marks_in_order isolated l g wordy fit = let m = marks_written isolated l g wordy fit in m.marks ∙ ap (numbers 0) (from_zero m.count (length (entries_of C l g)) m.sum)

  module _ (sound : (a b : A) → C.same_own a b ≡ true → a ≡ b) (reflexive : (a : A) → C.same_own a a ≡ true) (isolated : Id → Bool) (g : Graph T A) (wordy : HasIdentifiers C g) (fit : Fit C isolated g) (small : SmallGraph C isolated g) (keys : GraphKeepsKeys g) (closed : Closed C isolated g) where
    abbrev all : List (graph.Entry C)
    all = entries_of C None g

    -- the written tree and section resolve
    written_resolves : failures_of isolated (written C None g) (written_section C all) ≡ []
    written_resolves =
        let t = written C None g in
        let x = tree_script isolated t done in
        let y = does_all (section_acts (rule_of t) (written_section C all)) done in
        let m = marks_written isolated None g wordy fit in
        ap (failures same_text no_scope) (tree_follow isolated t done y)
        ∙ (failures_follow same_text no_scope x y
        ∙ ap₂ ◌++◌ (tree_resolves C isolated g fit small closed keys) ((section_clean C sound reflexive (rule_of t) all (entries_ruled C g keys)).nothing _ (record { marks = marks_in_order isolated None g wordy fit; entries = m.entries })))

    -- a tree and entries that are the written ones, places aside, resolve
    pub root_resolves : {P X : Type 0} (text : X → Text) (t : Tree P T A) (es : List (Entry P A X)) → bare t ≡ written C None g → bare_section text es ≡ written_section C all → failures_of isolated t es ≡ []
    root_resolves text t es e f = root_resolves_bare text isolated t es (ap₂ (failures_of isolated) e f ∙ written_resolves)

module _ {T A X : Type 0} (types : Texts T) (owns : Texts A) (types_law : Lawful T types) (owns_law : Lawful A owns) (unreserved : Unreserved A owns) (location_at : Text → Verdict X) (K : Locations X)
    (C : Printing T A) (sound : (a b : A) → C.same_own a b ≡ true → a ≡ b) (reflexive : (a : A) → C.same_own a a ≡ true) where
  abbrev L : Language ℕ T A
  L = language types owns C.format_of

  abbrev B : Language ⊤ T A
  B = unplaced types owns C.format_of

  abbrev ItemSmall : ℕ → List A → Attribute A → Type 0
  ItemSmall = SmallItem L types_law owns_law unreserved length (λ t. refl) location_at K C

  abbrev PairFine : ℕ → List A → Text × Attribute A → Type 0
  PairFine = IsSpellablePair L types_law owns_law unreserved length (λ t. refl) location_at K C

  abbrev ItemFine : ℕ → List A → graph.Entry C → Type 0
  ItemFine = IsSpellableEntryOf L types_law owns_law unreserved length (λ t. refl) location_at K C

  small_item : (items : ℕ) (once : List A) → items + length once < 2 ^ 64 → (a : Attribute A) → Mention C sound once a → ItemSmall items once a
  small_item items once h (given_names ns) m = tt
  small_item items once h (ident n) m = tt
  small_item items once h (own a) m = λ e. let p = place_below C sound a once (m e) in omega arith

  fine_items : (g : Graph T A) → HasIdentifiers C g → GraphHeld location_at K g → SmallSection C g → AreSpellableItems types owns types_law owns_law unreserved location_at K C (entries_of C None g)
  fine_items g w held small =
      let all = entries_of C None g in
      let items = length all in
      let once = shared C all in
      let pairs : (es : List (Text × Attribute A)) → Each EntryHasIdentifiers es → Each (λ x. Mention C sound once x.1) es → Each (PairFine items once) es =
      each_two EntryHasIdentifiers (λ x. Mention C sound once x.1) (PairFine items once) (λ x h m. (h, small_item items once small x.1 m)) in
      each_two (EntryLocated C location_at K) (λ e. EntryWordy C e × Mentions C sound once e) (ItemFine items once) (λ e h k. (h, pairs e.attributes k.0 k.1)) all (entries_located C location_at K g held)
      (each_two (EntryWordy C) (Mentions C sound once) (λ e. EntryWordy C e × Mentions C sound once e) (λ e h k. (h, k)) all (entries_wordy C g w) (each_shared C sound reflexive all))

  -- the root's text is followed by its section, and nothing more
  following : (isolated : Id → Bool) (g : Graph T A) → Fit C isolated g → AfterRoot B (written C None g) (section.section B C (entries_of C None g))
  following isolated g fit =
      let t = written C None g in
      let f = section.section B C (entries_of C None g) in
      subst (AfterRoot B t) (append-nil f) (section_after C isolated B (λ i. refl) None g [] fit (record { ends = inl refl; one = λ e. inl refl }))

  tree_read : (isolated : Id → Bool) (g : Graph T A) (width n : ℕ) → HasIdentifiers C g → Fit C isolated g → SmallGraph C isolated g
      → let f = section.section B C (entries_of C None g) in TreeRead types owns types_law owns_law unreserved location_at K C (written C None g) (spelled B width n (written C None g) ++ f) f
  tree_read isolated g width n wordy fit small =
      let t = written C None g in
      let f = section.section B C (entries_of C None g) in
      let r = back.root_reads_back B types_law owns_law unreserved (λ p t. tt) width n t f (written_fine C isolated types owns g wordy fit small) (following isolated g fit) in
      let q = placed.placed L length (λ t. refl) t (spelled B width n t ++ f) r.0 r.1 in
      (q.0, r.0, q.1, q.2, r.2)

  -- the text of a root and its section
  pub text_back : (isolated : Id → Bool) (g : Graph T A) (width n : ℕ) → HasIdentifiers C g → Fit C isolated g → SmallGraph C isolated g → GraphHeld location_at K g → SmallSection C g
      → RootRead types owns types_law owns_law unreserved location_at K C (written C None g) (written_section C (entries_of C None g)) (section.text B C g n width None)
  text_back isolated g width n wordy fit small held numbers =
      root_after types owns types_law owns_law unreserved location_at K C g width n (tree_read isolated g width n wordy fit small) numbers (fine_items g wordy held numbers)
