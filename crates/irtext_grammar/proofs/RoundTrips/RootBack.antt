-- The text of a root with its section parses as a tree and entries, which are the written ones but for places and locations.
use Rattle.std.proofs.Common.{◌≡◌, ℕ, ◌+◌, ◌<◌, ◌^◌, List, [], ◌∷◌, ◌++◌, map, length, None, refl, sym, ap, ◌∙◌, subst, append-nil}
use Rattle.std.specs.Prelude.{⊤, codes}
use Rattle.std.specs.Char.{is_whitespace}
use Rattle.irtext_base.specs.Text.{Text, after_space}
use Rattle.irtext_base.specs.Reading.{◌▹◌, the, literal, repeated}
use Rattle.irtext_base.specs.Own.{Texts, Language, language, unplaced, Lawful, Unreserved, Verdict}
use Rattle.irtext_grammar.specs.Grammar.Tree.{Tree}
use Rattle.irtext_grammar.specs.Grammar.Bare.{bare}
use Rattle.irtext_grammar.specs.Spelling.Spellable.{Each}
use Rattle.irtext_grammar.specs.Spelling.Spell.{spelled}
use Rattle.irtext_grammar.specs.Graphs.Graph as graph
use Rattle.irtext_grammar.specs.Graphs.Graph.{Graph, Printing, written, entries_of, shared}
use Rattle.irtext_grammar.specs.Spelling.Section as section
use Rattle.irtext_grammar.specs.Grammar.Section as read
use Rattle.irtext_grammar.specs.Grammar.Section.{Entry}
use Rattle.irtext_grammar.specs.Grammar.Reads as reads
use Rattle.irtext_grammar.specs.Grammar.Marked.{marked, section_if, reads_root}
use Rattle.irtext_grammar.specs.Graphs.Same.{Locations}
use Rattle.irtext_grammar.specs.Spelling.SectionEntries.{bare_section, written_section, SmallSection}
use Rattle.irtext_base.proofs.Characters.{after_twice}
use Rattle.irtext_grammar.proofs.Sections.Back.{IsSpellableEntryOf, found_section}
use Rattle.irtext_grammar.proofs.Sections.Marked.{is_some_list, marked_bare, marked_written}

module _ {T A X : Type 0} (types : Texts T) (owns : Texts A) (types_law : Lawful T types) (owns_law : Lawful A owns) (unreserved : Unreserved A owns) (location_at : Text → Verdict X) (K : Locations X) (C : Printing T A) where
  abbrev L : Language ℕ T A
  L = language types owns C.format_of

  abbrev B : Language ⊤ T A
  B = unplaced types owns C.format_of

  -- what each of the entries needs so that its text is parsed back
  abbrev pub AreSpellableItems : List (graph.Entry C) → Type 0
  AreSpellableItems all = Each (IsSpellableEntryOf L types_law owns_law unreserved length (λ t. refl) location_at K C (length all) (shared C all)) all

  -- a tree and entries that a whole text parses as, which are these without places
  abbrev pub RootRead : Tree ⊤ T A → List (Entry ⊤ A Text) → Text → Type 0
  RootRead t es text = (t' : Tree ℕ T A) × (es' : List (Entry ℕ A X)) × (u : Text) × reads_root L location_at t' es' text u × (bare t' ≡ t) × (bare_section K.text es' ≡ es) × (after_space u ≡ [])

  -- a section that was found after a tree
  section_after : (t : Tree ℕ T A) (all : List (graph.Entry C)) (f : Text) → is_some_list all ≡ marked t → after_space f ≡ after_space (section.section B C all)
      → length all + length (shared C all) < 2 ^ 64 → AreSpellableItems all
      → (es : List (Entry ℕ A X)) × (u : Text) × section_if L location_at (marked t) es f u × (bare_section K.text es ≡ written_section C all) × (after_space u ≡ [])
  section_after t [] f e s h w = ([], f, subst (λ b. section_if L location_at b [] f f) e refl, refl, s)
  section_after t (x ∷ xs) f e s h w =
      let r = found_section L types_law owns_law unreserved length (λ t. refl) location_at K C x xs [] h w refl in
      let t' = section.section B C (x ∷ xs) in
      let inner : Text → Type 0 = λ z. (literal (codes "outlined_attributes:") ▹ repeated (the 33) (map (read.entry L location_at) r.item)) z r.thru.left in
      let q : after_space (after_space (t' ++ [])) ≡ after_space f = after_twice is_whitespace (t' ++ []) ∙ (ap after_space (append-nil t') ∙ sym s) in
      (r.item, r.thru.left, subst (λ b. section_if L location_at b r.item f r.thru.left) e (subst inner q r.thru.reading), r.same, r.thru.same)

  -- a tree that a text parses as before what follows, which is this without places
  abbrev pub TreeRead : Tree ⊤ T A → Text → Text → Type 0
  TreeRead t text f = (t' : Tree ℕ T A) × (u : Text) × reads.reads L t' text u × (bare t' ≡ t) × (after_space u ≡ after_space f)

  -- the text of a graph whose tree is parsed back before the section
  pub root_after : (g : Graph T A) (width n : ℕ) → let f = section.section B C (entries_of C None g) in TreeRead (written C None g) (spelled B width n (written C None g) ++ f) f → SmallSection C g → AreSpellableItems (entries_of C None g)
      → RootRead (written C None g) (written_section C (entries_of C None g)) (section.text B C g n width None)
  root_after g width n r small items =
      let all = entries_of C None g in
      let m : is_some_list all ≡ marked r.0 = marked_written C g ∙ (ap marked (sym r.3) ∙ marked_bare r.0) in
      let s = section_after r.0 all r.1 m r.4 small items in
      (r.0, s.0, s.1, (r.1, r.2, s.2), r.3, s.3, s.4)
