-- The printed text of a closed root with its section parses as a tree and entries that resolve, and what they build is equal to the root up
-- to fillings.
use Rattle.std.proofs.Common.{None, ◌≡◌, ℕ, Bool, true, refl, List, [], sym, ap, ap₂, ◌∙◌, subst}
use Rattle.std.specs.Prelude.{⊤}
use Rattle.irtext_base.specs.Text.{Text, after_space}
use Rattle.irtext_base.specs.Format.{Id}
use Rattle.irtext_base.specs.Own.{Texts, Language, language, Lawful, Unreserved, Verdict, unplaced}
use Rattle.irtext_grammar.specs.Grammar.Forest.{Regions, no_regions, region, Blocks, no_blocks, block, Operations, no_operations, operation, AllRegions, AllBlocks, AllOperations}
use Rattle.irtext_grammar.specs.Graphs.Graph.{Graph, GraphOp, GraphBlock, Printing}
use Rattle.irtext_grammar.specs.Names.Script.{done, does_all}
use Rattle.irtext_grammar.specs.Names.Acts.{section_acts, failures_of, rule_of}
use Rattle.irtext_grammar.specs.Graphs.Closed.{Fit, Closed}
use Rattle.irtext_grammar.specs.Graphs.ReservedKeys.{GraphKeepsKeys}
use Rattle.irtext_grammar.specs.Graphs.RoundTrip.{GraphKeysDiffer, KeysDiffer, Held, GraphHeld, ComesBack}
use Rattle.irtext_grammar.specs.Graphs.Same.{Locations, SmallGraph, resolved_root, UpToFillings}
use Rattle.irtext_grammar.specs.Graphs.Identifiers.{HasIdentifiers}
use Rattle.irtext_grammar.specs.Spelling.SectionEntries.{SmallSection}
use Rattle.irtext_grammar.specs.Grammar.Tree.{Tree}
use Rattle.irtext_grammar.specs.Grammar.Section.{Entry}
use Rattle.irtext_grammar.specs.Grammar.Marked.{reads_root}
use Rattle.irtext_grammar.specs.Spelling.Section.{text}
use Rattle.irtext_grammar.specs.Graphs.Build.{build}
use Rattle.irtext_grammar.proofs.Grammar.UniqueRoot.{one_root}
use Rattle.irtext_grammar.proofs.Graphs.Fillings.{fillings}
use Rattle.irtext_grammar.proofs.Grammar.PartsOfFormats.{formed_read}
use Rattle.irtext_grammar.proofs.RoundTrips.RootResolves.{root_resolves, text_back}
use Rattle.irtext_grammar.proofs.Sections.Content.{contents_back}
use Rattle.irtext_grammar.proofs.Graphs.WrittenAs.{accepted_written}

-- what the arenas keep of dictionaries is a part of what they keep
module _ {T A X : Type 0} (location_at : Text → Verdict X) (K : Locations X) where
  abbrev HeldOp : GraphOp T A → Type 0
  HeldOp o = Held location_at K o.location o.attributes

  abbrev HeldBlock : GraphBlock T A → Type 0
  HeldBlock h = Held location_at K h.location h.attributes

  abbrev OpDiffer : GraphOp T A → Type 0
  OpDiffer o = KeysDiffer o.attributes

  abbrev BlockDiffer : GraphBlock T A → Type 0
  BlockDiffer h = KeysDiffer h.attributes

  mutual
    regions_differ : (rs : Regions (GraphOp T A) (GraphBlock T A) ⊤) → AllRegions HeldOp HeldBlock (λ r. ⊤) rs → AllRegions OpDiffer BlockDiffer (λ r. ⊤) rs
    regions_differ no_regions h = tt
    regions_differ (region r bs rs) h = (tt, blocks_differ bs h.1, regions_differ rs h.2)

    blocks_differ : (bs : Blocks (GraphOp T A) (GraphBlock T A) ⊤) → AllBlocks HeldOp HeldBlock (λ r. ⊤) bs → AllBlocks OpDiffer BlockDiffer (λ r. ⊤) bs
    blocks_differ no_blocks h = tt
    blocks_differ (block b os bs) h = (h.0.1, operations_differ os h.1, blocks_differ bs h.2)

    operations_differ : (os : Operations (GraphOp T A) (GraphBlock T A) ⊤) → AllOperations HeldOp HeldBlock (λ r. ⊤) os → AllOperations OpDiffer BlockDiffer (λ r. ⊤) os
    operations_differ no_operations h = tt
    operations_differ (operation o rs os) h = (h.0.1, regions_differ rs h.1, operations_differ os h.2)

  -- no dictionary of a graph whose items are held has a key twice
  pub held_differ : (g : Graph T A) → GraphHeld location_at K g → GraphKeysDiffer g
  held_differ g h = (h.0.1, regions_differ g.regions h.1)

module _ {T A X : Type 0} (types : Texts T) (owns : Texts A) (types_law : Lawful T types) (owns_law : Lawful A owns) (unreserved : Unreserved A owns) (location_at : Text → Verdict X) (K : Locations X) (first : ℕ → X)
    (position : (p : ℕ) → K.is_position (first p) ≡ true) (C : Printing T A) (sound : (a b : A) → C.same_own a b ≡ true → a ≡ b) (reflexive : (a : A) → C.same_own a a ≡ true) (isolated : Id → Bool) where
  abbrev L : Language ℕ T A
  L = language types owns C.format_of

  -- the printed text of a closed root parses as a tree and entries that resolve, and what they build is equal to the root up to fillings
  pub comes_back : (g : Graph T A) (width n : ℕ) → HasIdentifiers C g → Fit C isolated g → SmallGraph C isolated g → GraphKeepsKeys g → GraphHeld location_at K g → Closed C isolated g → SmallSection C g
      → ComesBack types owns location_at K first C isolated g width n
  comes_back g width n wordy fit small keys held closed numbers =
      let r = text_back types owns types_law owns_law unreserved location_at K C sound reflexive isolated g width n wordy fit small held numbers in
      let t = r.0 in
      let es = r.1 in
      let resolves = root_resolves C sound reflexive isolated g wordy fit small keys closed K.text t es r.4 r.5 in
      let says = contents_back C sound reflexive K.text g t es r.4 r.5 in
      let formed = formed_read L (λ p q h. h) t _ r.3.0 (accepted_written C isolated L (λ i. refl) g t fit r.4) r.3.1 in
      (t, es, r.2, r.3, r.6, resolves, fillings C isolated K first position es g t (does_all (section_acts (rule_of t) es) done) fit small keys (held_differ location_at K g held) r.4 formed resolves says)

  -- whatever the text parses as is that
  pub each_comes_back : (g : Graph T A) (width n : ℕ) → ComesBack types owns location_at K first C isolated g width n
      → (t : Tree ℕ T A) (es : List (Entry ℕ A X)) (u : Text) → reads_root L location_at t es (text (unplaced types owns C.format_of) C g n width None) u
      → (after_space u ≡ []) × (failures_of isolated t es ≡ []) × UpToFillings K (resolved_root C isolated g) (build isolated first es t)
  each_comes_back g width n (t', es', u', r, left, resolves, same) t es u q =
      let o = one_root L types_law owns_law (λ p q t e f. e ∙ sym f) (λ t u e. absurd e) location_at t t' es es' (text (unplaced types owns C.format_of) C g n width None) u u' q r in (
        ap after_space o.2 ∙ left,
        ap₂ (failures_of isolated) o.0 o.1 ∙ resolves,
        subst (λ z. UpToFillings K (resolved_root C isolated g) (build isolated first z t)) (sym o.1) (subst (λ z. UpToFillings K (resolved_root C isolated g) (build isolated first es' z)) (sym o.0) same),
      )
