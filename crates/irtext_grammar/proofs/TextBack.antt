-- The printed text of a closed root is parsed back.
use Rattle.std.proofs.Common.{◌≡◌, ◌<◌, ◌^◌, ℕ, Bool, true, sym, subst, List, [], length, Option, None}
use Rattle.irtext_base.specs.Answers.{Outcome}
use Rattle.irtext_base.specs.Format.{Id}
use Rattle.irtext_base.specs.Locations.{AttrView}
use Rattle.irtext_base.specs.Own.{Texts, texts_of, Lawful, Unreserved, language, unplaced}
use Rattle.irtext_base.specs.Paths.{Written}
use Rattle.irtext_base.specs.Text.{Text, after_space}
use Rattle.irtext_grammar.specs.Grammar.Marked.{reads_root}
use Rattle.irtext_grammar.specs.Grammar.Section.{Entry}
use Rattle.irtext_grammar.specs.Grammar.Tree.{Tree}
use Rattle.irtext_grammar.specs.Graphs.Build.{Built, build}
use Rattle.irtext_grammar.specs.Graphs.Graph.{Graph, Printing}
use Rattle.irtext_grammar.specs.Graphs.Identifiers.{HasIdentifiers}
use Rattle.irtext_grammar.specs.Graphs.Regained.{Named, EqualOp, EqualBlock}
use Rattle.irtext_grammar.specs.Graphs.RoundTrip.{ComesBack}
use Rattle.irtext_grammar.specs.Graphs.Same.{Locations, UpToFillings, SameOp, SameBlock, resolved_root}
use Rattle.irtext_grammar.specs.Names.Acts.{failures_of}
use Rattle.irtext_grammar.specs.Spelling.Section.{text}
use Rattle.irtext_grammar.proofs.Graphs.Regained.{regained}
use Rattle.irtext_grammar.proofs.RoundTrips.WholeRoot.{comes_back, each_comes_back}
use Rattle.irtext_grammar.specs.Promises.PrintedBack.{locations}
use Rattle.irtext_grammar.specs.Promises.Supported.{location_verdict}
use Rattle.irtext_tokens.specs.AttrTexts.{attr_at}
use Rattle.irtext_grammar.specs.Back.{ClosedRoot, IsTextOf, ReadsAs, HeldBack, HeldWhole}
use Rattle.irtext_grammar.proofs.Lengths.{small_section, small_marks}
use Rattle.irtext_grammar.proofs.UsesSame.{same_uses}

module _ {T A : Type 0} (types : Texts T) (reading : Text → Outcome A) (text_of : A → Text) (types_law : Lawful T types) (owns_law : Lawful A (texts_of reading text_of)) (unreserved : Unreserved A (texts_of reading text_of))
    (C : Printing T A) (sound : (a b : A) → C.same_own a b ≡ true → a ≡ b) (reflexive : (a : A) → C.same_own a a ≡ true) (isolated : Id → Bool) where
  abbrev owns : Texts A
  owns = texts_of reading text_of

  abbrev attr : Text → Outcome (AttrView A)
  attr = attr_at reading

  abbrev K : Locations (Written A)
  K = locations text_of

  module _ (first : ℕ → Written A) (position : (p : ℕ) → K.is_position (first p) ≡ true) (g : Graph T A) (width n : ℕ) (t : Text) (printed : IsTextOf types owns attr C isolated g width n None t) (root : ClosedRoot C isolated g) where
    few : length (text (unplaced types owns C.format_of) C g n width None) < 2 ^ 64
    few = subst (λ (x : Text). length x < 2 ^ 64) printed.is printed.few

    names : HasIdentifiers C g
    names = record {
      given = printed.kept.given;
      label = printed.kept.label;
      own = printed.kept.own;
      regions = printed.kept.inside;
      marks = small_marks (unplaced types owns C.format_of) C None g width n few;
    }

    -- the text parses as a tree and entries that build an equal root
    back : ComesBack types owns (location_verdict attr) K first C isolated g width n
    back =
        comes_back types owns types_law owns_law unreserved (location_verdict attr) K first position C sound reflexive isolated g width n names root.fits printed.kept.small (printed.kept.keys root.unlabelled) printed.kept.held root.closed
        (small_section (unplaced types owns C.format_of) C g width n few)

    -- whatever the text parses as resolves, and builds an equal root
    each_back : (tree : Tree ℕ T A) (entries : List (Entry ℕ A (Written A))) (rest : Text) → reads_root (language types owns C.format_of) (location_verdict attr) tree entries t rest
        → (after_space rest ≡ []) × (failures_of isolated tree entries ≡ []) × UpToFillings K (resolved_root C isolated g) (build isolated first entries tree)
    each_back tree entries rest r =
        each_comes_back types owns types_law owns_law unreserved (location_verdict attr) K first position C sound reflexive isolated g width n back tree entries rest
        (subst (λ x. reads_root (language types owns C.format_of) (location_verdict attr) tree entries x rest) printed.is r)

    -- what was built of it is the root, up to fillings
    pub held_back : (rest : Text) (held : Option (Built T A (Written A))) → ReadsAs types owns attr C isolated first t rest held → HeldBack types owns attr C isolated g rest held
    held_back rest held r =
        let e = each_back r.tree r.entries rest r.reads in
        let b = build isolated first r.entries r.tree in
        record {
          built = b;
          is = r.builds;
          same = e.2;
          uses = same_uses (SameOp K) (SameBlock K) (λ x y h. h.shape) (resolved_root C isolated g) b e.2;
          ends = e.0;
        }

    -- and where all has names, the root but for positions
    pub held_whole : Named C g → (rest : Text) (held : Option (Built T A (Written A))) → ReadsAs types owns attr C isolated first t rest held → HeldWhole types owns attr C isolated g rest held
    held_whole named rest held r =
        let e = each_back r.tree r.entries rest r.reads in
        let b = build isolated first r.entries r.tree in
        let same = regained C isolated K g b named e.2 in
        record {
          built = b;
          is = r.builds;
          same = same;
          uses = same_uses (EqualOp K) (EqualBlock K) (λ x y h. h.shape) (resolved_root C isolated g) b same;
          ends = e.0;
        }

    -- it parses as something that resolves
    pub readable : (tree : Tree ℕ T A) × (entries : List (Entry ℕ A (Written A))) × (rest : Text) × reads_root (language types owns C.format_of) (location_verdict attr) tree entries t rest × (failures_of isolated tree entries ≡ [])
    readable = let r = back in (r.0, r.1, r.2, subst (λ x. reads_root (language types owns C.format_of) (location_verdict attr) r.0 r.1 x r.2) (sym printed.is) r.3, r.5)
