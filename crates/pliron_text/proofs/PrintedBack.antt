-- The promises of the two calls, put together.
use Rattle.std.proofs.Common.{◌≡◌, ◌∙◌, ℕ, Bool, true, refl, sym, ap, subst, arith, List, [], length, Some, None}
use Rattle.std.proofs.lemmas.Str.{chars_from_encodes, length-le-encodes}
use Rattle.std.specs.Str.{chars, encode_utf8_all}
use Rattle.irtext_base.specs.Answers.{Outcome}
use Rattle.irtext_base.specs.Locations.{AttrView}
use Rattle.irtext_base.specs.Own.{Texts, texts_of, Lawful, Unreserved, unplaced}
use Rattle.irtext_base.specs.Text.{Text}
use Rattle.irtext_base.specs.declared.parsable.fault.ParseFault.{ParseFault}
use Rattle.irtext_base.specs.Paths.{Written}
use Rattle.irtext_context.specs.Context.{ContextView}
use Rattle.irtext_graph.specs.declared.arena.Ptr.{Ptr}
use Rattle.irtext_graph.specs.declared.object.Operation.{Operation}
use Rattle.irtext_grammar.specs.Contexts.Formats.{isolated}
use Rattle.irtext_grammar.specs.Contexts.Held.{whole}
use Rattle.irtext_grammar.specs.Contexts.Nested.{printing_over}
use Rattle.irtext_graph.proofs.Nests.{some_eq}
use Rattle.irtext_grammar.specs.Grammar.Marked.{AllShown, reads_root}
use Rattle.irtext_grammar.specs.Grammar.Section.{Entry}
use Rattle.irtext_grammar.specs.Grammar.Tree.{Tree}
use Rattle.irtext_grammar.specs.Graphs.Build.{build}
use Rattle.irtext_grammar.specs.Graphs.Graph.{Graph, Limit, Printing, written}
use Rattle.irtext_grammar.specs.Graphs.Regained.{Named}
use Rattle.irtext_grammar.specs.Graphs.Same.{UpToFillings, resolved_root}
use Rattle.irtext_grammar.specs.Names.Acts.{failures_of}
use Rattle.irtext_grammar.specs.Spelling.Section.{text}
use Rattle.irtext_grammar.specs.Promises.PrintedBack.{locations}
use Rattle.irtext_grammar.specs.Promises.Root.{location_of}
use Rattle.irtext_grammar.specs.Promises.Supported.{supported, location_verdict}
use Rattle.irtext_names.specs.Held.{held_root}
use Rattle.irtext_names.specs.Promises.{BuildsRoot, IsFirst, RefusesRoot}
use Rattle.irtext_tokens.specs.AttrTexts.{attr_at}
use Rattle.irtext_grammar.specs.Back.{ClosedRoot, IsTextOf, ReadsAs}
use Rattle.irtext_grammar.proofs.TextBack.{held_back, held_whole, readable}
use Rattle.irtext_parse_state.specs.declared.parsable.state.StateStream.{StateStream}
use Rattle.pliron_text.specs.Alike.{AreKnownAlike}
use Rattle.pliron_text.specs.PrintedRoot.{PrintedRoot, GivesBackRoot, GivesBackWhole}
use Rattle.pliron_text.proofs.Alike.Names.{failures_alike, build_alike}
use Rattle.pliron_text.proofs.Alike.Limited.{limited_refused_there}
use Rattle.pliron_text.proofs.Alike.There.{ReadsHere, reads_too, reads_there}
use Rattle.pliron_text.proofs.Unlimited.{text_shown}

-- what was printed under a limit that leaves no region out was printed as without one
pub without_limit : {T A : Type 0} (types : Texts T) (owns : Texts A) (attr : Text → Outcome (AttrView A)) (C : Printing T A) (ctx : ContextView T A) (p : Ptr Operation) (g : Graph T A) (width n : ℕ) (limit : Limit) (bytes : List ℕ)
    → PrintedRoot types owns attr C ctx p g width n limit bytes → AllShown (written C limit g) → PrintedRoot types owns attr C ctx p g width n None bytes
without_limit types owns attr C ctx p g width n limit bytes root shown =
    record { sees = root.sees; kept = root.kept; fits = root.fits; utf8 = root.utf8; few = root.few; printed = root.printed ∙ ap encode_utf8_all (text_shown C (unplaced types owns C.format_of) g n width limit shown) }

module _ {T A : Type 0} (types : Texts T) (reading : Text → Outcome A) (text_of : A → Text) (types_law : Lawful T types) (owns_law : Lawful A (texts_of reading text_of)) (unreserved : Unreserved A (texts_of reading text_of))
    (outlined once : A → Bool) (eq : A → A → Bool) (sound : (a b : A) → eq a b ≡ true → a ≡ b) (reflexive : (a : A) → eq a a ≡ true)
    (ctx : ContextView T A) (p : Ptr Operation) (g : Graph T A) (width n : ℕ) (bytes : List ℕ) where
  abbrev owns : Texts A
  owns = texts_of reading text_of

  abbrev attr : Text → Outcome (AttrView A)
  attr = attr_at reading

  abbrev C : Printing T A
  C = printing_over ctx outlined once eq

  module _ (limit : Limit) (printed : PrintedRoot types owns attr C ctx p g width n limit bytes) where
    -- its characters are those of the text
    is_text : IsTextOf types owns attr C (isolated ctx.dialects) g width n limit (chars bytes)
    is_text =
        let t = text (unplaced types owns C.format_of) C g n width limit in
        let is = chars_from_encodes t bytes printed.utf8 (sym printed.printed) in
        let same = ap (λ (z : Text). length z) is in
        let size = ap (λ (z : List ℕ). length z) printed.printed in
        let low = length-le-encodes t in
        let few = printed.few in
        record { kept = printed.kept; fits = printed.fits; is = sym is; few = omega (arith, few, same, size, low) }

    -- nothing is parsed from it if a region was left out
    pub none_read : {U : Type 0} (old : StateStream T A U) → old.stream.rest ≡ chars bytes → AreKnownAlike old.state.ctx.now.dialects ctx.dialects g → (AllShown (written C limit g) → ⊥) → (q : Ptr Operation) (new : StateStream T A U) → BuildsRoot types owns attr q old new → ⊥
    none_read old follows_on alike left q new b =
        limited_refused_there types owns types_law owns_law unreserved attr C ctx.dialects old.state.ctx.now.dialects refl (isolated ctx.dialects) g alike width n limit (chars bytes) new.stream.rest b.tree b.entries is_text left
        (subst (λ t. reads_root (supported old.state.ctx.now.dialects types owns) (location_verdict attr) b.tree b.entries t new.stream.rest) follows_on b.reads)

  module _ (printed : PrintedRoot types owns attr C ctx p g width n None bytes) (closed : ClosedRoot C (isolated ctx.dialects) g)
      {U : Type 0} (old : StateStream T A U) (follows_on : old.stream.rest ≡ chars bytes) (alike : AreKnownAlike old.state.ctx.now.dialects ctx.dialects g) where
    -- where the text's places are in the context
    abbrev first : ContextView T A → ℕ → Written A
    first c = location_of {A = A} c.paths old.state.src (whole old.stream)

    -- a tree that the text parses as in this context
    abbrev Readable : Type 0
    Readable = (tree : Tree ℕ T A) × (entries : List (Entry ℕ A (Written A))) × (rest : Text) × reads_root (supported ctx.dialects types owns) (location_verdict attr) tree entries (chars bytes) rest × (failures_of (isolated ctx.dialects) tree entries ≡ [])

    read_here : Readable
    read_here = readable types reading text_of types_law owns_law unreserved C sound reflexive (isolated ctx.dialects) (first ctx) (λ p. refl) g width n (chars bytes) (is_text None printed) closed

    -- what it builds is the root, up to fillings
    builds_here : (r : Readable) → UpToFillings (locations text_of) (resolved_root C (isolated ctx.dialects) g) (build (isolated ctx.dialects) (first ctx) r.1 r.0)
    builds_here (tree, entries, rest, reads, clean) =
        let b = build (isolated ctx.dialects) (first ctx) entries tree in
        let h = held_back types reading text_of types_law owns_law unreserved C sound reflexive (isolated ctx.dialects) (first ctx) (λ p. refl) g width n (chars bytes) (is_text None printed) closed rest (Some b) (record { tree = tree; entries = entries; reads = reads; resolves = clean; builds = refl }) in
        subst (λ z. UpToFillings (locations text_of) (resolved_root C (isolated ctx.dialects) g) z) (sym (some_eq h.is)) h.same

    -- whatever it parses as there, it parses as here
    read_alike : (r : Readable) (tree : Tree ℕ T A) (entries : List (Entry ℕ A (Written A))) (rest : Text) → reads_root (supported old.state.ctx.now.dialects types owns) (location_verdict attr) tree entries (chars bytes) rest
        → ReadsHere types owns types_law owns_law (location_verdict attr) (locations text_of) C (isolated ctx.dialects) (first ctx) ctx.dialects old.state.ctx.now.dialects g alike (chars bytes) tree entries rest
    read_alike r =
        reads_there types owns types_law owns_law (location_verdict attr) (locations text_of) C (isolated ctx.dialects) (first ctx) ctx.dialects old.state.ctx.now.dialects g alike (chars bytes) r.0 r.1 r.2 r.3 (builds_here r)

    -- what was parsed from it
    read_as : (q : Ptr Operation) (new : StateStream T A U) → BuildsRoot types owns attr q old new → ReadsAs types owns attr C (isolated ctx.dialects) (first new.state.ctx.now) (chars bytes) new.stream.rest (held_root new.state.ctx.now q)
    read_as q new b =
        let h = read_alike read_here b.tree b.entries new.stream.rest (subst (λ t. reads_root (supported old.state.ctx.now.dialects types owns) (location_verdict attr) b.tree b.entries t new.stream.rest) follows_on b.reads) in
        record {
          tree = b.tree;
          entries = b.entries;
          reads = h.here;
          resolves = sym (failures_alike ctx.dialects old.state.ctx.now.dialects b.tree b.entries h.known) ∙ b.resolves;
          builds = b.builds ∙ ap Some (build_alike ctx.dialects old.state.ctx.now.dialects (first new.state.ctx.now) b.entries b.tree h.known);
        }

    pub gives_back_root : (q : Ptr Operation) (new : StateStream T A U) → BuildsRoot types owns attr q old new → GivesBackRoot types owns attr C ctx.dialects g q new
    gives_back_root q new b =
        held_back types reading text_of types_law owns_law unreserved C sound reflexive (isolated ctx.dialects) (first new.state.ctx.now) (λ p. refl) g width n (chars bytes) (is_text None printed) closed
        new.stream.rest (held_root new.state.ctx.now q) (read_as q new b)

    pub gives_back_whole : Named C g → (q : Ptr Operation) (new : StateStream T A U) → BuildsRoot types owns attr q old new → GivesBackWhole types owns attr C ctx.dialects g q new
    gives_back_whole named q new b =
        held_whole types reading text_of types_law owns_law unreserved C sound reflexive (isolated ctx.dialects) (first new.state.ctx.now) (λ p. refl) g width n (chars bytes) (is_text None printed) closed
        named new.stream.rest (held_root new.state.ctx.now q) (read_as q new b)

    pub not_refused : (types_at : Text → Outcome T) (fault : ParseFault A) → RefusesRoot types owns types_at attr old.state.ctx.now.dialects old.stream fault → ⊥
    not_refused types_at fault there = go read_here
      where
        go : Readable → ⊥
        go r =
            let h = reads_too types owns types_law owns_law (location_verdict attr) (locations text_of) C (isolated ctx.dialects) (first ctx) ctx.dialects old.state.ctx.now.dialects g alike (chars bytes) r.0 r.1 r.2 r.3 (builds_here r) in
            let here = subst (λ t. reads_root (supported old.state.ctx.now.dialects types owns) (location_verdict attr) r.0 r.1 t r.2) (sym follows_on) h.there in
            subst (λ z. IsFirst (whole old.stream) z fault) (failures_alike ctx.dialects old.state.ctx.now.dialects r.0 r.1 h.known ∙ r.4) (there.first r.0 r.1 r.2 here)
