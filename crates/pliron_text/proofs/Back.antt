-- The promises of the two calls, put together as those who make them know them.
use Rattle.std.proofs.Common.{◌≡◌, ◌∙◌, ◌<◌, ◌^◌, ◌⊎◌, ℕ, Bool, true, List, length, Option, Some, None, option_map, Result, Ok, Err, refl, sym, ap, subst, inl, inr}
use Rattle.std.specs.Prelude.{IfErr}
use Rattle.std.specs.Str.{IsUtf8, chars}
use Rattle.irtext_base.specs.Answers.{Outcome}
use Rattle.irtext_base.specs.Faults.{fault_of}
use Rattle.irtext_base.specs.Faults as faults
use Rattle.irtext_base.specs.Locations.{AttrView}
use Rattle.irtext_base.specs.Own.{Texts, texts_of, Lawful, Unreserved}
use Rattle.irtext_base.specs.Stream.{StreamView}
use Rattle.irtext_base.specs.Text.{Text}
use Rattle.irtext_base.specs.declared.parsable.fault.ParseFault.{ParseFault}
use Rattle.irtext_base.specs.declared.text.AttrText as attr_text
use Rattle.irtext_base.specs.declared.text.IrText as ir_text
use Rattle.irtext_context.specs.Context.{ContextView, OperationView, operation}
use Rattle.irtext_graph.specs.declared.arena.Ptr.{Ptr}
use Rattle.irtext_graph.specs.declared.object.Operation.{Operation}
use Rattle.irtext_graph.specs.Graph.{children, parent}
use Rattle.irtext_graph.specs.Nested.{Nested}
use Rattle.irtext_graph.proofs.Nests.{some_eq}
use Rattle.irtext_grammar.specs.Contexts.Formats.{isolated}
use Rattle.irtext_grammar.specs.Contexts.Nested.{pointers, printing_over, seen_operation, seen_regions, seen_root}
use Rattle.irtext_grammar.specs.Grammar.Marked.{AllShown}
use Rattle.irtext_grammar.specs.Graphs.Closed.{Fit}
use Rattle.irtext_grammar.specs.Graphs.Graph.{Graph, Printing, written}
use Rattle.irtext_grammar.specs.Graphs.Regained.{Named}
use Rattle.irtext_grammar.specs.Promises.Root.{UnlessMemory}
use Rattle.irtext_print.specs.Printers.PrintedOperation.{levels}
use Rattle.irtext_print.specs.Printers.Shown.{Shown}
use Rattle.irtext_print.specs.declared.printable.refusal.Refusal.TheVariants.{Misfit}
use Rattle.irtext_print_ir.specs.Printers.Printed.{block_round}
use Rattle.irtext_print_ops.proofs.Depths.{inside_is}
use Rattle.irtext_print_ops.specs.Faults.{OperationFault, RegionsFault}
use Rattle.irtext_print_ops.specs.Heads as heads
use Rattle.irtext_print_ops.specs.Walk.{or_nothing}
use Rattle.irtext_names.specs.Held.{held_root}
use Rattle.irtext_parse_state.specs.FromText.{at_beginning, Begins}
use Rattle.irtext_parse_state.specs.declared.parsable.state.StateStream.{StateStream}
use Rattle.irtext_tokens.specs.AttrTexts.{attr_at}
use Rattle.irtext_grammar.specs.Back.{ClosedRoot, HeldBack, HeldWhole}
use Rattle.irtext_grammar.specs.RootParts.{KeptRoot}
use Rattle.irtext_alike.specs.Alike.{KnowsRoot}
use Rattle.pliron_text.specs.Alike.{AreKnownAlike}
use Rattle.pliron_text.specs.PrintedRoot.{PrintedRoot}
use Rattle.pliron_text.proofs.Alike.Seen.{seen_alike}
use Rattle.pliron_text.proofs.PrintedBack.{without_limit, gives_back_root, gives_back_whole, not_refused, none_read}
use Rattle.pliron_text.specs.Calls.{IsPrinted, ShowsAll, ReadsPrinted, ComesBack, ComesBackWhole, ReadsText, RefusesText}
use Rattle.pliron_text.proofs.Fitting.{fits_whole}
use Rattle.pliron_text.proofs.Unlimited.{fault_shown}

-- what holds of an error that is not out of memory
pub refused_as : {X A : Type 0} (P Q : ParseFault A → Type 0) → ((f : ParseFault A) → P f → Q f) → (r : Result X (ParseFault A)) → IfErr r (UnlessMemory P) → IfErr r (UnlessMemory Q)
refused_as P Q as-q (Ok x) h = tt
refused_as P Q as-q (Err f) h = elim h [ inl m ↦ inl m | inr p ↦ inr (as-q f p) ]

module _ {T A : Type 0} (types : ir_text.Ghosts T A) (owns : ir_text.Ghosts A A) (attributes : attr_text.Ghosts A A) (same : A → A → Bool)
    (ctx : ContextView T A) (p : Ptr Operation) (nested : Nested (children ctx.graph) (parent ctx.graph)) (layout : Shown (Unit {0})) where
  -- what the caller's types mean by their texts
  abbrev texts : Texts T
  texts = texts_of types.reading types.written

  abbrev own_texts : Texts A
  own_texts = texts_of owns.reading owns.written

  abbrev attr : Text → Outcome (AttrView A)
  attr = attr_at owns.reading

  abbrev C : Printing T A
  C = printing_over ctx attributes.outlined attributes.print_once same

  abbrev root : OperationView T A → Graph T A
  root op = record { own = seen_operation owns.written ctx p op; regions = seen_regions owns.written ctx (pointers ctx.graph p).regions }

  -- what was printed with all its regions fits
  seen_fits : (g : Graph T A) → seen_root owns.written ctx p ≡ Some g → ShowsAll types owns attributes same ctx p layout g → (heads.MisfitsUnder types owns attributes same ctx p layout → ⊥) → Fit C (isolated ctx.dialects) g
  seen_fits g sees shown fits = go (operation ctx p) refl sees
    where
      go : (o : Option (OperationView T A)) → operation ctx p ≡ o → option_map root o ≡ Some g → Fit C (isolated ctx.dialects) g
      go None e s = absurd (cc)
      go (Some view) e s =
          let here : root view ≡ g = some_eq s in
          let all : AllShown (written C (levels layout.limit) (root view)) = subst (λ (z : Graph T A). AllShown (written C (levels layout.limit) z)) (sym here) shown in
          subst (λ (z : Graph T A). Fit C (isolated ctx.dialects) z) here
          (fits_whole C (isolated ctx.dialects) layout.width layout.indent (root view) (λ k. fits
          (subst (λ o. OperationFault C (isolated ctx.dialects) layout.width Misfit o (heads.regions_under types owns attributes same ctx p) ⊎ RegionsFault C (isolated ctx.dialects) layout.width Misfit layout.indent (levels layout.limit) (heads.regions_under types owns attributes same ctx p))
          (sym (ap (λ z. or_nothing (option_map (seen_operation owns.written ctx p) z)) e))
          (subst (λ rs. OperationFault C (isolated ctx.dialects) layout.width Misfit (seen_operation owns.written ctx p view) (seen_regions owns.written ctx rs) ⊎ RegionsFault C (isolated ctx.dialects) layout.width Misfit layout.indent (levels layout.limit) (seen_regions owns.written ctx rs))
          (inside_is ctx.graph nested p) (elim k [ inl x ↦ inl x | inr x ↦ inr (fault_shown C (isolated ctx.dialects) layout.width Misfit (levels layout.limit) (root view) all layout.indent x) ])))))

  -- what was parsed was parsed from the printed text
  pub read_printed : (bytes : List ℕ) → IsPrinted types owns attributes same ctx p layout bytes → (text : List ℕ) → text ≡ bytes → (other : ContextView T A) (q : Ptr Operation) (left : ContextView T A) → ReadsText texts own_texts attr text other q left
      → ReadsPrinted types owns attributes same ctx p layout other q left
  read_printed bytes printed text is other q left r = record { bytes = text; printed = subst (IsPrinted types owns attributes same ctx p layout) (sym is) printed; reads = r }

  -- The facts of what is parsed back from the printed text of a root, in a context that knows its operations alike.
  pub record IsBack (g : Graph T A) (text : List ℕ) (other : ContextView T A) : Type 0 where
    pub back : ShowsAll types owns attributes same ctx p layout g → (Fit C (isolated ctx.dialects) g → ClosedRoot C (isolated ctx.dialects) g) → (q : Ptr Operation) (left : ContextView T A) → ReadsText texts own_texts attr text other q left → ComesBack types owns attributes same ctx p layout other q left g
    pub whole : ShowsAll types owns attributes same ctx p layout g → (Fit C (isolated ctx.dialects) g → ClosedRoot C (isolated ctx.dialects) g × Named C g) → (q : Ptr Operation) (left : ContextView T A) → ReadsText texts own_texts attr text other q left → ComesBackWhole types owns attributes same ctx p layout other q left g
    pub limited : Fit C (isolated ctx.dialects) g → (ShowsAll types owns attributes same ctx p layout g → ⊥) → (q : Ptr Operation) (left : ContextView T A) → ReadsText texts own_texts attr text other q left → ⊥
    pub refused : ShowsAll types owns attributes same ctx p layout g → (Fit C (isolated ctx.dialects) g → ClosedRoot C (isolated ctx.dialects) g) → (f : ParseFault A) → UnlessMemory (RefusesText texts own_texts attr text other types.reading) f → fault_of f.cause ≡ faults.Memory

  module _ (types_law : Lawful T texts) (owns_law : Lawful A own_texts) (unreserved : Unreserved A own_texts) (sound : (a b : A) → same a b ≡ true → a ≡ b) (reflexive : (a : A) → same a a ≡ true)
      (bytes : List ℕ) (utf8 : IsUtf8 bytes) (few : length bytes < 2 ^ 64) (printed : IsPrinted types owns attributes same ctx p layout bytes) (text : List ℕ) (text_is : text ≡ bytes) (other : ContextView T A) (knows : KnowsRoot ctx other.dialects p)
      (keeps : (g : Graph T A) → seen_root owns.written ctx p ≡ Some g → KeptRoot attr owns.written C (isolated ctx.dialects) g) (nowhere : block_round ctx p ≡ None) (g : Graph T A) (sees : seen_root owns.written ctx p ≡ Some g) where
    as_printed : Fit C (isolated ctx.dialects) g → PrintedRoot texts own_texts attr C ctx p g layout.width layout.indent (levels layout.limit) bytes
    as_printed fits = record { sees = sees; kept = keeps g sees; fits = fits; utf8 = utf8; few = few; printed = printed.is_text g sees nowhere }

    -- the characters that come first, of a stream that begins with the text
    begins : (old : StateStream T A (Unit {0})) → Begins (at_beginning text) other old → old.stream.rest ≡ chars bytes
    begins old s = ap (λ (v : StreamView). v.rest) s.stream_is ∙ ap chars text_is

    alike_there : (old : StateStream T A (Unit {0})) → Begins (at_beginning text) other old → AreKnownAlike old.state.ctx.now.dialects ctx.dialects g
    alike_there old s = subst (λ z. AreKnownAlike z ctx.dialects g) (sym (ap (λ (v : ContextView T A). v.dialects) s.context)) (seen_alike ctx owns.written p nested other.dialects knows g sees)

    -- nothing is parsed from a root of which a region was left out
    nothing_back : Fit C (isolated ctx.dialects) g → (ShowsAll types owns attributes same ctx p layout g → ⊥) → (q : Ptr Operation) (left : ContextView T A) → ReadsText texts own_texts attr text other q left → ⊥
    nothing_back fits out q left r =
        none_read texts owns.reading owns.written types_law owns_law unreserved attributes.outlined attributes.print_once same sound reflexive ctx p g layout.width layout.indent bytes (levels layout.limit) (as_printed fits) r.old (begins r.old r.begins)
        (alike_there r.old r.begins) out q r.new r.builds

    module _ (shown : ShowsAll types owns attributes same ctx p layout g) where
      fits_there : Fit C (isolated ctx.dialects) g
      fits_there = seen_fits g sees shown printed.fits

      wholly : PrintedRoot texts own_texts attr C ctx p g layout.width layout.indent None bytes
      wholly = without_limit texts own_texts attr C ctx p g layout.width layout.indent (levels layout.limit) bytes (as_printed fits_there) shown

      -- what is parsed from it is equal to it
      reads_back : (Fit C (isolated ctx.dialects) g → ClosedRoot C (isolated ctx.dialects) g) → (q : Ptr Operation) (left : ContextView T A) → ReadsText texts own_texts attr text other q left → ComesBack types owns attributes same ctx p layout other q left g
      unfolding read_printed
      reads_back closed q left r = (
        read_printed bytes printed text text_is other q left r,
        subst (λ (z : ContextView T A). HeldBack texts own_texts attr C (isolated ctx.dialects) g r.new.stream.rest (held_root z q)) r.ends
            (gives_back_root texts owns.reading owns.written types_law owns_law unreserved attributes.outlined attributes.print_once same sound reflexive ctx p g layout.width layout.indent bytes wholly (closed fits_there) r.old (begins r.old r.begins) (alike_there r.old r.begins) q r.new r.builds),
      )

      -- with nothing filled in but positions, where all has names
      reads_whole : (Fit C (isolated ctx.dialects) g → ClosedRoot C (isolated ctx.dialects) g × Named C g) → (q : Ptr Operation) (left : ContextView T A) → ReadsText texts own_texts attr text other q left → ComesBackWhole types owns attributes same ctx p layout other q left g
      unfolding read_printed
      reads_whole closed q left r = let k = closed fits_there in (
        read_printed bytes printed text text_is other q left r,
        subst (λ (z : ContextView T A). HeldWhole texts own_texts attr C (isolated ctx.dialects) g r.new.stream.rest (held_root z q)) r.ends
            (gives_back_whole texts owns.reading owns.written types_law owns_law unreserved attributes.outlined attributes.print_once same sound reflexive ctx p g layout.width layout.indent bytes wholly k.0 r.old (begins r.old r.begins) (alike_there r.old r.begins) k.1 q r.new r.builds),
      )

      -- and it is an error only if out of memory
      memory_alone : (Fit C (isolated ctx.dialects) g → ClosedRoot C (isolated ctx.dialects) g) → (f : ParseFault A) → UnlessMemory (RefusesText texts own_texts attr text other types.reading) f → fault_of f.cause ≡ faults.Memory
      memory_alone closed f h =
          elim h [
            | inl m ↦ m.because
            | inr r ↦ absurd (not_refused texts owns.reading owns.written types_law owns_law unreserved attributes.outlined attributes.print_once same sound reflexive ctx p g layout.width layout.indent bytes wholly (closed fits_there) r.old (begins r.old r.begins) (alike_there r.old r.begins) types.reading f r.refuses)
          ]

    pub is_back : IsBack g text other
    is_back = record { back = reads_back; whole = reads_whole; limited = nothing_back; refused = memory_alone }
