use Rattle.std.proofs.Common.{◌∙◌, refl, sym, ap, is_none, option_copied}
use Rattle.irtext_base.specs.FormatViews.{directives_of}
use Rattle.irtext_grammar.specs.Contexts.Held.{entries_of}
use Rattle.irtext_print_ops.proofs.Counting.{tested}
use Rattle.irtext_print_ops.proofs.FitTexts.{passes, fails}
use Rattle.irtext_print_ops.proofs.fits.check_parts.Goals as goal

pub missing_named-requires : goal.missing_named-requires
missing_named-requires g c = ap (λ p. p.keys) c.places_of-places.ensures

pub uncovered_key-requires : goal.uncovered_key-requires
uncovered_key-requires g c = ap (λ p. p.dictionary) c.places_of-places.ensures

pub returns-then-not-counts_fit : goal.returns-then-not-counts_fit
returns-then-not-counts_fit g c =
    let t = tested g.A.AttrText.outlined (directives_of c.args.directives.now) c.args.counts (entries_of c.args.attributes.now) c.places_of-places.result c.places_of-places.ensures in
    record { first = fails _ _ (t.operands c.counts_fit.ensures) c.if-not-counts_fit.true; names = refl }

pub returns-then-not-counts_fit-2 : goal.returns-then-not-counts_fit-2
returns-then-not-counts_fit-2 g c =
    let t = tested g.A.AttrText.outlined (directives_of c.args.directives.now) c.args.counts (entries_of c.args.attributes.now) c.places_of-places.result c.places_of-places.ensures in
    record { first = passes _ _ (t.operands c.counts_fit.ensures) c.if-not-counts_fit.false (fails _ _ (t.successors c.counts_fit-2.ensures) c.if-not-counts_fit-2.true); names = refl }

pub returns-then-not-counts_fit-3 : goal.returns-then-not-counts_fit-3
returns-then-not-counts_fit-3 g c =
    let t = tested g.A.AttrText.outlined (directives_of c.args.directives.now) c.args.counts (entries_of c.args.attributes.now) c.places_of-places.result c.places_of-places.ensures in
    record { first = passes _ _ (t.operands c.counts_fit.ensures) c.if-not-counts_fit.false (passes _ _ (t.successors c.counts_fit-2.ensures) c.if-not-counts_fit-2.false (fails _ _ (t.results c.counts_fit-3.ensures) c.if-not-counts_fit-3.true)); names = refl }

pub returns-then-not-counts_fit-4 : goal.returns-then-not-counts_fit-4
returns-then-not-counts_fit-4 g c =
    let t = tested g.A.AttrText.outlined (directives_of c.args.directives.now) c.args.counts (entries_of c.args.attributes.now) c.places_of-places.result c.places_of-places.ensures in
    record { first = passes _ _ (t.operands c.counts_fit.ensures) c.if-not-counts_fit.false (passes _ _ (t.successors c.counts_fit-2.ensures) c.if-not-counts_fit-2.false (passes _ _ (t.results c.counts_fit-3.ensures) c.if-not-counts_fit-3.false (fails _ _ (t.regions c.counts_fit-4.ensures) c.if-not-counts_fit-4.true))); names = refl }

pub returns-in-Some : goal.returns-in-Some
returns-in-Some g c =
    let t = tested g.A.AttrText.outlined (directives_of c.args.directives.now) c.args.counts (entries_of c.args.attributes.now) c.places_of-places.result c.places_of-places.ensures in
    record {
      first = passes _ _ (t.operands c.counts_fit.ensures) c.if-not-counts_fit.false (passes _ _ (t.successors c.counts_fit-2.ensures) c.if-not-counts_fit-2.false (passes _ _ (t.results c.counts_fit-3.ensures) c.if-not-counts_fit-3.false (passes _ _ (t.regions c.counts_fit-4.ensures) c.if-not-counts_fit-4.false
          (fails _ _ (t.missing c.missing_named.ensures) (ap (λ o. is_none (option_copied o)) c.in-Some.is)))));
      names = sym c.missing_named.ensures ∙ ap option_copied c.in-Some.is;
    }

pub returns-then-not-symbol_fits : goal.returns-then-not-symbol_fits
returns-then-not-symbol_fits g c =
    let t = tested g.A.AttrText.outlined (directives_of c.args.directives.now) c.args.counts (entries_of c.args.attributes.now) c.places_of-places.result c.places_of-places.ensures in
    record {
      first = passes _ _ (t.operands c.counts_fit.ensures) c.if-not-counts_fit.false (passes _ _ (t.successors c.counts_fit-2.ensures) c.if-not-counts_fit-2.false (passes _ _ (t.results c.counts_fit-3.ensures) c.if-not-counts_fit-3.false (passes _ _ (t.regions c.counts_fit-4.ensures) c.if-not-counts_fit-4.false
          (passes _ _ (t.missing c.missing_named.ensures) (ap (λ o. is_none (option_copied o)) c.in-None.is) (fails _ _ (t.symbol c.symbol_fits.ensures) c.if-not-symbol_fits.true)))));
      names = tt;
    }

pub returns-in-Some-uncovered_key : goal.returns-in-Some-uncovered_key
returns-in-Some-uncovered_key g c =
    let t = tested g.A.AttrText.outlined (directives_of c.args.directives.now) c.args.counts (entries_of c.args.attributes.now) c.places_of-places.result c.places_of-places.ensures in
    record {
      first = passes _ _ (t.operands c.counts_fit.ensures) c.if-not-counts_fit.false (passes _ _ (t.successors c.counts_fit-2.ensures) c.if-not-counts_fit-2.false (passes _ _ (t.results c.counts_fit-3.ensures) c.if-not-counts_fit-3.false (passes _ _ (t.regions c.counts_fit-4.ensures) c.if-not-counts_fit-4.false
          (passes _ _ (t.missing c.missing_named.ensures) (ap (λ o. is_none (option_copied o)) c.in-None.is) (passes _ _ (t.symbol c.symbol_fits.ensures) c.if-not-symbol_fits.false (fails _ _ (t.uncovered c.uncovered_key.ensures) (ap (λ o. is_none (option_copied o)) c.in-Some-uncovered_key.is)))))));
      names = sym c.uncovered_key.ensures ∙ ap option_copied c.in-Some-uncovered_key.is;
    }

pub returns-in-None-uncovered_key : goal.returns-in-None-uncovered_key
returns-in-None-uncovered_key g c =
    let t = tested g.A.AttrText.outlined (directives_of c.args.directives.now) c.args.counts (entries_of c.args.attributes.now) c.places_of-places.result c.places_of-places.ensures in
    record {
      first = passes _ _ (t.operands c.counts_fit.ensures) c.if-not-counts_fit.false (passes _ _ (t.successors c.counts_fit-2.ensures) c.if-not-counts_fit-2.false (passes _ _ (t.results c.counts_fit-3.ensures) c.if-not-counts_fit-3.false (passes _ _ (t.regions c.counts_fit-4.ensures) c.if-not-counts_fit-4.false
          (passes _ _ (t.missing c.missing_named.ensures) (ap (λ o. is_none (option_copied o)) c.in-None.is) (passes _ _ (t.symbol c.symbol_fits.ensures) c.if-not-symbol_fits.false (passes _ _ (t.uncovered c.uncovered_key.ensures) (ap (λ o. is_none (option_copied o)) c.in-None-uncovered_key.is) refl))))));
      names = tt;
    }
