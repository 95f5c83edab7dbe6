use Rattle.std.proofs.Common.{◌∙◌, not, sym, ap}
use Rattle.irtext_base.specs.FormatViews.{directives_of}
use Rattle.irtext_context.specs.Entries.{entries_left}
use Rattle.irtext_grammar.specs.Contexts.Held.{entries_of}
use Rattle.irtext_print.proofs.Printers.FitFaults.{key_found, key_later}
use Rattle.irtext_print_ops.specs.Fits.{is_covered, first_uncovered}
use Rattle.irtext_print_ops.proofs.fits.first_uncovered.Goals as goal

pub returns-then-not-is_covered : goal.returns-then-not-is_covered
returns-then-not-is_covered g c =
    let ds = directives_of c.args.directives.now in
    key_found (λ e. not (is_covered g.A.AttrText.outlined ds e)) c.in-Some.key.now c.in-Some.attr.now (entries_left c.next.new.self) (entries_left c.loop-key.key-iterator)
    (first_uncovered g.A.AttrText.outlined ds (entries_of c.args.attributes.now)) c.in-Some.ensures.steps c.loop-key.invariant
    (ap not (sym c.is_covered.ensures ∙ c.if-not-is_covered.true))

pub loop-key-preserved : goal.loop-key-preserved
loop-key-preserved g c =
    let ds = directives_of c.args.directives.now in
    key_later (λ e. not (is_covered g.A.AttrText.outlined ds e)) c.in-Some.key.now c.in-Some.attr.now (entries_left c.next.new.self) (entries_left c.loop-key.key-iterator)
    (first_uncovered g.A.AttrText.outlined ds (entries_of c.args.attributes.now)) c.in-Some.ensures.steps c.loop-key.invariant
    (ap not (sym c.is_covered.ensures ∙ c.if-not-is_covered.false))
