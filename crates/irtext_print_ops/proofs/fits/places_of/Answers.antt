use Rattle.std.proofs.Common.{◌≡◌, ◌∙◌, ◌∷◌, ◌+◌, sym, ap, subst, drop}
use Rattle.std.proofs.lemmas.List.{drop_more}
use Rattle.irtext_base.specs.FormatViews.{directive_of, directives_of}
use Rattle.irtext_print_ops.specs.Fits.{counted_on}
use Rattle.irtext_print_ops.proofs.Counting.{AtMost, one_more}
use Rattle.irtext_print_ops.proofs.fits.places_of.Goals as goal

pub loop-directive-preserved : goal.loop-directive-preserved
loop-directive-preserved c =
    let i = c.loop-directive.directive-index in
    let split : drop i c.args.directives.now ≡ c.directive-item.result ∷ drop (i + 1) c.args.directives.now
    = drop_more c.args.directives.now i c.directive-item.result c.loop-directive-test.true ∙ ap (λ z. z ∷ drop (i + 1) c.args.directives.now) (sym c.directive-item.is) in
    record {
      all = ap (λ z. counted_on z (directives_of (drop (i + 1) c.args.directives.now))) c.count_directive.ensures ∙ (sym (ap (λ ds. counted_on c.loop-directive.places (directives_of ds)) split) ∙ c.loop-directive.invariant.all);
      few = subst (λ p. AtMost (i + 1) p) (sym c.count_directive.ensures) (one_more i c.loop-directive.places (directive_of c.directive-item.result) c.loop-directive.invariant.few);
    }
