use Rattle.std.proofs.Common.{◌∷◌, [], sym, ap, subst, ◌∙◌, length}
use Rattle.std.proofs.lemmas.List.{map-append}
use Rattle.irtext_base.specs.Format.{custom}
use Rattle.irtext_base.specs.FormatViews.{directive_of, directives_of}
use Rattle.irtext_base.specs.Notation.{directives_after}
use Rattle.irtext_stream.specs.NotationFaults.{whole}
use Rattle.irtext_stream.proofs.NotationSteps.{handed}
use Rattle.irtext_base.proofs.NotationDirectives.{refused, Listed, listed_start, listed_faults, listed_more, listed_shorter, listed_done}
use Rattle.irtext_base.proofs.format.notation.read.directives.Goals as goal

pub loop-found-init : goal.loop-found-init
loop-found-init c =
    let old = c.args.stream.now in subst (λ ds. Listed old.rest (whole old) (directives_of ds) old) (sym c.new-found.ensures.items) (listed_start old)

pub returns-in_err-directive : goal.returns-in_err-directive
returns-in_err-directive c =
    let old = c.args.stream.now in
    let f = listed_faults c.loop-found.invariant c.in_err-directive.field-0.0 (sym c.ended.ensures ∙ c.loop-found-test.true) c.in_err-directive.ensures in
    handed (λ ds. custom (directives_of ds.items)) (whole old) (directives_after (length old.rest) [] old.rest) c.directive.new.stream c.from_residual.result c.in_err-directive.field-0.0 c.from_residual.ensures.1 f

pub returns-in_err-push : goal.returns-in_err-push
returns-in_err-push c =
    let old = c.args.stream.now in
    refused (λ ds. custom (directives_of ds.items)) (whole old) (directives_after (length old.rest) [] old.rest) c.directive.new.stream c.from_residual-in_err-push.result c.from_residual-in_err-push.ensures.1

pub loop-found-smaller : goal.loop-found-smaller
loop-found-smaller c = listed_shorter (directive_of c.in_ok-directive.field-0) c.loop-found.stream c.directive.new.stream c.skip.new.self c.in_ok-directive.ensures.0 c.skip.ensures

pub loop-found-preserved : goal.loop-found-preserved
loop-found-preserved c =
    let old = c.args.stream.now in
    let l = listed_more c.loop-found.invariant (directive_of c.in_ok-directive.field-0) c.directive.new.stream c.skip.new.self (sym c.ended.ensures ∙ c.loop-found-test.true) c.in_ok-directive.ensures.0 c.in_ok-directive.ensures.1 c.skip.ensures in
    subst (λ ds. Listed old.rest (whole old) ds c.skip.new.self) (sym (ap directives_of c.in_ok-push.ensures.items ∙ map-append directive_of c.loop-found.found.items (c.in_ok-directive.field-0 ∷ []))) l

pub returns : goal.returns
returns c = listed_done c.loop-found.invariant (sym c.ended.ensures ∙ c.loop-found-test.false)
