use Rattle.std.proofs.Common.{◌≡◌, Some, ◌-◌, ◌≤◌, suc, slice_get, sym, ◌∙◌, ap, subst, arith}
use Rattle.irtext_context.specs.Dictionary.{whole, IsSound}
use Rattle.irtext_context.proofs.Spliced
use Rattle.irtext_context.proofs.base.attributes.AttributeDict.get_index.Goals as goal

pub returns-then-index-given : goal.returns-then-index-given
returns-then-index-given g c =
    let sound = subst (λ o. IsSound o c.self.inside.others) c.in-Some.is c.self.invariant in
    c.at-then-index-given.ensures
    ∙ sym (Spliced.get-spliced-before c.args.index c.in-Some.given.at (c.in-Some.given.key, c.in-Some.given.attr) c.self.inside.others sound.1 (omega (arith, c.if-index-given.true)))
    ∙ ap (λ o. slice_get (whole o c.self.inside.others) c.args.index) (sym c.in-Some.is)
    ∙ ap (λ es. slice_get es c.args.index) c.self.view_is

pub returns-then-index-given-2 : goal.returns-then-index-given-2
returns-then-index-given-2 g c =
    let sound = subst (λ o. IsSound o c.self.inside.others) c.in-Some.is c.self.invariant in
    let here : c.args.index ≡ c.in-Some.given.at = omega (arith, c.if-index-given-2.true) in
    sym (Spliced.get-spliced-at c.in-Some.given.at (c.in-Some.given.key, c.in-Some.given.attr) c.self.inside.others sound.1)
    ∙ ap (λ i. slice_get (whole (Some c.in-Some.given) c.self.inside.others) i) (sym here)
    ∙ ap (λ o. slice_get (whole o c.self.inside.others) c.args.index) (sym c.in-Some.is)
    ∙ ap (λ es. slice_get es c.args.index) c.self.view_is

pub returns : goal.returns
returns g c =
    let past : c.in-Some.given.at ≤ c.args.index - 1 = omega (arith, c.if-index-given.false, c.if-index-given-2.false) in
    let one : suc (c.args.index - 1) ≡ c.args.index = omega (arith, c.if-index-given.false, c.if-index-given-2.false) in
    c.at-2.ensures
    ∙ sym (Spliced.get-spliced-after (c.args.index - 1) c.in-Some.given.at (c.in-Some.given.key, c.in-Some.given.attr) c.self.inside.others past)
    ∙ ap (λ i. slice_get (whole (Some c.in-Some.given) c.self.inside.others) i) one
    ∙ ap (λ o. slice_get (whole o c.self.inside.others) c.args.index) (sym c.in-Some.is)
    ∙ ap (λ es. slice_get es c.args.index) c.self.view_is
