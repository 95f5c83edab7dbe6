use Rattle.std.proofs.Common.{◌≡◌, ◌∙◌, sym, subst, slice_get, string_bytes}
use Rattle.irtext_graph.specs.Parts.{regions}
use Rattle.irtext_print_ops.proofs.NextRegions.{begun_left, begun_text, past_left, past_text, too_deep}
use Rattle.irtext_print_ops.proofs.Refused.{propagated}
use Rattle.irtext_print_ops.proofs.step.region_turn.Goals as goal

pub returns-in_default-clause-text : goal.returns-in_default-clause-text
returns-in_default-clause-text g c =
    let f = c.args.frame.now in
    let next = subst (λ z. c.region_at.result ≡ slice_get (regions z f.op) f.region) c.graph.ensures c.region_at.ensures.is in
    past_text c.args.ctx.now c.args.width f (sym next ∙ c.in_default.is) (string_bytes c.args.f.now)

pub returns-in_default-clause-left : goal.returns-in_default-clause-left
returns-in_default-clause-left g c =
    let f = c.args.frame.now in
    let next = subst (λ z. c.region_at.result ≡ slice_get (regions z f.op) f.region) c.graph.ensures c.region_at.ensures.is in
    past_left c.args.ctx.now c.args.width f (sym next ∙ c.in_default.is)

pub returns-clause-text : goal.returns-clause-text
returns-clause-text g c =
    let f = c.args.frame.now in
    let next = subst (λ z. c.region_at.result ≡ slice_get (regions z f.op) f.region) c.graph.ensures c.region_at.ensures.is in
    begun_text c.args.ctx.now c.args.width f c.in-Some.region (sym next ∙ c.in-Some.is) (string_bytes c.args.f.now) (string_bytes c.begin_region.new.f) c.in_ok-begun.ensures.text

pub returns-clause-left : goal.returns-clause-left
returns-clause-left g c =
    let f = c.args.frame.now in
    let next = subst (λ z. c.region_at.result ≡ slice_get (regions z f.op) f.region) c.graph.ensures c.region_at.ensures.is in
    begun_left c.args.ctx.now c.args.width f c.in-Some.region (sym next ∙ c.in-Some.is) c.in_ok-begun.begun c.in_ok-begun.ensures.opens

pub returns-in_err-begun-clause-refused : goal.returns-in_err-begun-clause-refused
returns-in_err-begun-clause-refused g c =
    let f = c.args.frame.now in
    let e = c.in_err-begun.field-0.0 in
    let next = subst (λ z. c.region_at.result ≡ slice_get (regions z f.op) f.region) c.graph.ensures c.region_at.ensures.is in
    propagated _ c.from_residual.result e c.from_residual.ensures.1 (too_deep c.args.ctx.now c.args.width f c.in-Some.region (sym next ∙ c.in-Some.is) e c.in_err-begun.ensures.refused)
