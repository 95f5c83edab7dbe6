use Rattle.std.proofs.Common.{◌≡◌, Some, arith, subst}
use Rattle.irtext_graph.specs.Back.{AllOlder}
use Rattle.irtext_graph.specs.Graph.{IsLive, parent}
use Rattle.irtext_graph.specs.declared.object.Object.{Object}
use Rattle.irtext_graph.specs.declared.object.Object.TheVariants.{TheBlock, TheRegion}
use Rattle.irtext_context.proofs.Contexts.{same-keeps}
use Rattle.irtext_context.proofs.Kept.{kept_trans, kept_closed, rolled_back}
use Rattle.irtext_builder.proofs.Fresh.{can_insert_alone, childless_outline, free_outline, kept_context, new_outline, region_still_new}
use Rattle.irtext_builder.proofs.block.BlockDraft.build_in.Goals as goal

pub insert_at_back-requires-clause-can : goal.insert_at_back-requires-clause-can
insert_at_back-requires-clause-can g c =
    let made = c.in_ok-block.ensures.made in
    let older = subst (λ m. AllOlder m c.args.ctx.now.graph) c.made-mark.ensures.made c.made-mark.ensures.older in
    let kept = c.build.ensures.kept c.args.ctx.now.graph.made (omega arith) in
    can_insert_alone c.build.new.ctx.graph (TheRegion c.args.region) (TheBlock c.in_ok-block.block)
    (childless_outline c.in_ok-block.block made older kept (subst (λ g. (c k : Object) → parent g c ≡ Some k → IsLive g k) c.graph.ensures c.keeps_nesting.ensures.holders)) (λ e. absurd (cc)) (free_outline c.in_ok-block.block made)

pub roll_back-requires : goal.roll_back-requires
roll_back-requires g c =
    let kept = c.build.ensures.kept c.made-mark.result (omega (arith, c.made-mark.ensures.made)) in
    let same = same-keeps c.made-mark.result c.build.new.ctx c.insert_at_back.new.ctx c.in-Err.ensures.err in
    record { closed = kept_closed c.made-mark.ensures.closed (kept_trans kept same) }

pub returns-in-Ok-clause-kept : goal.returns-in-Ok-clause-kept
returns-in-Ok-clause-kept g c = λ mark h new.
    let made = c.in_ok-block.ensures.made in
    kept_trans (c.build.ensures.kept mark h)
    (kept_context mark c.build.new.ctx c.insert_at_back.new.ctx
    (c.insert_at_back.ensures.kept mark (region_still_new c.in_ok-block.block made mark c.args.region new) (new_outline c.in_ok-block.block made mark h)) c.insert_at_back.ensures.rest)

pub returns-in-Err-clause-kept : goal.returns-in-Err-clause-kept
returns-in-Err-clause-kept g c = λ mark h new.
    let same = same-keeps mark c.build.new.ctx c.insert_at_back.new.ctx c.in-Err.ensures.err in
    kept_trans (kept_trans (c.build.ensures.kept mark h) same) (c.roll_back.ensures.kept mark (omega (arith, h, c.made-mark.ensures.made)))

pub returns-in-Err-clause-objects : goal.returns-in-Err-clause-objects
returns-in-Err-clause-objects g c =
    let kept = c.build.ensures.kept c.made-mark.result (omega (arith, c.made-mark.ensures.made)) in
    let same = same-keeps c.made-mark.result c.build.new.ctx c.insert_at_back.new.ctx c.in-Err.ensures.err in
    rolled_back c.made-mark.ensures.older (kept_trans kept same) c.roll_back.ensures.back
