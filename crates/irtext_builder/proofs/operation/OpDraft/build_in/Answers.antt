use Rattle.std.proofs.Common.{◌∙◌, ap, arith, Err, inr}
use Rattle.std.proofs.lemmas.Result.{err_from_is_err_and}
use Rattle.irtext_graph.specs.declared.object.Object.TheVariants.{TheBlock, TheOperation}
use Rattle.irtext_context.proofs.Contexts.{same-keeps}
use Rattle.irtext_context.proofs.Kept.{kept_trans, kept_closed, rolled_back}
use Rattle.irtext_builder.proofs.Fresh.{appended_live, block_stands, block_still_new, can_insert_new, free_draft, kept_context, new_draft, not_new_lives}
use Rattle.irtext_builder.proofs.operation.OpDraft.build_in.Goals as goal

pub insert_at_back-requires-clause-holder : goal.insert_at_back-requires-clause-holder
insert_at_back-requires-clause-holder g c =
    let kept = c.build.ensures.registered.kept c.made-mark.result (omega (arith, c.made-mark.ensures.made)) in
    not_new_lives c.made-mark.result c.build.new.ctx.graph c.args.block (block_stands c.made-mark.ensures.older kept c.args.block (c.contains_block.ensures.alive.0 c.if-not-contains_block.false))

pub insert_at_back-requires-clause-can : goal.insert_at_back-requires-clause-can
insert_at_back-requires-clause-can g c =
    let kept = c.build.ensures.registered.kept c.made-mark.result (omega (arith, c.made-mark.ensures.made)) in
    let made = c.in_ok-op.ensures.made in
    can_insert_new c.build.new.ctx.graph c.made-mark.result (TheBlock c.args.block) (TheOperation c.in_ok-op.op) (kept_closed c.made-mark.ensures.closed kept)
    (new_draft c.in_ok-op.op made c.made-mark.result (omega (arith, c.made-mark.ensures.made)))
    (block_stands c.made-mark.ensures.older kept c.args.block (c.contains_block.ensures.alive.0 c.if-not-contains_block.false)) (free_draft c.in_ok-op.op made)

pub roll_back-requires : goal.roll_back-requires
roll_back-requires g c =
    let kept = c.build.ensures.registered.kept c.made-mark.result (omega (arith, c.made-mark.ensures.made)) in
    let same = same-keeps c.made-mark.result c.build.new.ctx c.insert_at_back.new.ctx c.in-Err.ensures.err in
    record { closed = kept_closed c.made-mark.ensures.closed (kept_trans kept same) }

pub returns-in-Ok-clause-live : goal.returns-in-Ok-clause-live
returns-in-Ok-clause-live g c = appended_live c.build.new.ctx c.insert_at_back.new.ctx _ _ c.in-Ok.ensures.ok c.in_ok-op.op c.in_ok-op.ensures.live

pub returns-in-Ok-clause-kept : goal.returns-in-Ok-clause-kept
returns-in-Ok-clause-kept g c = λ mark h new.
    let made = c.in_ok-op.ensures.made in
    kept_trans (c.build.ensures.registered.kept mark h)
    (kept_context mark c.build.new.ctx c.insert_at_back.new.ctx
    (c.insert_at_back.ensures.kept mark (block_still_new c.in_ok-op.op made mark c.args.block new) (new_draft c.in_ok-op.op made mark h)) c.insert_at_back.ensures.rest)

pub returns-in-Err-clause-kept : goal.returns-in-Err-clause-kept
returns-in-Err-clause-kept g c = λ mark h new.
    let same = same-keeps mark c.build.new.ctx c.insert_at_back.new.ctx c.in-Err.ensures.err in
    kept_trans (kept_trans (c.build.ensures.registered.kept mark h) same) (c.roll_back.ensures.kept mark (omega (arith, h, c.made-mark.ensures.made)))

pub returns-in-Err-clause-objects : goal.returns-in-Err-clause-objects
returns-in-Err-clause-objects g c =
    let kept = c.build.ensures.registered.kept c.made-mark.result (omega (arith, c.made-mark.ensures.made)) in
    let same = same-keeps c.made-mark.result c.build.new.ctx c.insert_at_back.new.ctx c.in-Err.ensures.err in
    rolled_back c.made-mark.ensures.older (kept_trans kept same) c.roll_back.ensures.back

pub returns-in_err-op-clause-refused : goal.returns-in_err-op-clause-refused
returns-in_err-op-clause-refused g c =
    let p = err_from_is_err_and c.from_residual.result c.from_residual.ensures.1 in
    rw (p.1 ∙ ap Err p.2) (inr (c.contains_block.ensures.alive.0 c.if-not-contains_block.false, c.in_err-op.ensures.refused))
