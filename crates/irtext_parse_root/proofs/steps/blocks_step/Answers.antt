use Rattle.std.proofs.Common.{◌≡◌, ◌∙◌, sym, subst, true, false}
use Rattle.irtext_tokens.proofs.Exits.{propagated}
use Rattle.irtext_grammar.specs.Reached.{begins_block}
use Rattle.irtext_grammar.specs.Contexts.Held.{whole}
use Rattle.irtext_parse_root.proofs.Chains.{moved_whole, carries_passed}
use Rattle.irtext_parse_root.proofs.Proceeding.{block_proceeds, left_proceeds}
use Rattle.irtext_parse_root.proofs.Sparing.{fine_after, step_made, step_failed, step_ran_out}
use Rattle.irtext_parse_root.proofs.Stopping.{block_stops, left_stops, region_there}
use Rattle.irtext_parse_root.proofs.steps.blocks_step.Goals as goal

-- ---- the region ends
pub leave-requires-clause-steady : goal.leave-requires-clause-steady
leave-requires-clause-steady g c = record { fine = fine_after c.requires.ready.steady.fine c.space_parse.ensures.moves; sound = c.requires.ready.steady.sound }

pub leave-requires-clause-begun : goal.leave-requires-clause-begun
leave-requires-clause-begun g c =
    region_there (whole c.args.s.now.stream) c.args.s.now.state.ctx.now c.args.names.now c.args.frames.now c.args.region (whole c.space_parse.new.stream)
    (moved_whole c.args.s.now.stream c.space_parse.new.stream c.space_parse.ensures.moves) c.requires.ready.here

pub returns-in_err-leave-clause-steps : goal.returns-in_err-leave-clause-steps
returns-in_err-leave-clause-steps g c =
    let none = subst (λ t. begins_block t ≡ false) c.space_parse.ensures.rest (sym c.next_is.ensures ∙ c.if-not-next_is.true) in
    rw (propagated c.from_residual.result c.from_residual.ensures.1)
    (step_failed (left_stops g.T.IrText.reading g.A.IrText.reading g.met.T.IrText.sincere.reads g.met.A.IrText.sincere.reads c.args.names.now c.args.s.now c.args.frames.now _ c.args.region c.in_err-leave.ensures.committed c.space_parse.new.stream c.space_parse.ensures none c.in_err-leave.ensures.refused) c.in_err-leave.ensures.spares)

pub returns-then-not-next_is-clause-steps : goal.returns-then-not-next_is-clause-steps
returns-then-not-next_is-clause-steps g c =
    let none = subst (λ t. begins_block t ≡ false) c.space_parse.ensures.rest (sym c.next_is.ensures ∙ c.if-not-next_is.true) in
    step_made (left_proceeds g.T.IrText.reading g.A.IrText.reading g.met.T.IrText.sincere.reads g.met.A.IrText.sincere.reads c.args.names.now c.args.s.now c.space_parse.new.stream c.space_parse.ensures c.args.region c.args.frames.now c.pop.new.self c.pop.result c.leave.new.names c.leave.new.s c.in_ok-leave.ensures.leaves none c.pop.ensures c.requires.ready.here)
    c.in_ok-leave.ensures.spares

-- ---- a block begins
pub head-requires-clause-steady : goal.head-requires-clause-steady
head-requires-clause-steady g c = record { fine = fine_after c.requires.ready.steady.fine c.space_parse.ensures.moves; sound = c.requires.ready.steady.sound }

pub returns-in_err-block-clause-steps : goal.returns-in_err-block-clause-steps
returns-in_err-block-clause-steps g c =
    let follows_on = subst (λ t. begins_block t ≡ true) c.space_parse.ensures.rest (sym c.next_is.ensures ∙ c.if-not-next_is.false) in
    rw (propagated c.from_residual-in_err-block.result c.from_residual-in_err-block.ensures.1)
    (step_failed (block_stops g.T.IrText.reading g.A.IrText.reading g.met.T.IrText.sincere.reads g.met.A.IrText.sincere.reads c.args.names.now c.args.s.now c.args.frames.now _ c.args.region c.in_err-block.ensures.committed c.space_parse.new.stream c.space_parse.ensures follows_on c.in_err-block.ensures.refused) c.in_err-block.ensures.spares)

pub returns-in_default-clause-steps : goal.returns-in_default-clause-steps
returns-in_default-clause-steps g c = step_ran_out c.out_of_memory.ensures (carries_passed c.space_parse.new.stream c.space_parse.ensures.moves c.in_ok-block.ensures.heads.carries) c.in_ok-block.ensures.spares

pub returns-clause-steps : goal.returns-clause-steps
returns-clause-steps g c =
    let follows_on = subst (λ t. begins_block t ≡ true) c.space_parse.ensures.rest (sym c.next_is.ensures ∙ c.if-not-next_is.false) in
    step_made (block_proceeds g.T.IrText.reading g.A.IrText.reading g.met.T.IrText.sincere.reads g.met.A.IrText.sincere.reads c.args.names.now c.args.s.now c.space_parse.new.stream c.space_parse.ensures c.args.region c.args.frames.now c.push.new.self c.in_ok-block.block c.head.new.names c.head.new.s c.in_ok-block.ensures.heads follows_on c.in_ok-block.ensures.first
    c.in-Ok.ensures c.requires.ready.here) c.in_ok-block.ensures.spares
