use Rattle.std.proofs.Common.{◌∙◌, sym}
use Rattle.irtext_tokens.proofs.Exits.{propagated}
use Rattle.irtext_parse_root.proofs.Chains.{carries_passed}
use Rattle.irtext_parse_root.proofs.Proceeding.{gone_proceeds, begins_proceeds}
use Rattle.irtext_parse_root.proofs.Sparing.{fine_after, step_made, step_failed, step_ran_out, step_passed}
use Rattle.irtext_parse_root.proofs.Stopping.{begin_stops}
use Rattle.irtext_parse_root.proofs.steps.block_step.Goals as goal

pub returns-then-not-skip_to_operation-clause-steps : goal.returns-then-not-skip_to_operation-clause-steps
returns-then-not-skip_to_operation-clause-steps g c = step_passed
    (gone_proceeds g.T.IrText.reading g.A.IrText.reading g.met.T.IrText.sincere.reads g.met.A.IrText.sincere.reads c.args.names.now c.args.s.now c.args.block c.args.frames.now c.pop.new.self c.skip_to_operation.new.stream c.skip_to_operation.ensures.passes c.pop.result (sym c.skip_to_operation.ensures.follows_on ∙ c.if-not-skip_to_operation.true) c.pop.ensures c.requires.ready.here)

pub begin-requires-clause-steady : goal.begin-requires-clause-steady
begin-requires-clause-steady g c = record { fine = fine_after c.requires.ready.steady.fine c.skip_to_operation.ensures.passes.moves; sound = c.requires.ready.steady.sound }

pub returns-in_err-begun-clause-steps : goal.returns-in_err-begun-clause-steps
returns-in_err-begun-clause-steps g c = rw (propagated c.from_residual.result c.from_residual.ensures.1)
    (step_failed (begin_stops g.T.IrText.reading g.A.IrText.reading g.met.T.IrText.sincere.reads g.met.A.IrText.sincere.reads c.args.names.now c.args.s.now c.args.frames.now _ c.args.block c.skip_to_operation.new.stream c.skip_to_operation.ensures.passes (sym c.skip_to_operation.ensures.follows_on ∙ c.if-not-skip_to_operation.false) c.in_err-begun.ensures.refused) c.in_err-begun.ensures.spares)

pub returns-in_default-clause-steps : goal.returns-in_default-clause-steps
returns-in_default-clause-steps g c = step_ran_out c.out_of_memory.ensures (carries_passed c.skip_to_operation.new.stream c.skip_to_operation.ensures.passes.moves c.in_ok-begun.ensures.begins.carries) c.in_ok-begun.ensures.spares

pub returns-clause-steps : goal.returns-clause-steps
returns-clause-steps g c = step_made
    (begins_proceeds g.T.IrText.reading g.A.IrText.reading g.met.T.IrText.sincere.reads g.met.A.IrText.sincere.reads c.args.names.now c.args.s.now c.args.block c.args.frames.now c.push.new.self c.skip_to_operation.new.stream c.skip_to_operation.ensures.passes c.in_ok-begun.begun c.begin.new.names c.begin.new.s c.in_ok-begun.ensures.begins
    (sym c.skip_to_operation.ensures.follows_on ∙ c.if-not-skip_to_operation.false) c.in-Ok.ensures c.requires.ready.here) c.in_ok-begun.ensures.spares
