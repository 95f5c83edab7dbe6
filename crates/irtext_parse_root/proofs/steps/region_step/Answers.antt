use Rattle.std.proofs.Common.{◌∙◌, None, ap}
use Rattle.irtext_parse_root.proofs.Chains.{carries_passed}
use Rattle.irtext_parse_root.proofs.Proceeding.{region_proceeds}
use Rattle.irtext_parse_root.proofs.Sparing.{fine_after, step_made, step_failed, step_ran_out}
use Rattle.irtext_parse_root.proofs.Stopping.{region_stops}
use Rattle.irtext_parse_root.proofs.steps.region_step.Goals as goal

pub enter-requires-clause-steady : goal.enter-requires-clause-steady
enter-requires-clause-steady g c = record { fine = fine_after c.requires.ready.steady.fine c.space_parse.ensures.moves; sound = c.requires.ready.steady.sound }

pub returns-in-Err-clause-steps : goal.returns-in-Err-clause-steps
returns-in-Err-clause-steps g c = rw c.ended.ensures
    (step_failed (region_stops g.T.IrText.reading g.A.IrText.reading g.met.T.IrText.sincere.reads g.met.A.IrText.sincere.reads c.args.names.now c.args.s.now c.args.frames.now _ c.args.begun c.in-Err.ensures.committed c.space_parse.new.stream c.space_parse.ensures c.args.isolated c.requires.isolated c.in-Err.ensures.refused c.requires.next) c.in-Err.ensures.spares)

pub returns-in_default-clause-steps : goal.returns-in_default-clause-steps
returns-in_default-clause-steps g c = step_ran_out c.out_of_memory.ensures (carries_passed c.space_parse.new.stream c.space_parse.ensures.moves c.in-Ok.ensures.enters.carries) c.in-Ok.ensures.spares

pub returns-clause-steps : goal.returns-clause-steps
returns-clause-steps g c =
    let waits = c.at_step-waits.ensures ∙ ap (λ z. record c.args.begun { coming = None; step = z }) c.requires.following in
    step_made (region_proceeds g.T.IrText.reading g.A.IrText.reading g.met.T.IrText.sincere.reads g.met.A.IrText.sincere.reads c.args.names.now c.args.s.now c.space_parse.new.stream c.space_parse.ensures c.args.begun c.args.frames.now c.push.new.self c.in-Ok.region c.enter.new.names c.enter.new.s c.args.isolated
    c.in-Ok.ensures.enters c.requires.isolated c.requires.next c.at_step-waits.result waits c.in-Ok-push.ensures c.requires.ready.here) c.in-Ok.ensures.spares
