use Rattle.irtext_grammar.specs.Contexts.Held.{whole}
use Rattle.irtext_parse_root.proofs.Proceeding.{ended_proceeds}
use Rattle.irtext_parse_root.proofs.Sparing.{step_made, step_failed}
use Rattle.irtext_parse_root.proofs.Stopping.{end_stops, operation_known, operation_there}
use Rattle.irtext_parse_root.proofs.steps.end_step.Goals as goal

pub end-requires-clause-known : goal.end-requires-clause-known
end-requires-clause-known g c = operation_known (whole c.args.s.now.stream) c.args.s.now.state.ctx.now c.args.names.now c.args.begun c.args.frames.now c.requires.ready.here

pub end-requires-clause-begun : goal.end-requires-clause-begun
end-requires-clause-begun g c = operation_there (whole c.args.s.now.stream) c.args.s.now.state.ctx.now c.args.names.now c.args.frames.now c.args.begun c.requires.ready.here

pub returns-in-Err-clause-steps : goal.returns-in-Err-clause-steps
returns-in-Err-clause-steps g c = rw c.ended-in-Err.ensures
    (step_failed (end_stops g.T.IrText.reading g.A.IrText.reading g.met.T.IrText.sincere.reads g.met.A.IrText.sincere.reads c.args.names.now c.args.s.now c.args.frames.now _ c.args.begun c.in-Err.ensures.committed c.requires.next c.in-Err.ensures.refused) c.in-Err.ensures.spares)

pub returns-in-Ok-clause-steps : goal.returns-in-Ok-clause-steps
returns-in-Ok-clause-steps g c = rw c.ended.ensures (step_made (ended_proceeds g.T.IrText.reading g.A.IrText.reading g.met.T.IrText.sincere.reads g.met.A.IrText.sincere.reads c.args.names.now c.args.s.now c.args.begun c.args.frames.now c.pop.new.self c.pop.result c.end.new.names c.end.new.s c.in-Ok.ensures.ends c.requires.next c.pop.ensures c.requires.ready.here) c.in-Ok.ensures.spares)
