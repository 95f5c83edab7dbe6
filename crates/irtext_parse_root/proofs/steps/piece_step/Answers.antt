use Rattle.irtext_grammar.specs.Contexts.Held.{whole}
use Rattle.irtext_tokens.proofs.Exits.{propagated}
use Rattle.irtext_parse_root.proofs.Proceeding.{piece_proceeds}
use Rattle.irtext_parse_root.proofs.Sparing.{step_made, step_failed}
use Rattle.irtext_parse_root.proofs.Stopping.{piece_stops, piece_there}
use Rattle.irtext_parse_root.proofs.steps.piece_step.Goals as goal

pub go_on-requires-clause-begun : goal.go_on-requires-clause-begun
go_on-requires-clause-begun g c = piece_there (whole c.args.s.now.stream) c.args.s.now.state.ctx.now c.args.names.now c.args.frames.now c.args.begun c.requires.next c.requires.ready.here

pub returns-in_err-go_on-clause-steps : goal.returns-in_err-go_on-clause-steps
returns-in_err-go_on-clause-steps g c = rw (propagated c.from_residual.result c.from_residual.ensures.1)
    (step_failed (piece_stops g.T.IrText.reading g.A.IrText.reading g.met.T.IrText.sincere.reads g.met.A.IrText.sincere.reads c.args.names.now c.args.s.now c.args.frames.now _ c.args.begun c.in_err-go_on.ensures.committed c.requires.next c.in_err-go_on.ensures.refused) c.in_err-go_on.ensures.spares)

pub returns-clause-steps : goal.returns-clause-steps
returns-clause-steps g c = step_made (piece_proceeds g.T.IrText.reading g.A.IrText.reading g.met.T.IrText.sincere.reads g.met.A.IrText.sincere.reads c.args.names.now c.args.s.now c.args.begun c.go_on.new.begun c.args.frames.now c.go_on.new.names c.go_on.new.s c.in_ok-go_on.ensures.goes_on c.requires.next c.requires.ready.here) c.in_ok-go_on.ensures.spares
