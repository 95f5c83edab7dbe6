use Rattle.std.proofs.Common.{◌<◌, sym, subst}
use Rattle.irtext_tokens.specs.AttrTexts.{attr_at}
use Rattle.irtext_survey.specs.Root.{left_to_do}
use Rattle.irtext_survey.proofs.Looping.{Came, came_first, came_ready, came_on, less_on, stops_on, came_last}
use Rattle.irtext_survey.proofs.root.rest_parse.Goals as goal

pub loop-next-init : goal.loop-next-init
loop-next-init g c = came_first g.T.IrText.reading (attr_at g.A.IrText.reading) c.args.ctx.now.dialects c.args.name.now c.args.names.now.names c.args.book.now c.args.first c.args.stream.now c.new-frames.result.items c.new-frames.ensures.items

pub step-requires-clause-ready : goal.step-requires-clause-ready
step-requires-clause-ready g c = came_ready g.T.IrText.reading (attr_at g.A.IrText.reading) c.args.ctx.now.dialects c.args.name.now c.args.names.now.names c.args.book.now c.args.first c.args.stream.now c.loop-next.names.names c.loop-next.book c.in-Some.frame c.loop-next.frames.items c.loop-next.stream (subst (λ n. Came {T = g.row.T.Denot} {A = g.row.A.Denot} g.T.IrText.reading (attr_at g.A.IrText.reading) c.args.ctx.now.dialects c.args.name.now c.args.names.now.names c.args.book.now c.args.first c.args.stream.now c.loop-next.names.names c.loop-next.book n c.loop-next.frames.items c.loop-next.stream) c.in-Some.is c.loop-next.invariant) c.requires.ready

pub loop-next-smaller : goal.loop-next-smaller
loop-next-smaller g c = subst (λ n. left_to_do g.row.T.Denot g.row.A.Denot c.args.ctx.now.dialects c.in-Ok.inner c.step.new.frames.items c.step.new.stream.rest < left_to_do g.row.T.Denot g.row.A.Denot c.args.ctx.now.dialects n c.loop-next.frames.items c.loop-next.stream.rest) (sym c.in-Some.is)
    (less_on g.T.IrText.reading (attr_at g.A.IrText.reading) c.args.ctx.now.dialects c.args.name.now c.args.names.now.names c.args.book.now c.args.first c.args.stream.now c.loop-next.names.names c.loop-next.book c.in-Some.frame c.loop-next.frames.items c.loop-next.stream (subst (λ n. Came {T = g.row.T.Denot} {A = g.row.A.Denot} g.T.IrText.reading (attr_at g.A.IrText.reading) c.args.ctx.now.dialects c.args.name.now c.args.names.now.names c.args.book.now c.args.first c.args.stream.now c.loop-next.names.names c.loop-next.book n c.loop-next.frames.items c.loop-next.stream) c.in-Some.is c.loop-next.invariant) c.step.new.names.names c.step.new.book c.in-Ok.inner c.step.new.frames.items c.step.new.stream c.in-Ok.ensures.steps c.requires.ready)

pub loop-next-preserved : goal.loop-next-preserved
loop-next-preserved g c = came_on g.T.IrText.reading (attr_at g.A.IrText.reading) c.args.ctx.now.dialects c.args.name.now c.args.names.now.names c.args.book.now c.args.first c.args.stream.now c.loop-next.names.names c.loop-next.book c.in-Some.frame c.loop-next.frames.items c.loop-next.stream (subst (λ n. Came {T = g.row.T.Denot} {A = g.row.A.Denot} g.T.IrText.reading (attr_at g.A.IrText.reading) c.args.ctx.now.dialects c.args.name.now c.args.names.now.names c.args.book.now c.args.first c.args.stream.now c.loop-next.names.names c.loop-next.book n c.loop-next.frames.items c.loop-next.stream) c.in-Some.is c.loop-next.invariant) c.step.new.names.names c.step.new.book c.in-Ok.inner c.step.new.frames.items c.step.new.stream c.in-Ok.ensures.steps

pub returns-in-Err : goal.returns-in-Err
returns-in-Err g c = record { rests = stops_on g.T.IrText.reading (attr_at g.A.IrText.reading) c.args.ctx.now.dialects c.args.name.now c.args.names.now.names c.args.book.now c.args.first c.args.stream.now c.loop-next.names.names c.loop-next.book c.in-Some.frame c.loop-next.frames.items c.loop-next.stream (subst (λ n. Came {T = g.row.T.Denot} {A = g.row.A.Denot} g.T.IrText.reading (attr_at g.A.IrText.reading) c.args.ctx.now.dialects c.args.name.now c.args.names.now.names c.args.book.now c.args.first c.args.stream.now c.loop-next.names.names c.loop-next.book n c.loop-next.frames.items c.loop-next.stream) c.in-Some.is c.loop-next.invariant) c.step.new.book c.step.new.stream c.in-Err.ensures.steps }

pub returns : goal.returns
returns g c = record { rests = came_last g.T.IrText.reading (attr_at g.A.IrText.reading) c.args.ctx.now.dialects c.args.name.now c.args.names.now.names c.args.book.now c.args.first c.args.stream.now c.loop-next.names.names c.loop-next.book c.loop-next.frames.items c.loop-next.stream (subst (λ n. Came {T = g.row.T.Denot} {A = g.row.A.Denot} g.T.IrText.reading (attr_at g.A.IrText.reading) c.args.ctx.now.dialects c.args.name.now c.args.names.now.names c.args.book.now c.args.first c.args.stream.now c.loop-next.names.names c.loop-next.book n c.loop-next.frames.items c.loop-next.stream) c.in_default.is c.loop-next.invariant) }
