use Rattle.irtext_survey.proofs.Looping.{root_ready, root_rests, root_unbegun}
use Rattle.irtext_survey.proofs.root.tree_parse.Goals as goal

pub rest_parse-requires-clause-ready : goal.rest_parse-requires-clause-ready
rest_parse-requires-clause-ready g c = root_ready g.T.IrText.reading g.A.IrText.reading g.met.T.IrText.sincere.reads g.met.A.IrText.sincere.reads c.args.ctx.now.dialects c.args.name.now c.args.names.now.names c.args.book.now c.args.stream.now c.requires.notes c.requires.marked c.in-Ok.held c.operation_begin.new.names.names c.operation_begin.new.book c.operation_begin.new.stream c.in-Ok.ensures.begins

pub returns-in-Ok : goal.returns-in-Ok
returns-in-Ok g c = record { trees = root_rests g.T.IrText.reading g.A.IrText.reading g.met.T.IrText.sincere.reads g.met.A.IrText.sincere.reads c.args.ctx.now.dialects c.args.name.now c.args.names.now.names c.args.book.now c.args.stream.now c.requires.notes c.requires.marked c.in-Ok.held c.operation_begin.new.names.names c.operation_begin.new.book c.operation_begin.new.stream c.in-Ok.ensures.begins c.rest_parse.new.book c.rest_parse.new.stream c.rest_parse.result c.rest_parse.ensures.rests }

pub returns-in-Err : goal.returns-in-Err
returns-in-Err g c = record { trees = root_unbegun g.T.IrText.reading g.A.IrText.reading g.met.T.IrText.sincere.reads g.met.A.IrText.sincere.reads c.args.ctx.now.dialects c.args.name.now c.args.names.now.names c.args.book.now c.args.stream.now c.requires.notes c.requires.marked c.operation_begin.new.book c.operation_begin.new.stream c.in-Err.ensures.begins }
