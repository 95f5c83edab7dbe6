use Rattle.std.proofs.Common.{◌∙◌, sym}
use Rattle.irtext_context.specs.Context.{KeepsOlder}
use Rattle.irtext_graph.specs.Back.{IsClosedBelow}
use Rattle.irtext_parse_state.specs.declared.parsable.state.StateStream.{StateStream}
use Rattle.irtext_parse_root.proofs.Undoing.{closed_there, undoes, resolves, first_fault, kept_on_ok}
use Rattle.irtext_parse_root.proofs.Unresolved.{no_operation}
use Rattle.irtext_parse_root.proofs.outermost.outermost_parse.Goals as goal

pub undone_on_error-requires : goal.undone_on_error-requires
undone_on_error-requires g c = record { closed = closed_there c.start_of-start.result c.args.s.now c.marked_parse-answer.new.s c.start_of-start.ensures c.marked_parse-answer.result c.marked_parse-answer.ensures.undone }

pub returns-clause-undone : goal.returns-clause-undone
returns-clause-undone g c = undoes c.start_of-start.result c.args.s.now c.marked_parse-answer.new.s c.start_of-start.ensures c.undone_on_error.new.s c.marked_parse-answer.result c.undone_on_error.result c.marked_parse-answer.ensures.undone c.undone_on_error.ensures.back

pub returns-clause-resolves : goal.returns-clause-resolves
returns-clause-resolves g c = resolves c.start_of-start.result c.args.s.now c.marked_parse-answer.new.s c.undone_on_error.new.s c.start_of-start.ensures (sym c.has_failed.ensures ∙ c.if-has_failed.false)
    (λ fault. no_operation g.T.IrText g.A.IrText c.args.s.now fault c.args.look)
    c.marked_parse-answer.result c.undone_on_error.result c.marked_parse-answer.ensures.answers c.undone_on_error.ensures.back

pub returns-clause-first : goal.returns-clause-first
returns-clause-first g c = first_fault c.start_of-start.result c.args.s.now c.marked_parse-answer.new.s c.undone_on_error.new.s c.start_of-start.ensures (sym c.has_failed.ensures ∙ c.if-has_failed.false)
    c.marked_parse-answer.result c.undone_on_error.result c.marked_parse-answer.ensures.undone c.marked_parse-answer.ensures.answers c.undone_on_error.ensures.back

pub returns-clause-keeps : goal.returns-clause-keeps
returns-clause-keeps g c = λ fresh.
    let old = c.args.s.now.state.ctx.now in
    kept_on_ok (λ (s : StateStream g.row.T.Denot g.row.A.Denot g.row.U.Denot). KeepsOlder old.graph.made old s.state.ctx.now) c.marked_parse-answer.result c.undone_on_error.result c.undone_on_error.ensures.back (c.marked_parse-answer.ensures.kept fresh)

pub returns-clause-closed : goal.returns-clause-closed
returns-clause-closed g c =
    let old = c.args.s.now.state.ctx.now in
    kept_on_ok (λ (s : StateStream g.row.T.Denot g.row.A.Denot g.row.U.Denot). IsClosedBelow old.graph.made old.graph → IsClosedBelow old.graph.made s.state.ctx.now.graph) c.marked_parse-answer.result c.undone_on_error.result c.undone_on_error.ensures.back c.marked_parse-answer.ensures.closed
