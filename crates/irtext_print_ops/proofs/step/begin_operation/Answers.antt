use Rattle.std.proofs.Common.{ap, length}
use Rattle.irtext_graph.specs.Parts.{regions}
use Rattle.irtext_grammar.specs.Contexts.Formats.{isolated}
use Rattle.irtext_print_ops.specs.Heads as heads
use Rattle.irtext_print_ops.proofs.Directives.{repeats_as}
use Rattle.irtext_print_ops.proofs.step.begin_operation.Goals as goal

pub returns-clause-begun : goal.returns-clause-begun
returns-clause-begun g c =
    let ctx = c.args.ctx.now in
    let C = heads.printing_of g.T.IrText g.A.IrText g.A.AttrText g.A.PartialEq.eq ctx in
    let o = heads.operation_at g.T.IrText g.A.IrText g.A.AttrText g.A.PartialEq.eq ctx c.args.op in
    let found = c.in_ok-directives.directives in
    ap (λ b. record (heads.begun_at g.T.IrText g.A.IrText g.A.AttrText g.A.PartialEq.eq ctx c.args.op found c.args.marked c.args.indent c.args.limit) { repeats = b })
    (repeats_as C (isolated ctx.dialects) o (length (regions ctx.graph c.args.op)) found c.is_none.result c.is_none.ensures c.in_ok-directives.ensures.found c.in_ok-directives.ensures.fits)
