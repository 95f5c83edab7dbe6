use Rattle.irtext_formatter.proofs.Printing.{appended}
use Rattle.irtext_formatter.proofs.printed.append_root.Goals as goal

pub returns-clause-text : goal.returns-clause-text
returns-clause-text g c =
    appended g.T.IrText g.A.IrText g.A.AttrText g.A.PartialEq.eq c.args.ctx.now c.args.op c.new-state.result c.print_root.new.state c.args.out.now c.print_root.new.f c.new-state.ensures c.print_root.result c.print_root.ensures.prints c.print_root.ensures.defined
