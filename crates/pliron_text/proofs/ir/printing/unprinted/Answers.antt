use Rattle.pliron_text.proofs.Misfitting.{misfit_in}
use Rattle.pliron_text.proofs.ir.printing.unprinted.Goals as goal

pub returns-in-Some : goal.returns-in-Some
returns-in-Some g c =
    misfit_in g.T.IrText g.A.IrText g.A.AttrText g.A.PartialEq.eq c.args.ctx.now c.args.root (record { op = c.in-Some.op; id = c.get_opid.result; loc = c.loc.result; fault = c.in-Some.fault; alloc = c.allocator.result }) c.in-Some.ensures.first c.get_opid.ensures c.loc.ensures
