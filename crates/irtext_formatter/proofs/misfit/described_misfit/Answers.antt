use Rattle.irtext_formatter.proofs.Misfitting.{is_misfit}
use Rattle.irtext_formatter.proofs.misfit.described_misfit.Goals as goal

pub returns-in-Some : goal.returns-in-Some
returns-in-Some g c = is_misfit g.A.IrText.written g.A.AttrText g.A.PartialEq.eq c.args.ctx.now c.args.root c.in-Some.op c.in-Some.fault c.in-Some.ensures.first c.described.result c.described.ensures
