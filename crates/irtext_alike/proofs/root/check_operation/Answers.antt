use Rattle.irtext_alike.proofs.Walk.{unlike_at}
use Rattle.irtext_alike.proofs.root.check_operation.Goals as goal

pub returns-in-Some-clause-unlike : goal.returns-in-Some-clause-unlike
returns-in-Some-clause-unlike g c = unlike_at c.args.ctx.now c.args.other.now.dialects c.args.op c.get_opid.result.now c.in-Some.why c.get_opid.ensures c.in-Some.ensures.unlike
