use Rattle.std.proofs.Common.{arith}
use Rattle.std.proofs.lemmas.Grind.{common_steps}
use Rattle.irtext_stream.proofs.NotationPrinted.{closed_bytes}
use Rattle.irtext_stream.proofs.notation.print.fmt_closed.Goals as goal

pub returns : goal.returns
returns g c = rw (closed_bytes c.args.opening.now c.args.closing.now c.args.index c.utf8.closing) (grind (arith, common_steps))
