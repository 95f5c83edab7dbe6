use Rattle.std.proofs.Common.{arith}
use Rattle.std.proofs.lemmas.Grind.{common_steps}
use Rattle.irtext_base.proofs.NotationPrint.{key_bytes}
use Rattle.irtext_base.proofs.format.notation.print.fmt_key.Goals as goal

pub returns : goal.returns
returns g c = rw (key_bytes c.args.key.now c.as_str.ensures.fits) (grind (arith, common_steps))
