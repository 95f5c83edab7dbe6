use Rattle.std.proofs.Common.{◌<◌, ◌^◌, arith}
use Rattle.std.proofs.lemmas.Grind.{common_steps}
use Rattle.irtext_stream.proofs.NotationPrinted.{index_bytes}
use Rattle.irtext_stream.proofs.notation.print.fmt_index.Goals as goal

pub returns : goal.returns
returns g c =
    let small : c.args.index < 2 ^ 64 = omega arith in
    rw (index_bytes c.args.opening.now c.args.index c.utf8.opening small) (grind (arith, common_steps))
