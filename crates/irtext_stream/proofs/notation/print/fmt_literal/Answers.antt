use Rattle.std.proofs.Common.{arith, flat_map}
use Rattle.std.proofs.lemmas.Grind.{common_steps}
use Rattle.std.specs.Str.{chars}
use Rattle.irtext_stream.specs.NotationPieces.{spelled}
use Rattle.irtext_stream.proofs.NotationPrinted.{literal_bytes}
use Rattle.irtext_stream.proofs.notation.print.fmt_literal.Goals as goal

pub returns : goal.returns
returns g c = rw (literal_bytes (flat_map spelled (chars c.args.text.now))) (grind (arith, common_steps))
