use Rattle.std.proofs.Common.{arith}
use Rattle.irtext_builder.proofs.Names.{each}
use Rattle.irtext_builder.proofs.attributes.given_names.Goals as goal

pub from_word-requires : goal.from_word-requires
from_word-requires g c = each c.args.names.now c.loop-name.name-index _ c.requires (omega (arith, c.loop-name-test.true))
