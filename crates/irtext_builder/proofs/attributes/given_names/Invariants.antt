use Rattle.std.proofs.Common.{◌≡◌}
use Rattle.std.proofs.Math.ListN.{take}
use Rattle.irtext_builder.proofs.Names.{given}
use Rattle.irtext_builder.proofs.attributes.given_names.Given as goal

abbrev pub invariant-loop-name : goal.invariant-loop-name
invariant-loop-name g l = l.all.items ≡ given (take l.name-index l.names)
