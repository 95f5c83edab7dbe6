use Rattle.irtext_builder.proofs.Names.{AlikeFrom}
use Rattle.irtext_builder.proofs.attributes.check_names.Given as goal

abbrev pub invariant-loop-name : goal.invariant-loop-name
invariant-loop-name g l = AlikeFrom l.names l.name-index
