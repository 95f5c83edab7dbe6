use Rattle.std.proofs.Common.{length}
use Rattle.std.specs.Option.{option_map}
use Rattle.irtext_base.specs.declared.location.Location.{Unknown}
use Rattle.irtext_context.specs.Context.{with_loc, with_block_loc}
use Rattle.irtext_graph.specs.Throughout.{all_from}
use Rattle.irtext_graph.proofs.Going.{Going}
use Rattle.irtext_context.proofs.location.erase_inside.Given as goal

abbrev pub invariant-loop-at : goal.invariant-loop-at
invariant-loop-at g l = record { so_far : Going (option_map (with_loc Unknown)) (with_block_loc Unknown) l.fn.graph l.graph l.o l.at }

abbrev pub decreases-loop-at : goal.decreases-loop-at
decreases-loop-at g l = length (all_from l.fn.graph l.o l.at)
