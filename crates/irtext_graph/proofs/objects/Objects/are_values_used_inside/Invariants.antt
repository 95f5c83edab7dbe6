use Rattle.std.proofs.Common.{◌<◌, ℕ}
use Rattle.irtext_graph.specs.declared.object.Defined.TheVariants.{OfValue}
use Rattle.irtext_graph.specs.Erasing.{IsUsedInside, sibling}
use Rattle.irtext_graph.proofs.objects.Objects.are_values_used_inside.Given as goal

abbrev pub invariant-loop-i : goal.invariant-loop-i
invariant-loop-i g l = record { so_far : (j : ℕ) → j < l.i → IsUsedInside l.self l.o (OfValue (sibling l.v j)) }
