use Rattle.irtext_graph.specs.Objects.{Renumbers, KeepsRoom}
use Rattle.irtext_graph.proofs.objects.Objects.renumber.Given as goal

abbrev pub invariant-loop-index : goal.invariant-loop-index
invariant-loop-index g l = record { same : Renumbers l.fn.self l.self; room : KeepsRoom l.fn.self l.self }
