use Rattle.irtext_graph.specs.Linking.{site_of}
use Rattle.irtext_graph.proofs.Detached.{Detaching}
use Rattle.irtext_graph.proofs.objects.Objects.detach_side.Given as goal

abbrev pub invariant-loop-i : goal.invariant-loop-i
invariant-loop-i g l = Detaching l.fn.self l.self (site_of l.side l.p) l.i
