use Rattle.irtext_graph.specs.Graph.{seen}
use Rattle.irtext_graph.specs.Used.{uses_left}
use Rattle.irtext_graph.proofs.Redirected.{Replacing}
use Rattle.irtext_graph.proofs.objects.Objects.replace_uses.Given as goal

abbrev pub invariant-loop-u : goal.invariant-loop-u
invariant-loop-u g l = Replacing l.fn.self l.self l.fn.d l.fn.e

abbrev pub decreases-loop-u : goal.decreases-loop-u
decreases-loop-u g l = uses_left l.fn.d (seen l.self).operations
