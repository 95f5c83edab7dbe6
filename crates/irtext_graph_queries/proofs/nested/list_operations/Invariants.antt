use Rattle.std.proofs.Common.{◌≡◌, ◌++◌, IfSome, Some, length}
use Rattle.irtext_graph.specs.Chained.{Among}
use Rattle.irtext_graph.specs.Graph.{IsLive, IsInside}
use Rattle.irtext_graph.specs.Throughout.{all_from}
use Rattle.irtext_graph.specs.declared.arena.Ptr.{Ptr}
use Rattle.irtext_graph.specs.declared.object.Object.TheVariants.{TheOperation}
use Rattle.irtext_graph.specs.declared.object.Operation.{Operation}
use Rattle.irtext_graph_queries.specs.Nested.{operations_among}
use Rattle.irtext_graph_queries.proofs.nested.list_operations.Given as goal

abbrev pub invariant-loop-at : goal.invariant-loop-at
invariant-loop-at g l = record {
  gathered : l.all.items ++ operations_among (all_from l.graph l.o l.at) ≡ operations_among (all_from l.graph l.o (Some l.o));
  held : (p : Ptr Operation) → Among p l.all.items → IsInside l.graph l.o (TheOperation p);
  inside : IfSome l.at (λ q. IsInside l.graph l.o q);
  there : IfSome l.at (λ q. IsLive l.graph q);
}

abbrev pub decreases-loop-at : goal.decreases-loop-at
decreases-loop-at g l = length (all_from l.graph l.o l.at)
