use Rattle.std.proofs.Common.{◌≡◌, ◌<◌, ℕ, Some, slice_get}
use Rattle.irtext_graph.specs.declared.object.Value.{Value}
use Rattle.irtext_graph.specs.Parts.{IsDefinedValue}
use Rattle.irtext_graph_queries.proofs.contained.contains_values.Given as goal

abbrev pub invariant-loop-v : goal.invariant-loop-v
invariant-loop-v g l = record {
  there : (i : ℕ) (v : Value) → i < l.v-index → slice_get l.values i ≡ Some v → IsDefinedValue l.graph v;
}
