use Rattle.std.proofs.Common.{◌≡◌, ◌<◌, ℕ, Some, slice_get}
use Rattle.irtext_graph.specs.declared.object.Value.{Value}
use Rattle.irtext_checked.specs.Types.{IsContainedValue}
use Rattle.irtext_checked.proofs.contains.ContextContainsParts.contains_values.Given as goal

abbrev pub invariant-loop-value : goal.invariant-loop-value
invariant-loop-value g l = record {
  there : (i : ℕ) (v : Value) → i < l.value-index → slice_get l.values i ≡ Some v → IsContainedValue l.self v;
}
