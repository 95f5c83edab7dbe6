use Rattle.std.proofs.Common.{◌≡◌, ◌<◌, ◌≤◌, ℕ, Some, slice_get}
use Rattle.irtext_graph.specs.Arena.{AtLeast}
use Rattle.irtext_graph.specs.Back.{ShedsAll}
use Rattle.irtext_graph.specs.Log.{age}
use Rattle.irtext_graph.specs.declared.object.Object.{Object}
use Rattle.irtext_graph.proofs.objects.Objects.take_out_since.Given as goal

abbrev pub invariant-loop-k : goal.invariant-loop-k
invariant-loop-k g l = record {
  sheds : ShedsAll l.mark l.fn.self l.self;
  gone : (j : ℕ) (a : Object) → l.start ≤ j → j < l.k → slice_get l.log j ≡ Some a → AtLeast l.mark (age l.self a) → ⊥;
}
