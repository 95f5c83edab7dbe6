use Rattle.std.proofs.Common.{◌≡◌, ◌≢◌, ◌≤◌, ◌+◌, ◌++◌, ℕ, Some, map, length, slice_get}
use Rattle.irtext_graph.specs.declared.object.Site.{Site}
use Rattle.irtext_graph.specs.Content.{typed}
use Rattle.irtext_graph.specs.Graph.{numbered}
use Rattle.irtext_graph.specs.Uses.{first_of}
use Rattle.irtext_graph.proofs.making.many_definitions.Given as goal

abbrev pub invariant-loop-of_type : goal.invariant-loop-of_type
invariant-loop-of_type g l = record {
  values : map typed l.defined.items ++ numbered l.number l.of_type-iterator.rest.items ≡ numbered l.fn.from l.fn.types.items;
  unused : (i : ℕ) (u : Site) → first_of (slice_get l.defined.items i) ≢ Some (Some u);
  room : l.number + length l.of_type-iterator.rest.items ≤ 18446744073709551615;
}
