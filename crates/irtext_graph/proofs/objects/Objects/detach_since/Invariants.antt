use Rattle.std.proofs.Common.{◌≡◌, ◌<◌, ◌≤◌, ℕ, Some, None, slice_get}
use Rattle.irtext_graph.specs.Arena.{AtLeast}
use Rattle.irtext_graph.specs.Used.{user}
use Rattle.irtext_graph.specs.Graph.{seen}
use Rattle.irtext_graph.specs.Log.{age}
use Rattle.irtext_graph.specs.Uses.{val, AreUsesLinked}
use Rattle.irtext_graph.specs.declared.object.Object.{Object}
use Rattle.irtext_graph.specs.declared.object.Object.TheVariants.{TheOperation}
use Rattle.irtext_graph.specs.declared.object.Site.{Site}
use Rattle.irtext_graph.proofs.objects.Objects.detach_since.Given as goal

abbrev pub invariant-loop-k : goal.invariant-loop-k
invariant-loop-k g l = record {
  linked : AreUsesLinked l.self;
  gone : (j : ℕ) (a : Object) (u : Site) → l.start ≤ j → j < l.k → slice_get l.log j ≡ Some a → a ≡ TheOperation (user u) → AtLeast l.mark (age l.fn.self a) → val l.self u ≡ None;
  kept : (u : Site) → (AtLeast l.mark (age l.fn.self (TheOperation (user u))) → ⊥) → val l.self u ≡ val l.fn.self u;
  same : seen l.self ≡ seen l.fn.self;
}
