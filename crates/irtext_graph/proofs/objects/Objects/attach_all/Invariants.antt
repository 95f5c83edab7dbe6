use Rattle.std.proofs.Common.{◌≡◌, ◌≢◌, ◌<◌, ◌≤◌, ℕ, IsSome}
use Rattle.irtext_graph.specs.declared.object.Site.{Site}
use Rattle.irtext_graph.specs.Graph.{seen}
use Rattle.irtext_graph.specs.Uses.{val, AreUsesLinked}
use Rattle.irtext_graph.specs.Linking.{site_of}
use Rattle.irtext_graph.proofs.objects.Objects.attach_all.Given as goal

abbrev pub invariant-loop-i : goal.invariant-loop-i
invariant-loop-i g l = record {
  linked : AreUsesLinked l.self;
  used : (j : ℕ) → j < l.i → IsSome (val l.self (site_of l.side l.p j));
  later : (j : ℕ) → l.i ≤ j → val l.self (site_of l.side l.p j) ≡ val l.fn.self (site_of l.side l.p j);
  kept : (u : Site) → ((j : ℕ) → u ≢ site_of l.side l.p j) → val l.self u ≡ val l.fn.self u;
  seen : seen l.self ≡ seen l.fn.self;
}
