-- The invariants of a graph's objects.
use Rattle.std.specs.Prelude.{ℕ, List}
use Rattle.irtext_graph.specs.declared.graph.Counters.{Counters}
use Rattle.irtext_graph.specs.declared.object.Object.{Object}
use Rattle.irtext_graph.specs.declared.objects.Objects.{Objects}
use Rattle.irtext_graph.specs.Arena.{HasFew, AreOlder}
use Rattle.irtext_graph.specs.Graph.{graph_of}
use Rattle.irtext_graph.specs.Log.{IsLogged}
use Rattle.irtext_graph.specs.Numbers.{AreNumbered}
use Rattle.irtext_graph.specs.Objects.{IsForest}
use Rattle.irtext_graph.specs.Uses.{AreUsesLinked, AreAllUsed}

-- the objects are a forest, each operand and successor is in the use list of what it refers to, and every object was made before the mark
pub record IsSound {O B T : Type 0} (made : ℕ) (x : Objects O B T) : Type 0 where
  pub forest : IsForest x
  pub uses : AreUsesLinked x
  pub all_used : AreAllUsed x
  pub few_operations : HasFew x.operations
  pub few_blocks : HasFew x.blocks
  pub few_regions : HasFew x.regions
  pub older_operations : AreOlder made x.operations
  pub older_blocks : AreOlder made x.blocks
  pub older_regions : AreOlder made x.regions

-- the objects are sound, the log has all of them, and the numbers of values differ and are less than the counter
pub record IsKept {O B T : Type 0} (made : ℕ) (counters : Counters) (log : List Object) (x : Objects O B T) : Type 0 where
  pub sound : IsSound made x
  pub logged : IsLogged made log x
  pub numbered : AreNumbered (graph_of made counters x)
