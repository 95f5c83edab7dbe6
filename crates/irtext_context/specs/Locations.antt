-- Erasing the locations of an operation and of everything nested in it.
use Rattle.std.specs.Prelude.{◌≡◌}
use Rattle.std.specs.Option.{option_map}
use Rattle.irtext_base.specs.declared.location.Location.{Unknown}
use Rattle.irtext_graph.specs.Throughout.{EditsInside}
use Rattle.irtext_graph.specs.declared.arena.Ptr.{Ptr}
use Rattle.irtext_graph.specs.declared.object.Object.TheVariants.{TheOperation}
use Rattle.irtext_graph.specs.declared.object.Operation.{Operation}
use Rattle.irtext_context.specs.Context.{ContextView, with_loc, with_block_loc}

-- the locations of an operation and of all operations and blocks nested in it are `Unknown`, and all else is unchanged
pub record ErasesLocations {T A : Type 0} (old new : ContextView T A) (op : Ptr Operation) : Type 0 where
  pub graph : EditsInside old.graph new.graph (TheOperation op) (option_map (with_loc Unknown)) (with_block_loc Unknown)
  pub paths : new.paths ≡ old.paths
  pub dialects : new.dialects ≡ old.dialects
