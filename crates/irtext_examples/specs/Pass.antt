-- What a pass over attributes leaves unchanged.
use Rattle.std.specs.Prelude.{◌≡◌, []}
use Rattle.std.specs.Option.{option_map}
use Rattle.irtext_graph.specs.Parts.{operands, successors}
use Rattle.irtext_graph.specs.declared.arena.Ptr.{Ptr}
use Rattle.irtext_graph.specs.declared.object.Operation.{Operation}
use Rattle.irtext_context.specs.Context.{ContextView, OperationView, operation}

module _ {T A : Type 0} where
  -- an operation without its attributes
  abbrev pub without_attributes : OperationView T A → OperationView T A
  without_attributes op = record op { attributes = [] }

  -- nothing but attributes of operations differs: the same operations, blocks and regions are in the context, and each operation has the
  -- same id, location, operands, successors, results and regions
  pub record ChangesAttributes (old new : ContextView T A) : Type 0 where
    pub operations : (p : Ptr Operation) → option_map without_attributes (operation new p) ≡ option_map without_attributes (operation old p)
    pub operands : (p : Ptr Operation) → operands new.graph p ≡ operands old.graph p
    pub successors : (p : Ptr Operation) → successors new.graph p ≡ successors old.graph p
    pub blocks : new.graph.blocks ≡ old.graph.blocks
    pub regions : new.graph.regions ≡ old.graph.regions
