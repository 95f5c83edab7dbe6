-- The types of the values of a context: placeholders have none.
use Rattle.std.specs.Prelude.{◌≡◌, ℕ, List, length, map, filter_map, slice_get, Option, Some, IsSome, option_and_then}
use Rattle.irtext_context.specs.Context.{ContextView}
use Rattle.irtext_graph.specs.Parts.{results, value_at}
use Rattle.irtext_graph.specs.declared.arena.Ptr.{Ptr}
use Rattle.irtext_graph.specs.declared.object.Operation.{Operation}
use Rattle.irtext_graph.specs.declared.object.Value.{Value}
use Rattle.irtext_graph.specs.declared.object.Value.TheVariants.{Result}
use Rattle.irtext_graph_queries.specs.Lists.{each}

module _ {T A : Type 0} where
  -- the type of a value; `None` if the value is not defined, or is a placeholder
  abbrev pub value_type : ContextView T A → Value → Option T
  value_type c v = option_and_then (λ t. t.of_type) (value_at c.graph v)

  -- the value is in the context: it is defined, and is no placeholder, so it has a type
  abbrev pub IsContainedValue : ContextView T A → Value → Type 0
  IsContainedValue c v = IsSome (value_type c v)

  -- each of these values is in the context
  abbrev pub AreContainedValues : ContextView T A → List Value → Type 0
  AreContainedValues c values = (i : ℕ) (v : Value) → slice_get values i ≡ Some v → IsContainedValue c v

  -- the results of an operation as values, in order
  abbrev pub result_values : ContextView T A → Ptr Operation → List Value
  result_values c p = each (Result p) (length (results c.graph p))

  -- the types, in order, of those of these values that have one; if each value is in the context, they are the types of all of them
  pub record ListsTypes (c : ContextView T A) (values : List Value) (types : List T) : Type 0 where
    pub typed : types ≡ filter_map (value_type c) values
    pub all : AreContainedValues c values → map Some types ≡ map (value_type c) values
