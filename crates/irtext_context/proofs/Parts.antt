-- What is seen of an operation and of its regions by the calls on its pointer.
use Rattle.std.proofs.Common.{◌≡◌, ℕ, refl, Option, None, Some, IsSome, length}
use Rattle.std.specs.Option.{option_map}
use Rattle.std.specs.Prelude.{option_and_then}
use Rattle.irtext_graph.specs.Graph.{IsLive, children_of}
use Rattle.irtext_graph.specs.Parts.{regions}
use Rattle.irtext_graph.specs.Store.{get}
use Rattle.irtext_graph.specs.declared.arena.Ptr.{Ptr}
use Rattle.irtext_graph.specs.declared.object.Operation.{Operation}
use Rattle.irtext_graph.specs.declared.object.Object.TheVariants.{TheOperation}
use Rattle.irtext_context.specs.Context.{ContextView, operation, operation_of, regions_in, view_of}
use Rattle.irtext_context.specs.declared.base.operation.OperationData.{OperationData}
use Rattle.irtext_context.proofs.Contexts.{OperationEntry}
use Rattle.irtext_context.proofs.Made.{There}

module _ {T A : Type 0} (c : ContextView T A) (p : Ptr Operation) where
  -- an operation with a view is live in the graph
  pub seen_is_live : IsSome (operation c p) → IsLive c.graph (TheOperation p)
  seen_is_live h = go (get c.graph.operations p) h
    where
      go : (o : Option (OperationEntry T A)) → IsSome (option_and_then operation_of o) → There T A o
      go None h = absurd (cc)
      go (Some x) h = refl

  -- its regions are those that the graph has
  pub regions_seen : IsSome (operation c p) → regions c.graph p ≡ regions_in (operation c p)
  regions_seen h = go (get c.graph.operations p) h
    where
      inner : (x : OperationEntry T A) (o : Option (OperationData A)) → IsSome (option_map (view_of x.content.content.results x.content.children) o) → x.content.children ≡ regions_in (option_map (view_of {T = T} x.content.content.results x.content.children) o)
      inner x None h = absurd (cc)
      inner x (Some held) h = refl

      go : (o : Option (OperationEntry T A)) → IsSome (option_and_then operation_of o) → children_of o ≡ regions_in (option_and_then operation_of o)
      go None h = absurd (cc)
      go (Some x) h = inner x x.content.content.data_of h

  -- and as many
  pub regions_counted : IsSome (operation c p) → (n : ℕ) → n ≡ length (regions c.graph p) → n ≡ length (regions_in (operation c p))
  regions_counted h n e = rw (← regions_seen h) e
