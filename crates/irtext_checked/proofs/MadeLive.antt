-- An operation that was made with its regions is live.
use Rattle.std.proofs.Common.{ℕ, zero, suc, refl, sym, subst, Option, Some, None, IsSome, List}
use Rattle.std.specs.Option.{option_map}
use Rattle.irtext_base.specs.declared.base.identifier.OpId.{OpId}
use Rattle.irtext_graph.specs.declared.arena.Ptr.{Ptr}
use Rattle.irtext_graph.specs.declared.object.BasicBlock.{BasicBlock}
use Rattle.irtext_graph.specs.declared.object.Operation.{Operation}
use Rattle.irtext_graph.specs.declared.object.Region.{Region}
use Rattle.irtext_graph.specs.declared.object.Value.{Value}
use Rattle.irtext_context.specs.Context.{ContextView, OperationView, operation}
use Rattle.irtext_context.specs.Made.{bare, AddsRegions, MakesWithRegions}
use Rattle.irtext_context.proofs.Contexts.{with_region, made_seen, grown_seen}

module _ {T A : Type 0} where
  -- a live operation is live with one more region
  with_more : (r : Ptr Region) (o : Option (OperationView T A)) → IsSome o → IsSome (option_map (with_region r) o)
  with_more r None h = h
  with_more r (Some op) h = h

  -- an operation that is live is live after regions were appended to it
  pub live_after : (n : ℕ) (old new : ContextView T A) (op : Ptr Operation) → IsSome (operation old op) → AddsRegions n old new op → IsSome (operation new op)
  live_after zero old new op h e = subst (λ (c : ContextView T A). IsSome (operation c op)) (sym e) h
  live_after (suc n) old new op h (mid, r, adds, last) =
      subst (λ (o : Option (OperationView T A)). IsSome o) (sym (grown_seen mid new op r last)) (with_more r (operation mid op) (live_after n old mid op h adds))

  -- an operation that was made
  pub live_made : {old new : ContextView T A} {n : ℕ} {op : Ptr Operation} {id : OpId} {types : List T} {operands : List Value} {successors : List (Ptr BasicBlock)}
      → MakesWithRegions n old new op id types operands successors → IsSome (operation new op)
  live_made {old} {new} {n} {op} {id} {types} m =
      live_after n m.middle new op (subst (λ (o : Option (OperationView T A)). IsSome o) (sym (made_seen old m.middle op (bare id) types m.makes)) refl) m.adds
