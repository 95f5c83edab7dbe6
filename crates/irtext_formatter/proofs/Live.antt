-- An operation stays live where only locations change.
use Rattle.std.proofs.Common.{◌≡◌, ℕ, Option, None, Some, IsSome, refl, sym, ap, subst}
use Rattle.std.specs.Option.{option_map}
use Rattle.std.specs.Prelude.{option_and_then}
use Rattle.irtext_base.specs.declared.location.Location.{Unknown}
use Rattle.irtext_graph.specs.Content.{Content, Content.{AnOperation, ABlock, ARegion}, OperationContent}
use Rattle.irtext_graph.specs.Graph.{content_of}
use Rattle.irtext_graph.specs.Store.{get}
use Rattle.irtext_graph.specs.Throughout.{changed}
use Rattle.irtext_graph.specs.declared.arena.Ptr.{Ptr}
use Rattle.irtext_graph.specs.declared.object.Object.TheVariants.{TheOperation}
use Rattle.irtext_graph.specs.declared.object.Operation.{Operation}
use Rattle.irtext_context.specs.Context.{ContextView, OperationView, operation, operation_of, view_of, with_loc, with_block_loc}
use Rattle.irtext_context.specs.Locations.{ErasesLocations}
use Rattle.irtext_context.specs.declared.base.block.BlockData.{BlockData}
use Rattle.irtext_context.specs.declared.base.operation.OperationData.{OperationData}
use Rattle.irtext_context.proofs.Contexts.{OperationEntry}

module _ {T A : Type 0} where
  some_still : (change : OperationData A → OperationData A) (f h : OperationData A → OperationView T A) (d : Option (OperationData A)) → IsSome (option_map f d) → IsSome (option_map h (option_map change d))
  some_still change f h None e = absurd (cc e)
  some_still change f h (Some d) e = refl

  -- an operation, as what an object is
  abbrev an_operation : ℕ × OperationContent (Option (OperationData A)) (Option T) → Content (Option (OperationData A)) (BlockData A) (Option T)
  an_operation d = AnOperation d.0 d.1

  -- the data of what is an operation
  abbrev data_in : Option (Content (Option (OperationData A)) (BlockData A) (Option T)) → Option (OperationData A)
  data_in None = None
  data_in (Some (AnOperation b c)) = c.data_of
  data_in (Some (ABlock b c)) = None
  data_in (Some (ARegion b c)) = None

  -- the operation whose locations were erased
  pub erased_live : (old new : ContextView T A) (p : Ptr Operation) → ErasesLocations old new p → IsSome (operation old p) → IsSome (operation new p)
  erased_live old new p e h = go (get old.graph.operations p) (get new.graph.operations p) (e.graph.inside (TheOperation p) (0, refl)).what h
    where
      go : (s t : Option (OperationEntry T A)) → option_map an_operation (content_of t) ≡ option_map (changed (option_map (with_loc Unknown)) (with_block_loc Unknown)) (option_map an_operation (content_of s))
          → IsSome (option_and_then operation_of s) → IsSome (option_and_then operation_of t)
      go None t e h = absurd (cc h)
      go (Some x) None e h = absurd (cc e)
      go (Some x) (Some y) e h =
          let same : y.content.content.data_of ≡ option_map (with_loc Unknown) x.content.content.data_of = ap data_in e in
          subst (λ d. IsSome (option_map (view_of y.content.content.results y.content.children) d)) (sym same)
          (some_still (with_loc Unknown) (view_of x.content.content.results x.content.children) (view_of y.content.content.results y.content.children) x.content.content.data_of h)
