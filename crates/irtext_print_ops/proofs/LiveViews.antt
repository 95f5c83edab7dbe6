-- Objects that are live in a context, and the views of them.
use Rattle.std.proofs.Common.{◌≡◌, refl, Option, Some, None, IsSome, IfSome}
use Rattle.std.specs.Option.{option_map}
use Rattle.irtext_context.specs.Context.{ContextView, block, block_of}
use Rattle.irtext_context.proofs.Contexts.{BlockEntry}
use Rattle.irtext_context.specs.declared.base.block.BlockData.{BlockData}
use Rattle.irtext_context.specs.declared.base.operation.OperationData.{OperationData}
use Rattle.irtext_graph.specs.Content.{Content, Content.{ABlock}}
use Rattle.irtext_graph.specs.Graph.{IsLive, content_of}
use Rattle.irtext_graph.specs.Store.{get}
use Rattle.irtext_graph.specs.declared.arena.Ptr.{Ptr}
use Rattle.irtext_graph.specs.declared.object.BasicBlock.{BasicBlock}
use Rattle.irtext_graph.specs.declared.object.Object.TheVariants.{TheBlock}

-- what is seen of something keeps what holds of each that is seen
pub for_seen : {X Y : Type 0} (o : Option X) (see : X → Y) (Q : Y → Type 0) → ((x : X) → o ≡ Some x → Q (see x)) → IfSome (option_map see o) Q
for_seen None see Q h = tt
for_seen (Some x) see Q h = h x refl

-- what is seen of something live has what holds of each that is seen
pub when_live : {X Y : Type 0} (see : X → Y) (P : Option Y → Type 0) (o : Option X) → IsSome o → ((x : X) → P (Some (see x))) → P (option_map see o)
when_live see P None live h = absurd (cc)
when_live see P (Some x) live h = h x

module _ {T A : Type 0} (ctx : ContextView T A) (b : Ptr BasicBlock) where
  -- a block of the graph is seen
  pub block_there : IsLive ctx.graph (TheBlock b) → IsSome (block ctx b)
  block_there h = go (get ctx.graph.blocks b) h
    where
      go : (o : Option (BlockEntry T A)) → IsSome {T = Content (Option (OperationData A)) (BlockData A) (Option T)} (option_map (λ d. ABlock d.0 d.1) (content_of o)) → IsSome (option_map block_of o)
      go None h = absurd (cc)
      go (Some e) h = refl

  -- a block with a view is live in the graph
  pub block_is_live : IsSome (block ctx b) → IsLive ctx.graph (TheBlock b)
  block_is_live h = go (get ctx.graph.blocks b) h
    where
      go : (o : Option (BlockEntry T A)) → IsSome (option_map block_of o) → IsSome {T = Content (Option (OperationData A)) (BlockData A) (Option T)} (option_map (λ d. ABlock d.0 d.1) (content_of o))
      go None h = absurd (cc)
      go (Some e) h = refl
