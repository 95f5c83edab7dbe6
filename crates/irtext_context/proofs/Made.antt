-- Regions that are added to an operation one after another, and that objects older than they are unchanged.
use Rattle.std.proofs.Common.{◌≡◌, ◌≤◌, ◌+◌, ◌∙◌, ℕ, suc, Option, None, Some, IsSome, sym, subst, arith, List}
use Rattle.std.specs.Option.{option_map}
use Rattle.irtext_graph.specs.Content.{OperationContent, Content, Content.{AnOperation}}
use Rattle.irtext_graph.specs.Graph.{IsLive, content_of}
use Rattle.irtext_graph.specs.Regions.{with_child}
use Rattle.irtext_graph.specs.Store.{get, before, object_of}
use Rattle.irtext_graph.specs.declared.arena.Ptr.{Ptr}
use Rattle.irtext_graph.specs.declared.object.BasicBlock.{BasicBlock}
use Rattle.irtext_graph.specs.declared.object.Operation.{Operation}
use Rattle.irtext_graph.specs.declared.object.Region.{Region}
use Rattle.irtext_graph.specs.declared.object.Value.{Value}
use Rattle.irtext_graph.specs.declared.object.Object.TheVariants.{TheOperation}
use Rattle.irtext_context.specs.Context.{ContextView, MakesOperation, AddsRegion, KeepsOlder}
use Rattle.irtext_context.specs.Made.{AddsRegions}
use Rattle.irtext_context.specs.declared.base.operation.OperationData.{OperationData}
use Rattle.irtext_context.specs.declared.base.block.BlockData.{BlockData}
use Rattle.irtext_context.proofs.Contexts.{OperationEntry}
use Rattle.irtext_context.proofs.Kept.{kept_trans, before_made}

-- what an operation is, with how many objects were made before it
abbrev shown : {O B T : Type 0} → ℕ × OperationContent O T → Content O B T
shown d = AnOperation d.0 d.1

-- an operation that is there
abbrev pub There : (T A : Type 0) → Option (OperationEntry T A) → Type 0
There T A o = IsSome (option_map (shown {O = Option (OperationData A)} {B = BlockData A} {T = Option T}) (content_of o))

module _ {T A : Type 0} where
  -- an operation is live after a region was added to it
  pub still_live : {old new : ContextView T A} {op : Ptr Operation} {r : Ptr Region} → IsLive old.graph (TheOperation op) → AddsRegion old new op r → IsLive new.graph (TheOperation op)
  still_live {old} {new} {op} {r} h a = subst (There T A) (sym a.graph.operations.updates.changed) (go (get old.graph.operations op) h)
    where
      go : (o : Option (OperationEntry T A)) → There T A o → There T A (option_map (object_of (with_child r)) o)
      go None h = h
      go (Some x) h = h

  -- what is unchanged is still unchanged after a region is added to a newer operation
  pub kept_more : {old mid new : ContextView T A} (op : Ptr Operation) (mark : ℕ) → old.graph.made ≤ mid.graph.made → (mark ≤ old.graph.made → before mark old.graph.operations op ≡ None → KeepsOlder mark old mid)
      → ((m : ℕ) → m ≤ mid.graph.made → before m mid.graph.operations op ≡ None → KeepsOlder m mid new) → mark ≤ old.graph.made → before mark old.graph.operations op ≡ None → KeepsOlder mark old new
  kept_more op mark up first more h none =
      let k = first h none in
      kept_trans k (more mark (omega (arith, h, up)) (k.graph.operations op ∙ none))

  -- what is unchanged when an operation is made is unchanged when regions are added to it
  pub kept_made : {old mid new : ContextView T A} {op : Ptr Operation} {held : OperationData A} {types : List T} {operands : List Value} {successors : List (Ptr BasicBlock)} (mark : ℕ) → mark ≤ old.graph.made
      → MakesOperation old mid op held types operands successors → KeepsOlder mark old mid
      → ((m : ℕ) → m ≤ mid.graph.made → before m mid.graph.operations op ≡ None → KeepsOlder m mid new) → KeepsOlder mark old new
  kept_made mark h m k more = let n = m.graph.made in kept_trans k (more mark (omega (arith, h, n)) (before_made mark h m))

  -- one more region
  pub adds_last : (old mid new : ContextView T A) (op : Ptr Operation) (r : Ptr Region) (n : ℕ) → AddsRegions n old mid op → AddsRegion mid new op r → AddsRegions (n + 1) old new op
  adds_last old mid new op r n h a = let next : suc n ≡ n + 1 = omega arith in subst (λ k. AddsRegions k old new op) next (mid, r, h, a)
