-- A block that is appended to a region that is no older than a mark keeps all that is older.
use Rattle.std.proofs.Common.{◌≡◌, ◌≤◌, ◌∙◌, ℕ, List, Option, ap, subst}
use Rattle.std.specs.Option.{option_map}
use Rattle.irtext_context.specs.Context.{ContextView, MakesBlock, KeepsOlder, with_graph}
use Rattle.irtext_context.specs.declared.base.block.BlockData.{BlockData}
use Rattle.irtext_context.specs.declared.base.operation.OperationData.{OperationData}
use Rattle.irtext_graph.specs.declared.arena.Ptr.{Ptr}
use Rattle.irtext_graph.specs.declared.object.BasicBlock.{BasicBlock}
use Rattle.irtext_graph.specs.declared.object.Region.{Region}
use Rattle.irtext_graph.specs.declared.object.Object.TheVariants.{TheBlock, TheRegion}
use Rattle.irtext_graph.specs.Content.{Content.{ABlock, ARegion}}
use Rattle.irtext_graph.specs.Graph as graphs
use Rattle.irtext_graph.specs.Graph.{GraphView, content_of, IsNew}
use Rattle.irtext_graph.specs.Objects.{is_older}
use Rattle.irtext_graph.specs.Store.{get}
use Rattle.irtext_graph.proofs.Closed.{older_on}
use Rattle.irtext_names.proofs.Appending.{keeps_with}
use Rattle.irtext_names.proofs.Lasting.{not_below}

module _ {T A : Type 0} (old mid new : ContextView T A) (r : Ptr Region) (b : Ptr BasicBlock) (held : BlockData A) (types : List T) (make : MakesBlock old mid b held types) where
  -- the region is as new as it was, and the block is new
  region_new : (m : ℕ) → IsNew m old.graph (TheRegion r) → IsNew m mid.graph (TheRegion r)
  region_new m n = ap (λ s. is_older {O = Option (OperationData A)} {B = BlockData A} {T = Option T} m (option_map (λ d. ARegion d.0 d.1) (content_of (get s r)))) make.graph.regions ∙ n

  pub block_new : (m : ℕ) → m ≤ old.graph.made → IsNew m mid.graph (TheBlock b)
  block_new m le = ap (λ e. is_older {O = Option (OperationData A)} {B = BlockData A} {T = Option T} m (option_map (λ d. ABlock d.0 d.1) (content_of e))) make.graph.blocks.updates.changed ∙ not_below old.graph.made m le

  kept_placed : (m : ℕ) → m ≤ old.graph.made → IsNew m old.graph (TheRegion r) → KeepsOlder m old mid → (IsNew m mid.graph (TheRegion r) → IsNew m mid.graph (TheBlock b) → KeepsOlder m mid new) → KeepsOlder m old new
  kept_placed m le n k f =
      let l = f (region_new m n) (block_new m le) in
      record {
        graph = older_on m old.graph mid.graph new.graph k.graph l.graph;
        paths = λ i p e. l.paths i p (k.paths i p e);
        dialects = l.dialects ∙ k.dialects;
      }

-- so does one that is appended in the graph that was lent for it
pub kept_appended : {T A : Type 0} {old mid : ContextView T A} (r : Ptr Region) (b : Ptr BasicBlock) {held : BlockData A} {types : List T} {lent new : GraphView (Option (OperationData A)) (BlockData A) (Option T)} → MakesBlock old mid b held types → lent ≡ mid.graph
    → ((m : ℕ) → m ≤ old.graph.made → KeepsOlder m old mid) → ((m : ℕ) → IsNew m lent (TheRegion r) → IsNew m lent (TheBlock b) → graphs.KeepsOlder m lent new)
    → (m : ℕ) → m ≤ old.graph.made → IsNew m old.graph (TheRegion r) → KeepsOlder m old (with_graph mid new)
kept_appended {old = old} {mid = mid} r b {held = held} {types = types} {new = new} make is kept appends m le n =
    kept_placed old mid (with_graph mid new) r b held types make m le n (kept m le)
    (λ p q. keeps_with mid new m (subst (λ k. IsNew m k (TheRegion r) → IsNew m k (TheBlock b) → graphs.KeepsOlder m k new) is (appends m) p q))
