-- Of which kind the ancestor a given number of levels above an object is.
use Rattle.std.proofs.Common.{◌≡◌, refl, Option, Some, None}
use Rattle.std.specs.Option.{option_map}
use Rattle.irtext_graph.specs.declared.arena.Ptr.{Ptr}
use Rattle.irtext_graph.specs.declared.object.BasicBlock.{BasicBlock}
use Rattle.irtext_graph.specs.declared.object.Object.{Object}
use Rattle.irtext_graph.specs.declared.object.Object.TheVariants.{TheOperation, TheBlock, TheRegion}
use Rattle.irtext_graph.specs.declared.object.Operation.{Operation}
use Rattle.irtext_graph.specs.declared.object.Region.{Region}
use Rattle.irtext_graph.specs.Graph.{GraphView, parent, parent_of, ancestor}
use Rattle.irtext_graph.specs.Nested.{climb}
use Rattle.irtext_graph.specs.Store.{get}
use Rattle.irtext_graph_queries.specs.Ancestors.{to_block}

module _ {O B T : Type 0} (g : GraphView O B T) where
  block_from_operation : (s : Option (Ptr Operation)) → (p : Option (Ptr BasicBlock)) × (climb (parent g) 1 (option_map TheOperation s) ≡ option_map TheBlock p)
  block_from_operation None = (None, refl)
  block_from_operation (Some q) = (parent_of (get g.operations q), refl)

  block_from_region : (s : Option (Ptr Region)) → (p : Option (Ptr BasicBlock)) × (climb (parent g) 2 (option_map TheRegion s) ≡ option_map TheBlock p)
  block_from_region None = (None, refl)
  block_from_region (Some r) = block_from_operation (parent_of (get g.regions r))

  -- the same of a block
  pub block_round : (o : Object) → (p : Option (Ptr BasicBlock)) × (ancestor g (to_block o) o ≡ option_map TheBlock p)
  block_round (TheOperation q) = (parent_of (get g.operations q), refl)
  block_round (TheRegion r) = block_from_operation (parent_of (get g.regions r))
  block_round (TheBlock b) = block_from_region (parent_of (get g.blocks b))
