-- Between functions: an operation, a block or a region that is created, and where.
use Rattle.std.specs.Prelude.{◌≡◌, List, Option, Some, None}
use Rattle.irtext_context.specs.Context.{ContextView, AddsRegion, MakesBlock, with_graph}
use Rattle.irtext_context.specs.declared.base.block.BlockData.{BlockData}
use Rattle.irtext_graph.specs.declared.arena.Ptr.{Ptr}
use Rattle.irtext_graph.specs.declared.object.BasicBlock.{BasicBlock}
use Rattle.irtext_graph.specs.declared.object.Operation.{Operation}
use Rattle.irtext_graph.specs.declared.object.Region.{Region}
use Rattle.irtext_graph.specs.declared.object.Object.TheVariants.{TheBlock, TheOperation, TheRegion}
use Rattle.irtext_graph.specs.Graph.{Appends, MakesRegion}

module _ {T A : Type 0} where
  -- the operation was appended to the block, if one is given; otherwise nothing changed
  abbrev pub PlacedIn : Option (Ptr BasicBlock) → ContextView T A → ContextView T A → Ptr Operation → Type 0
  PlacedIn None old new op = new ≡ old
  PlacedIn (Some b) old new op = Appends old.graph new.graph (TheBlock b) (TheOperation op) × (new.paths ≡ old.paths) × (new.dialects ≡ old.dialects)

-- a block with this data and with arguments of these types was created and appended to a region
pub record PlacesBlock {T A : Type 0} (old new : ContextView T A) (r : Ptr Region) (b : Ptr BasicBlock) (held : BlockData A) (types : List T) : Type 0 where
  pub between : ContextView T A
  pub makes : MakesBlock old between b held types
  pub appends : Appends between.graph new.graph (TheRegion r) (TheBlock b)
  pub paths : new.paths ≡ old.paths
  pub dialects : new.dialects ≡ old.dialects

-- a region was created: the last of an operation, or without a parent
abbrev pub CreatesIn : {T A : Type 0} → Option (Ptr Operation) → ContextView T A → ContextView T A → Ptr Region → Type 0
CreatesIn (Some op) old new r = AddsRegion old new op r
CreatesIn None old new r = MakesRegion old.graph new.graph r × (new ≡ with_graph old new.graph)
