-- If only placeholders are lost, every object that is present is unchanged.
use Rattle.std.proofs.Common.{[], ℕ, Option, Some, None, IsSome, option_map, refl, inl}
use Rattle.irtext_context.specs.Context.{ContextView, region, region_of}
use Rattle.irtext_context.specs.declared.base.block.BlockData.{BlockData}
use Rattle.irtext_context.specs.declared.base.operation.OperationData.{OperationData}
use Rattle.irtext_graph.specs.declared.arena.Entry.{Entry}
use Rattle.irtext_graph.specs.declared.arena.Ptr.{Ptr}
use Rattle.irtext_graph.specs.declared.object.BasicBlock.{BasicBlock}
use Rattle.irtext_graph.specs.declared.object.Operation.{Operation}
use Rattle.irtext_graph.specs.declared.object.Region.{Region}
use Rattle.irtext_graph.specs.declared.object.Object.{Object}
use Rattle.irtext_graph.specs.declared.object.Object.TheVariants.{TheOperation, TheBlock, TheRegion}
use Rattle.irtext_graph.specs.Content.{Node, Content, Content.{ARegion}, RegionContent}
use Rattle.irtext_graph.specs.Graph.{GraphView, content_of, IsLive}
use Rattle.irtext_graph.specs.Store.{get}
use Rattle.irtext_grammar.specs.Unchanged.{IsThere, ModifiesOnly}
use Rattle.irtext_grammar.proofs.Edits as edits
use Rattle.irtext_grammar.proofs.Edits.{alike_as}
use Rattle.irtext_names.specs.LosesPlaceholders.{IsPlaced, HasAsMany, LosesPlaceholders}
use Rattle.irtext_names.proofs.Lasting.{data_there, there_data, block_is_live, live_block_view}

module _ {T A : Type 0} where
  -- a region, as what an object is
  abbrev a_region : ℕ × RegionContent → Content (Option (OperationData A)) (BlockData A) (Option T)
  a_region d = ARegion d.0 d.1

  -- a live region has a view, and conversely
  pub live_region_view : (c : ContextView T A) (r : Ptr Region) → IsLive c.graph (TheRegion r) → IsSome (region c r)
  live_region_view c r h = go (get c.graph.regions r) h
    where
      go : (e : Option (Entry (Node Operation BasicBlock RegionContent))) → IsSome (option_map a_region (content_of e)) → IsSome (option_map region_of e)
      go None s = absurd (cc)
      go (Some e) s = refl

  pub region_is_live : (c : ContextView T A) (r : Ptr Region) → IsSome (region c r) → IsLive c.graph (TheRegion r)
  region_is_live c r h = go (get c.graph.regions r) h
    where
      go : (e : Option (Entry (Node Operation BasicBlock RegionContent))) → IsSome (option_map region_of e) → IsSome (option_map a_region (content_of e))
      go None s = absurd (cc)
      go (Some e) s = refl

  -- an object that is present is no placeholder, and one that is no placeholder is present
  there_placed : (c : ContextView T A) (q : Object) → IsThere c q → IsPlaced c.graph q
  there_placed c (TheOperation p) h = data_there c p h
  there_placed c (TheBlock b) h = (block_is_live c b h.0, h.1)
  there_placed c (TheRegion r) h = region_is_live c r h

  placed_there : (c : ContextView T A) (q : Object) → IsPlaced c.graph q → IsThere c q
  placed_there c (TheOperation p) h = there_data c p h.0 h.1
  placed_there c (TheBlock b) h = (live_block_view c b h.0, h.1)
  placed_there c (TheRegion r) h = live_region_view c r h

-- the same, as the theory of structure says it
many_as : {O B T : Type 0} (g k : GraphView (Option O) B T) (q : Object) → HasAsMany g k q → edits.HasAsMany g k q
many_as g k (TheOperation p) m = m
many_as g k (TheBlock b) m = m
many_as g k (TheRegion r) m = m

pub loses_spares : {T A : Type 0} (old new : ContextView T A) → LosesPlaceholders old.graph new.graph → ModifiesOnly [] old new
loses_spares old new l = record {
  spared = λ q there apart. let a = l.alike q (there_placed old q there) in
      alike_as old new q (record { contents = a.contents; as_many = many_as old.graph new.graph q a.as_many; parents = a.parents; lists = a.lists });
  brought = λ q there. inl (placed_there old q (l.brought q (there_placed new q there)));
}
