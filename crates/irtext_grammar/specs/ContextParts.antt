-- Between functions: what the types of a context's parts ensure of its objects.
use Rattle.std.specs.Prelude.{◌≡◌, ◌<◌, ◌^◌, ℕ, Some, IfSome}
use Rattle.irtext_context.specs.Context.{ContextView, OperationView, BlockView, operation, block}
use Rattle.irtext_graph.specs.Graph.{GraphView, children, parent}
use Rattle.irtext_graph.specs.Nested.{Nested}
use Rattle.irtext_graph.specs.Numbers.{NumbersDiffer}
use Rattle.irtext_graph.specs.Parts.{value_at}
use Rattle.irtext_graph.specs.Places.{pointer_at}
use Rattle.irtext_graph.specs.Used.{IsUse, IsDefined}
use Rattle.irtext_graph.specs.Content.{Typed}
use Rattle.irtext_graph.specs.declared.arena.Ptr.{Ptr}
use Rattle.irtext_graph.specs.declared.object.BasicBlock.{BasicBlock}
use Rattle.irtext_graph.specs.declared.object.Defined.{Defined}
use Rattle.irtext_graph.specs.declared.object.Operation.{Operation}
use Rattle.irtext_graph.specs.declared.object.Site.{Site}
use Rattle.irtext_graph.specs.declared.object.Value.{Value}
use Rattle.irtext_grammar.specs.Contexts.Held.{entries_of, location_over}
use Rattle.irtext_grammar.specs.Graphs.Identifiers.{EntryHasIdentifiers}
use Rattle.irtext_grammar.specs.Graphs.ReservedKeys.{KeepsKeys}
use Rattle.irtext_grammar.specs.Graphs.RoundTrip.{KeysDiffer}
use Rattle.irtext_grammar.specs.Spelling.AttrText.{IsSpellableAttr}
use Rattle.irtext_grammar.specs.Spelling.Spellable.{Each, IsGiven}
use Rattle.irtext_grammar.specs.Promises.KeptRoot.{AllHold, IsKept}
use Rattle.irtext_grammar.specs.Promises.LocationsBack.{AllFit}

-- What the types of a block's parts ensure: its label and its keys are identifiers, and so are the names in its attributes; its keys are
-- distinct, and under the key of given names there are only given names; the paths and names in its location are UTF-8, the lines and
-- columns there fit, and the names in the attributes there are identifiers.
pub record IsKeptBlock {T A : Type 0} (ctx : ContextView T A) (b : BlockView T A) : Type 0 where
  pub label : IsGiven b.label
  pub attributes : Each EntryHasIdentifiers (entries_of b.attributes)
  pub keys : KeepsKeys (entries_of b.attributes)
  pub differ : KeysDiffer (entries_of b.attributes)
  pub fits : AllFit (location_over ctx.paths b.loc)
  pub holds : AllHold IsSpellableAttr (location_over ctx.paths b.loc)

module _ {T A : Type 0} (ctx : ContextView T A) where
  -- the operation at a place of the arena, if there is one and it is no placeholder, has the properties that its types ensure
  abbrev pub KeepsOperationAt : ℕ → Type 0
  KeepsOperationAt place = IfSome (pointer_at ctx.graph.operations place) (λ (p : Ptr Operation). (view : OperationView T A) → operation ctx p ≡ Some view → IsKept ctx view)

  -- the block at a place of the arena, if there is one, has the properties that its types ensure, and its place and generation fit 32
  -- bits
  abbrev pub KeepsBlockAt : ℕ → Type 0
  KeepsBlockAt place = IfSome (pointer_at ctx.graph.blocks place) (λ (p : Ptr BasicBlock). (p.index < 2 ^ 32) × (p.generation < 2 ^ 32) × ((view : BlockView T A) → block ctx p ≡ Some view → IsKeptBlock ctx view))

-- The counters of a graph fit their types; parents and children agree; what is used is live; and no two values have the same number.
pub record KeepsCounters {O B T : Type 0} (g : GraphView O B T) : Type 0 where
  pub values : g.values < 2 ^ 64
  pub first_place : g.first_place < 2 ^ 32
  pub below : (v : Value) (t : Typed T) → value_at g v ≡ Some t → t.number < g.values
  pub differ : NumbersDiffer g
  pub nested : Nested (children g) (parent g)
  pub used : (u : Site) (d : Defined) → IsUse g d u → IsDefined g d

-- everything that the types of its parts ensure of a context
pub record KeepsAll {T A : Type 0} (ctx : ContextView T A) : Type 0 where
  pub counters : KeepsCounters ctx.graph
  pub operations : (p : Ptr Operation) (view : OperationView T A) → operation ctx p ≡ Some view → IsKept ctx view
  pub blocks : (b : Ptr BasicBlock) (view : BlockView T A) → block ctx b ≡ Some view → IsKeptBlock ctx view
  pub places : (b : Ptr BasicBlock) (view : BlockView T A) → block ctx b ≡ Some view → (b.index < 2 ^ 32) × (b.generation < 2 ^ 32)
