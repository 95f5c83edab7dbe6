-- What is defined has a live owner.
use Rattle.std.proofs.Common.{ℕ, refl, None, Some, Option, IsSome, slice_get}
use Rattle.std.specs.Option.{option_map}
use Rattle.irtext_graph.specs.declared.arena.Entry.{Entry}
use Rattle.irtext_graph.specs.declared.object.BasicBlock.{BasicBlock}
use Rattle.irtext_graph.specs.declared.object.Defined.TheVariants.{OfValue}
use Rattle.irtext_graph.specs.declared.object.Operation.{Operation}
use Rattle.irtext_graph.specs.declared.object.Region.{Region}
use Rattle.irtext_graph.specs.declared.object.Value.{Value}
use Rattle.irtext_graph.specs.declared.object.Value.TheVariants as value
use Rattle.irtext_graph.specs.Content.{Content, Content.{AnOperation, ABlock}, Node, OperationContent, BlockContent}
use Rattle.irtext_graph.specs.Erasing.{owner}
use Rattle.irtext_graph.specs.Graph.{GraphView, IsLive, content_of}
use Rattle.irtext_graph.specs.Parts.{results_of, arguments_of, IsDefinedValue}
use Rattle.irtext_graph.specs.Store.{get}

module _ {O B T : Type 0} where
  abbrev an_operation : ℕ × OperationContent O T → Content O B T
  an_operation d = AnOperation d.0 d.1

  abbrev a_block : ℕ × BlockContent B T → Content O B T
  a_block d = ABlock d.0 d.1

  pub owner_live : (g : GraphView O B T) (v : Value) → IsDefinedValue g v → IsLive g (owner (OfValue v))
  owner_live g (value.Result p i) s = go (get g.operations p) s
    where
      go : (e : Option (Entry (Node BasicBlock Region (OperationContent O T)))) → IsSome (slice_get (results_of (option_map (λ x. x.content.content) e)) i) → IsSome (option_map an_operation (content_of e))
      go None h = absurd (cc)
      go (Some x) h = refl
  owner_live g (value.Argument b i) s = go (get g.blocks b) s
    where
      go : (e : Option (Entry (Node Region Operation (BlockContent B T)))) → IsSome (slice_get (arguments_of (option_map (λ x. x.content.content) e)) i) → IsSome (option_map a_block (content_of e))
      go None h = absurd (cc)
      go (Some x) h = refl
