-- For callers: a root of a context, after a text was parsed in the same context.
use Rattle.std.specs.Prelude.{◌≡◌, Some, IsSome, ⊤}
use Rattle.irtext_base.specs.Paths.{KeepsPaths}
use Rattle.irtext_context.specs.Context.{ContextView, operation, block}
use Rattle.irtext_graph.specs.Graph.{CountsOn, IsInside, IsLive, content}
use Rattle.irtext_graph.specs.Store.{get}
use Rattle.irtext_graph.specs.declared.arena.Ptr.{Ptr}
use Rattle.irtext_graph.specs.declared.object.BasicBlock.{BasicBlock}
use Rattle.irtext_graph.specs.declared.object.Object.{Object}
use Rattle.irtext_graph.specs.declared.object.Object.TheVariants.{TheOperation, TheBlock, TheRegion}
use Rattle.irtext_graph.specs.declared.object.Operation.{Operation}
use Rattle.irtext_graph.specs.declared.object.Region.{Region}
use Rattle.irtext_grammar.specs.ContextParts.{KeepsCounters}
use Rattle.irtext_grammar.specs.Contexts.Nested.{pointers}
use Rattle.irtext_grammar.specs.Grammar.Forest.{AllRegions}
use Rattle.irtext_closed.specs.Located.{IsLocatedIn}

module _ {T A : Type 0} (c : ContextView T A) where
  -- the files of the operation's location are kept
  abbrev pub OperationLocated : Ptr Operation → Type 0
  OperationLocated p = (view : _) → operation c p ≡ Some view → IsLocatedIn c view.loc

  -- the files of the block's location are kept
  abbrev pub BlockLocated : Ptr BasicBlock → Type 0
  BlockLocated b = (view : _) → block c b ≡ Some view → IsLocatedIn c view.loc

  -- the same of a root and everything nested in it
  abbrev pub RootLocated : Ptr Operation → Type 0
  RootLocated p = OperationLocated p × AllRegions OperationLocated BlockLocated (λ r. ⊤) (pointers c.graph p).regions

-- `p` and everything nested in it is unchanged, and each object that was live has the content that it had. Nothing that was given is given
-- again, each path keeps its key, and the dialects are the same.
pub record KeepsRoot {T A : Type 0} (p : Ptr Operation) (old new : ContextView T A) : Type 0 where
  pub operations : (q : Ptr Operation) → IsInside old.graph (TheOperation p) (TheOperation q) → get new.graph.operations q ≡ get old.graph.operations q
  pub blocks : (b : Ptr BasicBlock) → IsInside old.graph (TheOperation p) (TheBlock b) → get new.graph.blocks b ≡ get old.graph.blocks b
  pub regions : (r : Ptr Region) → IsInside old.graph (TheOperation p) (TheRegion r) → get new.graph.regions r ≡ get old.graph.regions r
  pub contents : (q : Object) → IsLive old.graph q → content new.graph q ≡ content old.graph q
  pub counts : CountsOn old.graph new.graph
  pub paths : KeepsPaths old.paths new.paths
  pub dialects : new.dialects ≡ old.dialects

-- `p` was in the context before, with the files of the locations of `p` and of what is nested in it, and is kept.
pub record IsOlder {T A : Type 0} (p : Ptr Operation) (old new : ContextView T A) : Type 0 where
  pub kept : KeepsRoot p old new
  pub before : KeepsCounters old.graph
  pub after : KeepsCounters new.graph
  pub there : IsSome (operation old p)
  pub located : RootLocated old p
