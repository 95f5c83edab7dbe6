-- For callers: in a context only an operation and everything nested in it is new.
use Rattle.std.specs.Prelude.{◌≡◌, ◌⊎◌, ℕ, None, IsSome}
use Rattle.irtext_base.specs.Paths.{KeepsPaths}
use Rattle.irtext_context.specs.Context.{ContextView, operation}
use Rattle.irtext_graph.specs.declared.arena.Ptr.{Ptr}
use Rattle.irtext_graph.specs.declared.object.Operation.{Operation}
use Rattle.irtext_graph.specs.declared.object.BasicBlock.{BasicBlock}
use Rattle.irtext_graph.specs.declared.object.Region.{Region}
use Rattle.irtext_graph.specs.declared.object.Object.{Object}
use Rattle.irtext_graph.specs.declared.object.Object.TheVariants.{TheOperation}
use Rattle.irtext_graph.specs.declared.object.Defined.{Defined}
use Rattle.irtext_graph.specs.declared.object.Defined.TheVariants.{OfValue}
use Rattle.irtext_graph.specs.declared.object.Site.{Site}
use Rattle.irtext_graph.specs.declared.object.Value.TheVariants.{Result}
use Rattle.irtext_graph.specs.Graph.{CountsOn, IsLive, IsInside, IsNew}
use Rattle.irtext_graph.specs.Store.{get}
use Rattle.irtext_graph.specs.Used.{IsDefined, IsUse}

-- Each live object was live before, or is the operation or nested in it; nothing in the operation was live before. Each older object is
-- unchanged, and has no new uses. Nothing that was given is given again. Each path keeps its key, and the dialects are the same.
pub record OnlyNew {T A : Type 0} (op : Ptr Operation) (old new : ContextView T A) : Type 0 where
  pub live : (q : Object) → IsLive new.graph q → IsLive old.graph q ⊎ IsInside new.graph (TheOperation op) q
  pub is_new : (q : Object) → IsInside new.graph (TheOperation op) q → IsLive old.graph q → ⊥
  pub operations : (p : Ptr Operation) → IsSome (get old.graph.operations p) → get new.graph.operations p ≡ get old.graph.operations p
  pub blocks : (b : Ptr BasicBlock) → IsSome (get old.graph.blocks b) → get new.graph.blocks b ≡ get old.graph.blocks b
  pub regions : (r : Ptr Region) → IsSome (get old.graph.regions r) → get new.graph.regions r ≡ get old.graph.regions r
  pub uses : (d : Defined) (s : Site) → IsDefined old.graph d → IsUse new.graph d s → IsUse old.graph d s
  pub counts : CountsOn old.graph new.graph
  pub paths : KeepsPaths old.paths new.paths
  pub dialects : new.dialects ≡ old.dialects

-- of the objects that were created after the first m, each operation without data has a result, as the placeholders of values do
abbrev pub BlanksDefine : {T A : Type 0} → ℕ → ContextView T A → Type 0
BlanksDefine m c = (p : Ptr Operation) → IsSome (get c.graph.operations p) → operation c p ≡ None → IsNew m c.graph (TheOperation p) → (i : ℕ) × IsDefined c.graph (OfValue (Result p i))
