-- Locations are removed: the second time changes nothing, and what is older than all objects inside is unchanged.
use Rattle.std.proofs.Common.{◌≡◌, ◌∙◌, ℕ, refl, inl, inr, Option, Some, None}
use Rattle.std.specs.Option.{option_map}
use Rattle.irtext_base.specs.declared.location.Location.{Unknown}
use Rattle.irtext_graph.specs.Graph.{GraphView, IsInside, parent, children}
use Rattle.irtext_graph.specs.Nested.{Nested}
use Rattle.irtext_graph.specs.Throughout.{IsNewInside, HoldsNoBlocks}
use Rattle.irtext_graph.specs.declared.arena.Ptr.{Ptr}
use Rattle.irtext_graph.specs.declared.object.Object.{Object}
use Rattle.irtext_graph.specs.declared.object.Object.TheVariants.{TheOperation}
use Rattle.irtext_graph.specs.declared.object.Operation.{Operation}
use Rattle.irtext_graph.proofs.Alone.{edited_alone}
use Rattle.irtext_graph.proofs.Going.{Going, edited_inside-keeps}
use Rattle.irtext_graph.proofs.Nests.{climb-same}
use Rattle.irtext_context.specs.Context.{ContextView, KeepsOlder, EditsOperation, with_loc, with_block_loc}
use Rattle.irtext_context.specs.Locations.{ErasesLocations}
use Rattle.irtext_context.specs.declared.base.operation.OperationData.{OperationData}
use Rattle.irtext_context.proofs.Contexts.{same-paths}

pub erased_twice : {A : Type 0} (held : Option (OperationData A)) → option_map (with_loc Unknown) (option_map (with_loc Unknown) held) ≡ option_map (with_loc Unknown) held
erased_twice None = refl
erased_twice (Some held) = refl

-- while the data of the objects inside are changed, what was inside is inside
pub now_inside : {O B T : Type 0} (f : O → O) (h : B → B) (old now : GraphView O B T) (o : Object) (at : Option Object) → Going f h old now o at → (q : Object) → IsInside old o q → IsInside now o q
now_inside f h old now o at d q w = (w.0, climb-same (parent old) (parent now) holder w.0 (Some q) ∙ w.1)
  where
    holder : (r : Object) → parent now r ≡ parent old r
    holder r = elim (d.either r) [ inl s ↦ s.holder | inr s ↦ s.1.holder ]

module _ {T A : Type 0} (old new : ContextView T A) (op : Ptr Operation) (forest : Nested (children old.graph) (parent old.graph)) (e : ErasesLocations old new op) where
  -- if no block is inside, the operation alone changes
  pub erased_alone : HoldsNoBlocks old.graph (TheOperation op) → EditsOperation old new op (with_loc Unknown)
  erased_alone none = record {
    graph = edited_alone (option_map (with_loc Unknown)) (with_block_loc Unknown) old.graph new.graph op e.graph none forest;
    paths = e.paths;
    dialects = e.dialects;
  }

  -- what is older than all objects inside is unchanged
  pub erased-keeps : (mark : ℕ) → IsNewInside mark old.graph (TheOperation op) → KeepsOlder mark old new
  erased-keeps mark young = record {
    graph = edited_inside-keeps (option_map (with_loc Unknown)) (with_block_loc Unknown) mark old.graph new.graph (TheOperation op) forest e.graph young;
    paths = same-paths e.paths;
    dialects = e.dialects;
  }
