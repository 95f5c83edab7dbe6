-- A region that is appended to an operation with data: what is defined, what is in place and what waits is unchanged.
use Rattle.std.proofs.Common.{◌≡◌, ◌∙◌, inl, inr, Option, Some, None, map, refl, sym, ap}
use Rattle.std.specs.Option.{option_map}
use Rattle.irtext_graph.specs.declared.arena.Ptr.{Ptr}
use Rattle.irtext_graph.specs.declared.arena.Entry.{Entry}
use Rattle.irtext_graph.specs.declared.object.Operation.{Operation}
use Rattle.irtext_graph.specs.declared.object.BasicBlock.{BasicBlock}
use Rattle.irtext_graph.specs.declared.object.Region.{Region}
use Rattle.irtext_graph.specs.declared.object.Object.TheVariants.{TheOperation, TheBlock, TheRegion}
use Rattle.irtext_graph.specs.Content.{Node, OperationContent, AnOperation}
use Rattle.irtext_graph.specs.Graph.{GraphView, content, content_of, parent, parent_of, children, children_of}
use Rattle.irtext_graph.specs.Parts.{operation_at}
use Rattle.irtext_graph.specs.Regions.{with_child, AddsRegion}
use Rattle.irtext_graph.specs.Store.{get, object_of}
use Rattle.irtext_graph.proofs.Nests.{same_or_other}
use Rattle.irtext_graph.proofs.Same.{ptr_tells}
use Rattle.irtext_parse_nested.proofs.NamesLeft.{data_at, LeavesNames, operations_leave}

module _ {O B T : Type 0} (g k : GraphView (Option O) B T) (op : Ptr Operation) (r : Ptr Region) (adds : AddsRegion g k op r) where
  abbrev Stored : Type 0
  Stored = Option (Entry (Node BasicBlock Region (OperationContent (Option O) T)))

  -- what does not look at an operation's regions sees what it saw
  seen_same : {X : Type 0} (f : Stored → X) → ((e : Stored) → f (option_map (object_of (with_child r)) e) ≡ f e) → (p : Ptr Operation) → f (get k.operations p) ≡ f (get g.operations p)
  seen_same f same p = elim (same_or_other ptr_tells p op) [
    | inl e ↦ ap (λ q. f (get k.operations q)) e ∙ (ap f adds.operations.updates.changed ∙ (same (get g.operations op) ∙ ap (λ q. f (get g.operations q)) (sym e)))
    | inr n ↦ ap f (adds.operations.updates.others p n)
  ]

  pub operation_same : (p : Ptr Operation) → operation_at k p ≡ operation_at g p
  operation_same p = seen_same (option_map (λ e. e.content.content)) go p
    where
      go : (e : Stored) → option_map (λ e. e.content.content) (option_map (object_of (with_child r)) e) ≡ option_map (λ e. e.content.content) e
      go None = refl
      go (Some e) = refl

  -- the operation is the object that it was
  pub object_same : (p : Ptr Operation) → content k (TheOperation p) ≡ content g (TheOperation p)
  object_same p = ap (option_map (λ d. AnOperation d.0 d.1)) (seen_same content_of go p)
    where
      go : (e : Stored) → content_of (option_map (object_of (with_child r)) e) ≡ content_of e
      go None = refl
      go (Some e) = refl

  parent_same : (p : Ptr Operation) → parent k (TheOperation p) ≡ parent g (TheOperation p)
  parent_same p = ap (option_map TheBlock) (seen_same parent_of go p)
    where
      go : (e : Stored) → parent_of (option_map (object_of (with_child r)) e) ≡ parent_of e
      go None = refl
      go (Some e) = refl

  module _ (x : O) (has : option_map (λ c. c.data_of) (operation_at g op) ≡ Some (Some x)) where
    -- what is blank holds what it held
    children_same : (p : Ptr Operation) → data_at g p ≡ Some None → children k (TheOperation p) ≡ children g (TheOperation p)
    children_same p b = elim (same_or_other ptr_tells p op) [
      | inl e ↦ let none = ap (data_at g) (sym e) ∙ b in let z = sym has ∙ none in absurd (cc)
      | inr n ↦ ap (λ e. map TheRegion (children_of e)) (adds.operations.updates.others p n)
    ]

    pub region_leaves : LeavesNames g k
    region_leaves = operations_leave g k adds.blocks operation_same object_same parent_same children_same
