-- Setting attributes changes nothing else, and what is live stays live.
use Rattle.std.proofs.Common.{◌≡◌, ◌≢◌, ◌∙◌, ◌⊎◌, inl, inr, refl, sym, ap, Option, None, Some, IsSome}
use Rattle.std.specs.Option.{option_map}
use Rattle.std.specs.Prelude.{option_and_then}
use Rattle.irtext_base.specs.Text.{Text}
use Rattle.irtext_base.specs.declared.base.attributes.AttrObj.{AttrObj}
use Rattle.irtext_graph.specs.Data.{with_data}
use Rattle.irtext_graph.specs.Parts.{operands_of, successors_of}
use Rattle.irtext_graph.specs.Store.{get, object_of}
use Rattle.irtext_graph.specs.declared.arena.Ptr.{Ptr}
use Rattle.irtext_graph.specs.declared.object.Operation.{Operation}
use Rattle.irtext_graph.proofs.Pointers.{ptr_or}
use Rattle.irtext_context.specs.Context.{ContextView, OperationView, operation, operation_of, view_of, with_attribute, EditsOperation}
use Rattle.irtext_context.specs.declared.base.operation.OperationData.{OperationData}
use Rattle.irtext_context.proofs.Contexts.{OperationEntry}
use Rattle.irtext_examples.specs.Pass.{without_attributes, ChangesAttributes}

module _ {T A : Type 0} where
  module _ (old new : ContextView T A) (p : Ptr Operation) (change : OperationData A → OperationData A) (e : EditsOperation old new p change) where
    -- a part of operations that the change leaves
    kept_part : {Y : Type 0} (part : Option (OperationEntry T A) → Y)
        → ((o : Option (OperationEntry T A)) → part (option_map (object_of (with_data (option_map change))) o) ≡ part o)
        → (q : Ptr Operation) → part (get new.graph.operations q) ≡ part (get old.graph.operations q)
    kept_part {Y} part same q = go (ptr_or q p)
      where
        go : (q ≡ p) ⊎ (q ≢ p) → part (get new.graph.operations q) ≡ part (get old.graph.operations q)
        go (inl f) = ap (λ r. part (get new.graph.operations r)) f ∙ ap part e.graph.operations.updates.changed
            ∙ same (get old.graph.operations p) ∙ sym (ap (λ r. part (get old.graph.operations r)) f)
        go (inr n) = ap part (e.graph.operations.updates.others q n)

  -- nothing differs
  pub unchanged : (old new : ContextView T A) → new ≡ old → ChangesAttributes old new
  unchanged old new e = record {
    operations = λ p. ap (λ (c : ContextView T A). option_map without_attributes (operation c p)) e;
    operands = λ p. ap (λ (c : ContextView T A). operands_of (option_map (λ x. x.content.content) (get c.graph.operations p))) e;
    successors = λ p. ap (λ (c : ContextView T A). successors_of (option_map (λ x. x.content.content) (get c.graph.operations p))) e;
    blocks = ap (λ (c : ContextView T A). c.graph.blocks) e;
    regions = ap (λ (c : ContextView T A). c.graph.regions) e;
  }

  -- an attribute was set
  pub attribute_set : (old new : ContextView T A) (p : Ptr Operation) (key : Text) (attr : AttrObj A) → EditsOperation old new p (with_attribute key attr) → ChangesAttributes old new
  attribute_set old new p key attr e = record {
    operations = kept_part old new p (with_attribute key attr) e (λ o. option_map without_attributes (option_and_then operation_of o)) same;
    operands = kept_part old new p (with_attribute key attr) e (λ o. operands_of (option_map (λ x. x.content.content) o)) used;
    successors = kept_part old new p (with_attribute key attr) e (λ o. successors_of (option_map (λ x. x.content.content) o)) next;
    blocks = e.graph.blocks;
    regions = e.graph.regions;
  }
    where
      edit : Option (OperationEntry T A) → Option (OperationEntry T A)
      edit o = option_map (object_of (with_data (option_map (with_attribute key attr)))) o

      used : (o : Option (OperationEntry T A)) → operands_of (option_map (λ x. x.content.content) (edit o)) ≡ operands_of (option_map (λ x. x.content.content) o)
      used None = refl
      used (Some x) = refl

      next : (o : Option (OperationEntry T A)) → successors_of (option_map (λ x. x.content.content) (edit o)) ≡ successors_of (option_map (λ x. x.content.content) o)
      next None = refl
      next (Some x) = refl

      inner : (x : OperationEntry T A) (d : Option (OperationData A)) → let f = view_of x.content.content.results x.content.children in
          option_map without_attributes (option_map f (option_map (with_attribute key attr) d)) ≡ option_map without_attributes (option_map f d)
      inner x None = refl
      inner x (Some d) = refl

      same : (o : Option (OperationEntry T A)) → option_map without_attributes (option_and_then operation_of (edit o)) ≡ option_map without_attributes (option_and_then operation_of o)
      same None = refl
      same (Some x) = inner x x.content.content.data_of

  -- one change after the other
  pub changed_again : (old mid new : ContextView T A) → ChangesAttributes old mid → ChangesAttributes mid new → ChangesAttributes old new
  changed_again old mid new a b = record {
    operations = λ p. b.operations p ∙ a.operations p;
    operands = λ p. b.operands p ∙ a.operands p;
    successors = λ p. b.successors p ∙ a.successors p;
    blocks = b.blocks ∙ a.blocks;
    regions = b.regions ∙ a.regions;
  }

  -- an operation that is live stays live
  pub stays_live : (old new : ContextView T A) → ChangesAttributes old new → (p : Ptr Operation) → IsSome (operation old p) → IsSome (operation new p)
  stays_live old new c p = live (operation old p) (operation new p) (c.operations p)
    where
      live : (v w : Option (OperationView T A)) → option_map without_attributes w ≡ option_map without_attributes v → IsSome v → IsSome w
      live None w f h = absurd (cc)
      live (Some v) None f h = absurd (cc)
      live (Some v) (Some w) f h = refl
