-- A root that was parsed has no parent block.
use Rattle.std.proofs.Common.{◌≡◌, ◌∙◌, ℕ, map, Option, Some, None, option_map, IsSome, slice_get, refl, sym, ap, inl, inr}
use Rattle.irtext_context.specs.Context.{ContextView}
use Rattle.irtext_context.proofs.Contexts.{OperationEntry, BlockEntry}
use Rattle.irtext_graph.specs.declared.arena.Ptr.{Ptr}
use Rattle.irtext_graph.specs.declared.object.BasicBlock.{BasicBlock}
use Rattle.irtext_graph.specs.declared.object.Object.{Object}
use Rattle.irtext_graph.specs.declared.object.Object.TheVariants.{TheOperation, TheBlock}
use Rattle.irtext_graph.specs.declared.object.Operation.{Operation}
use Rattle.irtext_graph.specs.Graph.{children, parent, parent_of, children_of}
use Rattle.irtext_graph.specs.Nested.{Nested}
use Rattle.irtext_graph.specs.Store.{get}
use Rattle.irtext_graph.proofs.Inside.{within_self}
use Rattle.irtext_grammar.proofs.Kin.{not_above}
use Rattle.irtext_print_ir.specs.Printers.Printed.{block_round}
use Rattle.irtext_names.specs.OnlyNew.{OnlyNew}
use Rattle.irtext_names.proofs.Ages.{here_is_live, live_here}

module _ {T A : Type 0} (old new : ContextView T A) (op : Ptr Operation) (before : Nested (children old.graph) (parent old.graph)) (after : Nested (children new.graph) (parent new.graph)) (only : OnlyNew op old new) where
  -- an operation in a block is there
  parent_there : (g : Ptr Operation) (b : Ptr BasicBlock) → parent old.graph (TheOperation g) ≡ Some (TheBlock b) → IsSome (get old.graph.operations g)
  parent_there g b e = go (get old.graph.operations g) e
    where
      go : (x : Option (OperationEntry T A)) → option_map TheBlock (parent_of x) ≡ Some (TheBlock b) → IsSome x
      go None f = absurd (cc)
      go (Some x) f = refl

  -- a block with an operation is there
  block_there : (b : Ptr BasicBlock) (i : ℕ) (o : Object) → slice_get (children new.graph (TheBlock b)) i ≡ Some o → IsSome (get new.graph.blocks b)
  block_there b i o e = go (get new.graph.blocks b) i e
    where
      go : (x : Option (BlockEntry T A)) (i : ℕ) → slice_get (map TheOperation (children_of x)) i ≡ Some o → IsSome x
      go None i f = absurd (cc)
      go (Some x) i f = refl

  in_no_block : (b : Ptr BasicBlock) → parent new.graph (TheOperation op) ≡ Some (TheBlock b) → ⊥
  in_no_block b e =
      let at = after.listed (TheOperation op) (TheBlock b) e in
      elim (only.live (TheBlock b) (here_is_live new.graph (TheBlock b) (block_there b at.0 (TheOperation op) at.1))) [
        | inl was ↦
            let same = only.blocks b (live_here old.graph (TheBlock b) was) in
            let child : slice_get (children old.graph (TheBlock b)) at.0 ≡ Some (TheOperation op) = sym (ap (λ z. slice_get (map TheOperation (children_of z)) at.0) same) ∙ at.1 in
            only.is_new (TheOperation op) (within_self (parent new.graph) (TheOperation op)) (here_is_live old.graph (TheOperation op) (parent_there op b (before.down (TheBlock b) at.0 (TheOperation op) child)))
        | inr inside ↦ not_above after (TheBlock b) (TheOperation op) e inside
      ]

  -- the root has no parent block
  pub root_nowhere : block_round new op ≡ None
  root_nowhere = go (block_round new op) refl
    where
      go : (x : Option (Ptr BasicBlock)) → block_round new op ≡ x → x ≡ None
      go None e = refl
      go (Some b) e = absurd (in_no_block b (ap (option_map TheBlock) e))
