-- What is checked index by index: the uses of an operation, and the types of values.
use Rattle.std.proofs.Common.{◌≡◌, ◌∙◌, ◌<◌, ◌+◌, ◌⊎◌, inl, inr, ℕ, zero, suc, sym, ap, refl, subst, arith, Bool, IsTrue, List, [], ◌∷◌, length, slice_get, Option, Some, None, option_map}
use Rattle.std.specs.Prelude.{◌↔◌}
use Rattle.irtext_context.specs.Context.{ContextView}
use Rattle.irtext_graph.specs.declared.arena.Ptr.{Ptr}
use Rattle.irtext_graph.specs.declared.object.BasicBlock.{BasicBlock}
use Rattle.irtext_graph.specs.declared.object.Defined.TheVariants.{OfValue, OfBlock}
use Rattle.irtext_graph.specs.declared.object.Object.{Object}
use Rattle.irtext_graph.specs.declared.object.Object.TheVariants.{TheOperation, TheBlock}
use Rattle.irtext_graph.specs.declared.object.Operation.{Operation}
use Rattle.irtext_graph.specs.declared.object.Site.TheVariants.{AtOperand, AtSuccessor}
use Rattle.irtext_graph.specs.declared.object.Value.{Value}
use Rattle.irtext_graph.specs.Erasing.{owner}
use Rattle.irtext_graph.specs.Graph.{parent, ancestor}
use Rattle.irtext_graph.specs.Parts.{operands, successors}
use Rattle.irtext_graph.proofs.Nests.{some_eq}
use Rattle.irtext_closed.specs.Closing.{Shares, Reaches}
use Rattle.irtext_closed.specs.Closed.{isolated_data, IsUseReached}

-- an element at an index is within the list
within : {X : Type 0} (xs : List X) (i : ℕ) (x : X) → slice_get xs i ≡ Some x → i < length xs
within [] i x e = absurd (cc)
within (y ∷ ys) zero x e = omega arith
within (y ∷ ys) (suc i) x e = omega (arith, within ys i x e)

mapped_within : {X Y : Type 0} (f : X → Y) (xs : List X) (i : ℕ) (y : Y) → option_map f (slice_get xs i) ≡ Some y → i < length xs
mapped_within f xs i y e = go (slice_get xs i) refl e
  where
    go : (o : Option _) → slice_get xs i ≡ o → option_map f o ≡ Some y → i < length xs
    go None is e = absurd (cc)
    go (Some x) is e = within xs i x is

same_or_less : (i j : ℕ) → j < i + 1 → (j < i) ⊎ (j ≡ i)
same_or_less zero zero h = inr refl
same_or_less zero (suc j) h = absurd (omega (arith, h))
same_or_less (suc i) zero h = inl (omega arith)
same_or_less (suc i) (suc j) h = elim (same_or_less i j (omega (arith, h))) [ inl l ↦ inl (omega (arith, l)) | inr e ↦ inr (ap suc e) ]

-- it holds of one more
pub one_more : (Holds : ℕ → Type 0) (i : ℕ) → ((j : ℕ) → j < i → Holds j) → Holds i → (j : ℕ) → j < i + 1 → Holds j
one_more Holds i before here j less = elim (same_or_less i j less) [ inl l ↦ before j l | inr e ↦ subst Holds (sym e) here ]

module _ {T A : Type 0} (ctx : ContextView T A) where
  -- no operand is left
  pub operands_reached : (p : Ptr Operation) → ((j : ℕ) → j < length (operands ctx.graph p) → IsUseReached ctx (AtOperand p j)) → (j : ℕ) → IsUseReached ctx (AtOperand p j)
  operands_reached p all j = λ d e. all j (mapped_within OfValue (operands ctx.graph p) j d e) d e

  -- no successor is left
  pub successors_reached : (p : Ptr Operation) → ((j : ℕ) → j < length (successors ctx.graph p) → IsUseReached ctx (AtSuccessor p j)) → (j : ℕ) → IsUseReached ctx (AtSuccessor p j)
  successors_reached p all j = λ d e. all j (mapped_within OfBlock (successors ctx.graph p) j d e) d e

  -- an operand is reached if its owner is in the same isolated scope
  pub operand_reached : (p : Ptr Operation) (i : ℕ) (v : Value) (o : Object) (found : Bool) → slice_get (operands ctx.graph p) i ≡ Some v → o ≡ owner (OfValue v)
      → (IsTrue found ↔ Shares (isolated_data ctx.dialects) ctx.graph (TheOperation p) o) → (IsTrue found ↔ IsUseReached ctx (AtOperand p i))
  operand_reached p i v o found at is test = (
    (λ t d e. subst (Reaches (isolated_data ctx.dialects) ctx.graph (AtOperand p i)) (some_eq (sym (ap (option_map OfValue) at) ∙ e)) (subst (Shares (isolated_data ctx.dialects) ctx.graph (TheOperation p)) is (test.0 t))),
    (λ r. test.1 (subst (Shares (isolated_data ctx.dialects) ctx.graph (TheOperation p)) (sym is) (r (OfValue v) (ap (option_map OfValue) at)))),
  )

  -- a successor is reached if its region is that of the operation
  pub successor_reached : (p : Ptr Operation) (i : ℕ) (b : Ptr BasicBlock) (x y : Option Object) (found : Bool) → slice_get (successors ctx.graph p) i ≡ Some b → x ≡ parent ctx.graph (TheBlock b) → y ≡ ancestor ctx.graph 2 (TheOperation p)
      → (IsTrue found ↔ x ≡ y) → (IsTrue found ↔ IsUseReached ctx (AtSuccessor p i))
  successor_reached p i b x y found at up over test = (
    (λ t d e. subst (Reaches (isolated_data ctx.dialects) ctx.graph (AtSuccessor p i)) (some_eq (sym (ap (option_map OfBlock) at) ∙ e)) (sym up ∙ test.0 t ∙ over)),
    (λ r. test.1 (up ∙ r (OfBlock b) (ap (option_map OfBlock) at) ∙ sym over)),
  )
