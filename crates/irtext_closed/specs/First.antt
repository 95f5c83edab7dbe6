-- For callers: the first reason why a root is not closed, in the order of its text.
use Rattle.std.specs.Prelude.{◌≡◌, ◌≢◌, ◌<◌, ◌⊎◌, ℕ, true, false, [], Some, None, IsSome}
use Rattle.irtext_context.specs.Context.{ContextView, operation}
use Rattle.irtext_graph.specs.declared.arena.Ptr.{Ptr}
use Rattle.irtext_graph.specs.declared.object.Defined.TheVariants.{OfValue}
use Rattle.irtext_graph.specs.declared.object.Object.{Object}
use Rattle.irtext_graph.specs.declared.object.Object.TheVariants.{TheOperation, TheBlock}
use Rattle.irtext_graph.specs.declared.object.Operation.{Operation}
use Rattle.irtext_graph.specs.declared.object.Site.{Site}
use Rattle.irtext_graph.specs.declared.object.Site.TheVariants.{AtOperand, AtSuccessor}
use Rattle.irtext_graph.specs.declared.object.Value.{Value}
use Rattle.irtext_graph.specs.declared.object.Value.TheVariants.{Result, Argument}
use Rattle.irtext_graph.specs.Chained.{Among}
use Rattle.irtext_graph.specs.Erasing.{owner, user, sibling}
use Rattle.irtext_graph.specs.Graph.{IsInside, parent, content}
use Rattle.irtext_graph.specs.Parts.{regions, results, operands, successors}
use Rattle.irtext_graph.specs.Throughout.{all_from}
use Rattle.irtext_closed.specs.Closing.{is_isolated}
use Rattle.irtext_closed.specs.Closed.{isolated_data, IsPlain, IsTyped, IsUseReached}
use Rattle.irtext_closed.specs.declared.not_closed.NotClosed.{NotClosed}
use Rattle.irtext_closed.specs.declared.not_closed.NotClosed.TheVariants.{NoOperation, InBlock, HasResults, HasOperands, HasSuccessors, NotIsolated, Placeholder, Labelled, Untyped, Operand, Successor}

-- i is the first number for which it does not hold
pub record IsFirstNot (Holds : ℕ → Type 0) (i : ℕ) : Type 0 where
  pub before : (j : ℕ) → j < i → Holds j
  pub fails : Holds i → ⊥

-- the index of a result or of an argument
abbrev pub index_of : Value → ℕ
index_of (Result p i) = i
index_of (Argument b i) = i

module _ {T A : Type 0} (ctx : ContextView T A) where
  -- ---- the root itself

  -- an operation that is no placeholder, and is in no block
  pub record IsFree (p : Ptr Operation) : Type 0 where
    pub live : IsSome (operation ctx p)
    pub alone : parent ctx.graph (TheOperation p) ≡ None

  -- the operation is in no block, has no results, operands and successors, and is isolated if it has a region
  pub record IsBareRoot (p : Ptr Operation) : Type 0 where
    pub free : IsFree p
    pub results : results ctx.graph p ≡ []
    pub operands : operands ctx.graph p ≡ []
    pub successors : successors ctx.graph p ≡ []
    pub isolated : regions ctx.graph p ≢ [] → is_isolated (isolated_data ctx.dialects) (content ctx.graph (TheOperation p)) ≡ true

  -- why the operation is no such root: each reason that comes before this one does not apply
  abbrev pub IsRootReason : Ptr Operation → NotClosed → Type 0
  IsRootReason p NoOperation = IsSome (operation ctx p) → ⊥
  IsRootReason p InBlock = IsSome (operation ctx p) × (parent ctx.graph (TheOperation p) ≢ None)
  IsRootReason p HasResults = IsFree p × (results ctx.graph p ≢ [])
  IsRootReason p HasOperands = IsFree p × (results ctx.graph p ≡ []) × (operands ctx.graph p ≢ [])
  IsRootReason p HasSuccessors = IsFree p × (results ctx.graph p ≡ []) × (operands ctx.graph p ≡ []) × (successors ctx.graph p ≢ [])
  IsRootReason p NotIsolated = IsFree p × (results ctx.graph p ≡ []) × (operands ctx.graph p ≡ []) × (successors ctx.graph p ≡ [])
      × (regions ctx.graph p ≢ []) × (is_isolated (isolated_data ctx.dialects) (content ctx.graph (TheOperation p)) ≡ false)
  IsRootReason p _ = ⊥

  -- ---- what is nested in it

  -- An operation is no placeholder, the types of its results are known, and it reaches all that it uses; the attributes of a block have no
  -- label, and the types of its arguments are known.
  pub record IsClosedAt (q : Object) : Type 0 where
    pub plain : IsPlain ctx q
    pub typed : (v : Value) → owner (OfValue v) ≡ q → IsTyped ctx v
    pub uses : (u : Site) → user u ≡ q → IsUseReached ctx u

  -- Why the object is not closed: each reason of the object that comes before this one does not apply. A placeholder or a label comes
  -- first, then values in order, then operands and successors in order.
  abbrev pub IsReasonAt : Object → NotClosed → Type 0
  IsReasonAt q (Placeholder p) = (q ≡ TheOperation p) × (IsPlain ctx q → ⊥)
  IsReasonAt q (Labelled b) = (q ≡ TheBlock b) × (IsPlain ctx q → ⊥)
  IsReasonAt q (Untyped v) = (q ≡ owner (OfValue v)) × IsPlain ctx q × IsFirstNot (λ i. IsTyped ctx (sibling v i)) (index_of v)
  IsReasonAt q (Operand p i) = (q ≡ TheOperation p) × IsPlain ctx q × ((j : ℕ) → IsTyped ctx (Result p j)) × IsFirstNot (λ j. IsUseReached ctx (AtOperand p j)) i
  IsReasonAt q (Successor p i) = (q ≡ TheOperation p) × IsPlain ctx q × ((j : ℕ) → IsTyped ctx (Result p j)) × ((j : ℕ) → IsUseReached ctx (AtOperand p j))
      × IsFirstNot (λ j. IsUseReached ctx (AtSuccessor p j)) i
  IsReasonAt q _ = ⊥

  -- q is the first object of the root, in the order of the text, for which a reason can be given
  pub record IsNext (p : Ptr Operation) (q : Object) : Type 0 where
    pub root : IsBareRoot p
    pub inside : IsInside ctx.graph (TheOperation p) q
    pub before : (r : Object) → IsInside ctx.graph (TheOperation p) r → Among r (all_from ctx.graph (TheOperation p) (Some q)) ⊎ IsClosedAt r

  -- The first reason why the root is not closed: one of the root itself, else one of the first object in it, in the order of the text, that
  -- has one.
  abbrev pub IsFirstReason : Ptr Operation → NotClosed → Type 0
  IsFirstReason p reason = IsRootReason p reason ⊎ ((q : Object) × IsNext p q × IsReasonAt q reason)
