-- What the first reason of a walk over the objects of a root says of the root.
use Rattle.std.proofs.Common.{◌≡◌, ◌≢◌, ◌∙◌, ℕ, inl, inr, refl, sym, ap, subst, List, [], ◌∷◌, map, slice_get, Option, Some, None, IsSome, option_map, Result, Ok, Err}
use Rattle.std.specs.Prelude.{◌↔◌, IsOk, IfErr}
use Rattle.std.specs.Result.{IsErrAnd}
use Rattle.irtext_context.specs.Context.{ContextView, operation}
use Rattle.irtext_graph.specs.declared.arena.Ptr.{Ptr}
use Rattle.irtext_graph.specs.declared.object.Defined.{Defined}
use Rattle.irtext_graph.specs.declared.object.Defined.TheVariants.{OfValue, OfBlock}
use Rattle.irtext_graph.specs.declared.object.Object.{Object}
use Rattle.irtext_graph.specs.declared.object.Object.TheVariants.{TheOperation, TheRegion}
use Rattle.irtext_graph.specs.declared.object.Operation.{Operation}
use Rattle.irtext_graph.specs.declared.object.Region.{Region}
use Rattle.irtext_graph.specs.declared.object.Site.{Site}
use Rattle.irtext_graph.specs.declared.object.Site.TheVariants.{AtOperand, AtSuccessor}
use Rattle.irtext_graph.specs.declared.object.Value.{Value}
use Rattle.irtext_graph.specs.declared.object.Value.TheVariants as value
use Rattle.irtext_graph.specs.Erasing.{owner, user}
use Rattle.irtext_graph.specs.Graph.{IsInside, parent, children}
use Rattle.irtext_graph.specs.Nested.{Nested}
use Rattle.irtext_graph.specs.Parts.{regions, operands, successors}
use Rattle.irtext_graph.specs.Used.{used_at}
use Rattle.irtext_graph.proofs.Inside.{within_self}
use Rattle.irtext_closed.proofs.Walk.{ComesOr}
use Rattle.irtext_closed.specs.Closed.{IsTyped, IsUseReached, IsClosedRoot}
use Rattle.irtext_closed.specs.First.{IsBareRoot, IsRootReason, IsClosedAt, IsReasonAt, IsFirstReason}
use Rattle.irtext_closed.specs.declared.not_closed.NotClosed.{NotClosed}
use Rattle.irtext_closed.specs.declared.not_closed.NotClosed.TheVariants as why

-- a list that has an element is not empty
filled : {X : Type 0} (xs : List X) (i : ℕ) (x : X) → slice_get xs i ≡ Some x → xs ≢ []
filled [] i x e = absurd (cc)
filled (y ∷ ys) i x e = λ h. absurd (cc)

-- a list that is not empty has a first element
first_of : {X : Type 0} (xs : List X) → xs ≢ [] → (x : X) × (slice_get xs 0 ≡ Some x)
first_of [] h = absurd (h refl)
first_of (x ∷ xs) h = (x, refl)

-- an error that is returned, where what `Ok` says does not hold
pub refused : {X E P : Type 0} (e : E) (r : Result X E) → IsErrAnd r (λ y. y ≡ e) → (P → ⊥) → IsOk r ↔ P
refused e (Ok x) h none = absurd h
refused e (Err f) h none = ((λ t. absurd (cc)), (λ p. absurd (none p)))

-- the same, for what holds of the error
pub refused_for : {X E : Type 0} (P : E → Type 0) (e : E) (r : Result X E) → IsErrAnd r (λ y. y ≡ e) → P e → IfErr r P
refused_for P e (Ok x) h p = absurd h
refused_for P e (Err f) h p = subst P (sym h) p

operation_eq : (p q : Ptr Operation) → TheOperation p ≡ TheOperation q → p ≡ q
operation_eq p q e = cc

module _ {T A : Type 0} (ctx : ContextView T A) where
  -- ---- one object
  -- an operation that is no placeholder, whose results have types, and which reaches what it uses
  pub operation_closed : (p : Ptr Operation) → IsSome (operation ctx p) → ((i : ℕ) → IsTyped ctx (value.Result p i)) → ((i : ℕ) → IsUseReached ctx (AtOperand p i)) → ((i : ℕ) → IsUseReached ctx (AtSuccessor p i)) → IsClosedAt ctx (TheOperation p)
  operation_closed p live types values blocks = record { plain = live; typed = typed; uses = uses }
    where
      typed : (v : Value) → owner (OfValue v) ≡ TheOperation p → IsTyped ctx v
      typed (value.Result q i) e = subst (λ z. IsTyped ctx (value.Result z i)) (sym (operation_eq q p e)) (types i)
      typed (value.Argument b i) e = absurd (cc)

      uses : (u : Site) → user u ≡ TheOperation p → IsUseReached ctx u
      uses (AtOperand q i) e = subst (λ z. IsUseReached ctx (AtOperand z i)) (sym (operation_eq q p e)) (values i)
      uses (AtSuccessor q i) e = subst (λ z. IsUseReached ctx (AtSuccessor z i)) (sym (operation_eq q p e)) (blocks i)

  module _ (p : Ptr Operation) where
    -- the object that comes now has the first reason
    pub next_reason : (at : Option Object) (object : Object) (reason : NotClosed) → at ≡ Some object → IsBareRoot ctx p → IsInside ctx.graph (TheOperation p) object
        → ((q : Object) → IsInside ctx.graph (TheOperation p) q → ComesOr ctx.graph (TheOperation p) (IsClosedAt ctx) at q) → IsReasonAt ctx object reason → IsFirstReason ctx p reason
    next_reason at object reason is root inside so_far fails = inr (object, record { root = root; inside = inside; before = λ r w. subst (λ o. ComesOr ctx.graph (TheOperation p) (IsClosedAt ctx) o r) is (so_far r w) }, fails)

    -- ---- the root
    module _ (nested : Nested (children ctx.graph) (parent ctx.graph)) where
      -- if each object in it is closed, so is the root
      pub root_closed : IsBareRoot ctx p → ((q : Object) → IsInside ctx.graph (TheOperation p) q → IsClosedAt ctx q) → IsClosedRoot ctx p
      root_closed root all = record {
        contained = record {
          alone = root.free.alone;
          bare = bare;
          barrier = λ r up. let at = nested.listed r (TheOperation p) up in root.isolated (λ none. filled (map TheRegion (regions ctx.graph p)) at.0 r at.1 (ap (map TheRegion) none));
          uses = λ u w. (all (user u) w).uses u refl;
        };
        results = root.results;
        plain = λ q w. (all q w).plain;
        typed = λ v w. (all (owner (OfValue v)) w).typed v refl;
      }
        where
          bare : (u : Site) (d : Defined) → user u ≡ TheOperation p → used_at ctx.graph u ≡ Some d → ⊥
          bare (AtOperand q i) d same e =
              let none : operands ctx.graph q ≡ [] = ap (operands ctx.graph) (operation_eq q p same) ∙ root.operands in
              let gone : option_map OfValue (slice_get (operands ctx.graph q) i) ≡ None = ap (λ vs. option_map OfValue (slice_get vs i)) none in
              cc
          bare (AtSuccessor q i) d same e =
              let none : successors ctx.graph q ≡ [] = ap (successors ctx.graph) (operation_eq q p same) ∙ root.successors in
              let gone : option_map OfBlock (slice_get (successors ctx.graph q) i) ≡ None = ap (λ bs. option_map OfBlock (slice_get bs i)) none in
              cc

      -- a reason of the root itself
      root_open : (reason : NotClosed) → IsRootReason ctx p reason → IsClosedRoot ctx p → ⊥
      root_open why.NoOperation h c = h (c.plain (TheOperation p) (within_self (parent ctx.graph) (TheOperation p)))
      root_open why.InBlock h c = h.1 c.contained.alone
      root_open why.HasResults h c = h.1 c.results
      root_open why.HasOperands h c = let first = first_of (operands ctx.graph p) h.2 in c.contained.bare (AtOperand p 0) (OfValue first.0) refl (ap (option_map OfValue) first.1)
      root_open why.HasSuccessors h c = let first = first_of (successors ctx.graph p) h.3 in c.contained.bare (AtSuccessor p 0) (OfBlock first.0) refl (ap (option_map OfBlock) first.1)
      root_open why.NotIsolated h c =
          let first = first_of (regions ctx.graph p) h.4 in
          let closes = c.contained.barrier (TheRegion first.0) (nested.down (TheOperation p) 0 (TheRegion first.0) (mapped (regions ctx.graph p) first.0 first.1)) in
          let opens = h.5 in
          cc
        where
          mapped : (rs : List (Ptr Region)) (r : Ptr Region) → slice_get rs 0 ≡ Some r → slice_get (map TheRegion rs) 0 ≡ Some (TheRegion r)
          mapped [] r e = absurd (cc)
          mapped (s ∷ rs) r e = cc e
      root_open _ h c = absurd h

      -- a reason of an object in it
      object_open : (q : Object) (reason : NotClosed) → IsInside ctx.graph (TheOperation p) q → IsReasonAt ctx q reason → IsClosedRoot ctx p → ⊥
      object_open q (why.Placeholder r) w h c = h.1 (c.plain q w)
      object_open q (why.Labelled b) w h c = h.1 (c.plain q w)
      object_open q (why.Untyped (value.Result r i)) w h c = h.2.fails (c.typed (value.Result r i) (subst (IsInside ctx.graph (TheOperation p)) h.0 w))
      object_open q (why.Untyped (value.Argument b i)) w h c = h.2.fails (c.typed (value.Argument b i) (subst (IsInside ctx.graph (TheOperation p)) h.0 w))
      object_open q (why.Operand r i) w h c = h.3.fails (c.contained.uses (AtOperand r i) (subst (IsInside ctx.graph (TheOperation p)) h.0 w))
      object_open q (why.Successor r i) w h c = h.4.fails (c.contained.uses (AtSuccessor r i) (subst (IsInside ctx.graph (TheOperation p)) h.0 w))
      object_open q _ w h c = absurd h

      -- a root that has a reason is not closed
      pub reason_open : (reason : NotClosed) → IsFirstReason ctx p reason → IsClosedRoot ctx p → ⊥
      reason_open reason (inl h) c = root_open reason h c
      reason_open reason (inr h) c = object_open h.0 reason h.1.inside h.2 c
