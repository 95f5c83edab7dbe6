-- Uses that are in place: where an operation or a block was made, and where a definition took the place of a placeholder.
use Rattle.std.proofs.Common.{◌≡◌, ◌∙◌, refl, sym, ap, subst, Option, Some, None, slice_get}
use Rattle.std.specs.Option.{option_map}
use Rattle.irtext_graph.specs.declared.arena.Entry.{Entry}
use Rattle.irtext_graph.specs.declared.arena.Ptr.{Ptr}
use Rattle.irtext_graph.specs.declared.object.BasicBlock.{BasicBlock}
use Rattle.irtext_graph.specs.declared.object.Operation.{Operation}
use Rattle.irtext_graph.specs.declared.object.Region.{Region}
use Rattle.irtext_graph.specs.declared.object.Object.TheVariants.{TheOperation}
use Rattle.irtext_graph.specs.declared.object.Value.TheVariants.{Result, Argument}
use Rattle.irtext_graph.specs.declared.object.Defined.{Defined}
use Rattle.irtext_graph.specs.declared.object.Defined.TheVariants.{OfValue, OfBlock}
use Rattle.irtext_graph.specs.declared.object.Site.{Site}
use Rattle.irtext_graph.specs.declared.object.Site.TheVariants.{AtOperand, AtSuccessor}
use Rattle.irtext_graph.specs.Content.{Node, OperationContent, Content.{AnOperation}}
use Rattle.irtext_graph.specs.Erasing as erasing
use Rattle.irtext_graph.specs.Erasing.{owner, named_at}
use Rattle.irtext_graph.specs.Graph.{GraphView, content, content_of, MakesOperation, MakesBlock}
use Rattle.irtext_graph.specs.Parts.{operation_at, operands_of, successors_of}
use Rattle.irtext_graph.specs.Store.{get}
use Rattle.irtext_graph.specs.Used.{replaced, user, IsUse}
use Rattle.irtext_graph.proofs.Linked.{defined_tells}
use Rattle.irtext_graph.proofs.Nests.{some_eq}
use Rattle.irtext_graph.proofs.Redirected.{replaced_kept}
use Rattle.irtext_names.specs.Linked.{IsInPlace}
use Rattle.irtext_names.specs.Placeholders.{IsPlaceholder, Settles, SettlesIfAny}
use Rattle.irtext_names.proofs.Gained.{fresh_place}
use Rattle.irtext_names.proofs.SameBut.{data_is, data_in}
use Rattle.irtext_names.proofs.Settled.{replaced_same, named_used}

user_object : (s : Site) → erasing.user s ≡ TheOperation (user s)
user_object (AtOperand p i) = refl
user_object (AtSuccessor p i) = refl

module _ {O B T : Type 0} where
  -- each use in place of what is not lost is in place still, and each of what is lost became one of e
  pub record Moves (g k : GraphView (Option O) B T) (o : Option Defined) (e : Defined) : Type 0 where
    pub same : (s : Site) (d : Defined) → (o ≡ Some d → ⊥) → IsInPlace g d s → IsInPlace k d s
    pub late : (s : Site) (d : Defined) → o ≡ Some d → IsInPlace g d s → IsInPlace k e s

  pub moves_all : {g k : GraphView (Option O) B T} (e : Defined) → ((s : Site) (d : Defined) → IsInPlace g d s → IsInPlace k d s) → Moves g k None e
  moves_all e f = record { same = λ s d n i. f s d i; late = λ s d n i. cc }

  -- the operation at the place is unchanged
  pub stays_at : (g k : GraphView (Option O) B T) (s : Site) (d : Defined) → get k.operations (user s) ≡ get g.operations (user s) → IsInPlace g d s → IsInPlace k d s
  stays_at g k (AtOperand p i) d e f = (
    subst (λ c. option_map OfValue (slice_get (operands_of (option_map (λ e. e.content.content) c)) i) ≡ Some d) (sym e) f.0,
    f.1,
    subst (λ c. option_map (λ c. c.data_of) (option_map (λ e. e.content.content) c) ≡ Some (Some f.1)) (sym e) f.2,
  )
  stays_at g k (AtSuccessor p i) d e f = (
    subst (λ c. option_map OfBlock (slice_get (successors_of (option_map (λ e. e.content.content) c)) i) ≡ Some d) (sym e) f.0,
    f.1,
    subst (λ c. option_map (λ c. c.data_of) (option_map (λ e. e.content.content) c) ≡ Some (Some f.1)) (sym e) f.2,
  )

  -- nothing is in place if the operation is not live
  absent : (g : GraphView (Option O) B T) (s : Site) (d : Defined) → IsInPlace g d s → get g.operations (user s) ≡ None → ⊥
  absent g s d f e = let none = subst (λ c. option_map (λ c. c.data_of) (option_map (λ e. e.content.content) c) ≡ Some (Some f.1)) e f.2 in cc

  -- ---- an object was made
  pub in_place_operation : {g k : GraphView (Option O) B T} (p : Ptr Operation) {v : _} {ts : _} {os : _} {bs : _} → MakesOperation g k p v ts os bs → (s : Site) (d : Defined) → IsInPlace g d s → IsInPlace k d s
  in_place_operation {g} {k} p m s d f =
      stays_at g k s d (m.operations.updates.others (user s) (λ e. absent g s d f (ap (λ q. get g.operations q) e ∙ fresh_place g.operations k.operations p m.operations))) f

  pub in_place_block : {g k : GraphView (Option O) B T} (b : Ptr BasicBlock) {v : _} {ts : _} → MakesBlock g k b v ts → (s : Site) (d : Defined) → IsInPlace g d s → IsInPlace k d s
  in_place_block {g} {k} b m s d f = stays_at g k s d (ap (λ st. get st (user s)) m.operations) f

  -- ---- a placeholder was settled
  -- what is used is named in the operation at the place
  used_named : (g : GraphView (Option O) B T) (u : Site) (d : Defined) → IsUse g d u → named_at (content g (erasing.user u)) u ≡ Some d
  used_named g (AtOperand p i) d e = go (get g.operations p) e
    where
      go : (s : Option (Entry (Node BasicBlock Region (OperationContent (Option O) T)))) → option_map OfValue (slice_get (operands_of (option_map (λ e. e.content.content) s)) i) ≡ Some d → named_at {O = Option O} {B = B} (option_map (λ d. AnOperation d.0 d.1) (content_of s)) (AtOperand p i) ≡ Some d
      go None f = absurd (cc)
      go (Some s) f = f
  used_named g (AtSuccessor p i) d e = go (get g.operations p) e
    where
      go : (s : Option (Entry (Node BasicBlock Region (OperationContent (Option O) T)))) → option_map OfBlock (slice_get (successors_of (option_map (λ e. e.content.content) s)) i) ≡ Some d → named_at {O = Option O} {B = B} (option_map (λ d. AnOperation d.0 d.1) (content_of s)) (AtSuccessor p i) ≡ Some d
      go None f = absurd (cc)
      go (Some s) f = f

  -- an operation that has its data is no placeholder's
  apart_from : {g : GraphView (Option O) B T} (d : Defined) → IsPlaceholder g d → (p : Ptr Operation) (x : O) → option_map (λ c. c.data_of) (operation_at g p) ≡ Some (Some x) → TheOperation p ≡ owner d → ⊥
  apart_from {g} (OfValue (Result q i)) b p x e f =
      let s : q ≡ p = cc in
      let blank = b.blank in
      let none : option_map (λ c. c.data_of) (operation_at g p) ≡ Some None = subst (λ r. option_map (λ c. c.data_of) (operation_at g r) ≡ Some None) s blank in
      cc
  apart_from (OfValue (Argument c i)) b p x e f = cc
  apart_from (OfBlock c) b p x e f = cc

  -- an operation that is what it was has in place what it had
  pub in_place_same : (g k : GraphView (Option O) B T) (s : Site) (d : Defined) → content k (TheOperation (user s)) ≡ content g (TheOperation (user s)) → IsInPlace g d s → IsInPlace k d s
  in_place_same g k s d e f = (
    named_used k s d (subst (λ c. named_at c s ≡ Some d) (ap (content g) (user_object s) ∙ sym e ∙ sym (ap (content k) (user_object s))) (used_named g s d f.0)),
    f.1,
    data_is k (user s) ∙ ap (λ c. data_in (option_map erasing.without_uses c)) e ∙ sym (data_is g (user s)) ∙ f.2,
  )

  -- a use in place is in place between, under the name that took the place
  replaced_at : {g k : GraphView (Option O) B T} {h e : Defined} (s : Site) (d : Defined) → IsPlaceholder g h → Settles g k h e → IsInPlace g d s → IsInPlace k (replaced h e d) s
  replaced_at {g} {k} {h} {e} s d p t f =
      let r = replaced_same t.replaces in
      let data_here = data_is t.between (user s) ∙ ap data_in (r.contents (TheOperation (user s)) (λ z. cc)) ∙ sym (data_is g (user s)) ∙ f.2 in
      let mid : IsInPlace t.between (replaced h e d) s = (t.replaces.uses s ∙ ap (option_map (replaced h e)) f.0, f.1, data_here) in
      in_place_same t.between k s (replaced h e d) (t.takes_out.contents (TheOperation (user s)) (λ w. apart_from h p (user s) f.1 f.2 (t.only (TheOperation (user s)) w))) mid

  pub moves_settled : {g k : GraphView (Option O) B T} {h e : Defined} → IsPlaceholder g h → Settles g k h e → Moves g k (Some h) e
  moves_settled {g} {k} {h} {e} p t = record {
    same = λ s d n i. let kept : replaced h e d ≡ d = some_eq (replaced_kept h e (Some d) (λ f. n (sym f))) in subst (λ x. IsInPlace k x s) kept (replaced_at s d p t i);
    late = λ s d is i. let turned : replaced h e d ≡ e = rw (← some_eq is) (rw (defined_tells.same h) refl) in subst (λ x. IsInPlace k x s) turned (replaced_at s d p t i);
  }

  pub moves_settled_if : {g k : GraphView (Option O) B T} (o : Option Defined) (e : Defined) → ((d : Defined) → o ≡ Some d → IsPlaceholder g d) → SettlesIfAny g k o e → Moves g k o e
  moves_settled_if {g} None e p same = moves_all e (λ s d i. rw same i)
  moves_settled_if (Some h) e p t = moves_settled (p h refl) t
