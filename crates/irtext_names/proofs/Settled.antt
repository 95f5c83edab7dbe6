-- What a graph is once a definition took the place of a placeholder.
use Rattle.std.proofs.Common.{◌≡◌, ◌≢◌, ◌∙◌, ℕ, zero, refl, sym, ap, subst, Bool, true, false, cond, map, Option, Some, None, slice_get}
use Rattle.std.specs.Option.{option_map}
use Rattle.irtext_graph.specs.declared.arena.Entry.{Entry}
use Rattle.irtext_graph.specs.declared.object.BasicBlock.{BasicBlock}
use Rattle.irtext_graph.specs.declared.object.Region.{Region}
use Rattle.irtext_graph.specs.declared.object.Object.{Object}
use Rattle.irtext_graph.specs.declared.object.Object.TheVariants.{TheOperation, TheBlock, TheRegion}
use Rattle.irtext_graph.specs.declared.object.Value.{Value}
use Rattle.irtext_graph.specs.declared.object.Value.TheVariants.{Result, Argument}
use Rattle.irtext_graph.specs.declared.object.Defined.{Defined}
use Rattle.irtext_graph.specs.declared.object.Defined.TheVariants.{OfValue, OfBlock}
use Rattle.irtext_graph.specs.declared.object.Site.{Site}
use Rattle.irtext_graph.specs.declared.object.Site.TheVariants.{AtOperand, AtSuccessor}
use Rattle.irtext_graph.specs.Back as back
use Rattle.irtext_graph.specs.Back.{IsClosedBelow}
use Rattle.irtext_graph.specs.Content.{Node, Content.{AnOperation}, OperationContent}
use Rattle.irtext_graph.specs.Erasing.{without_uses, owner, user, named_at, CanErase, Erases}
use Rattle.irtext_graph.specs.Graph.{GraphView, content, content_of, parent, parent_of, children, children_of, IsNew, IsInside}
use Rattle.irtext_graph.specs.Nested.{Nested}
use Rattle.irtext_graph.specs.Parts.{operands_of, successors_of}
use Rattle.irtext_graph.specs.Store.{get, object_of}
use Rattle.irtext_graph.specs.Used as used
use Rattle.irtext_graph.specs.Used.{replaced, used_at, IsUse, IsDefined, Replaces, IsUnusedBelow}
use Rattle.irtext_graph.specs.Uses.{eq_defined}
use Rattle.irtext_graph.proofs.Inside.{alone}
use Rattle.irtext_graph.proofs.Linked.{defined_tells}
use Rattle.irtext_graph.proofs.Nests.{some_eq}
use Rattle.irtext_graph.proofs.Stores.{get_mapped}
use Rattle.irtext_names.specs.Placeholders.{IsPlaceholder, Settles, SettlesIfAny}
use Rattle.irtext_names.proofs.SameBut.{SameBut, same_self, same_then, still_placeholder}
use Rattle.irtext_names.proofs.Loses.{Loses, loses, loses_none}

-- a name for something is of one thing
named_one : {A : Type 0} (f : A → Defined) (o : Option A) (d : Defined) → option_map f o ≡ Some d → (a : A) × (o ≡ Some a) × (d ≡ f a)
named_one f None d e = absurd (cc)
named_one f (Some a) d e = (a, refl, sym (some_eq e))

module _ {O B T : Type 0} where
  -- what is seen of an object in a graph without uses
  bare_content : (g : GraphView O B T) (q : Object) → option_map without_uses (content g q) ≡ option_map without_uses (content (used.without_uses g) q)
  bare_content g (TheOperation p) = (elim (get g.operations p) as (λ e. option_map (without_uses {O = O} {B = B}) (option_map (λ d. AnOperation d.0 d.1) (content_of e)) ≡ option_map without_uses (option_map (λ d. AnOperation d.0 d.1) (content_of (option_map (object_of used.without_uses_in) e)))) [ None ↦ refl | Some e ↦ refl ]) ∙ sym (ap (λ e. option_map without_uses (option_map (λ d. AnOperation d.0 d.1) (content_of e))) (get_mapped used.without_uses_in g.operations p))
  bare_content g (TheBlock b) = refl
  bare_content g (TheRegion r) = refl

  bare_parent : (g : GraphView O B T) (q : Object) → parent g q ≡ parent (used.without_uses g) q
  bare_parent g (TheOperation p) = (elim (get g.operations p) as (λ e. option_map TheBlock (parent_of e) ≡ option_map TheBlock (parent_of (option_map (object_of used.without_uses_in) e))) [ None ↦ refl | Some e ↦ refl ]) ∙ sym (ap (λ e. option_map TheBlock (parent_of e)) (get_mapped used.without_uses_in g.operations p))
  bare_parent g (TheBlock b) = refl
  bare_parent g (TheRegion r) = refl

  bare_children : (g : GraphView O B T) (q : Object) → children g q ≡ children (used.without_uses g) q
  bare_children g (TheOperation p) = (elim (get g.operations p) as (λ e. map TheRegion (children_of e) ≡ map TheRegion (children_of (option_map (object_of used.without_uses_in) e))) [ None ↦ refl | Some e ↦ refl ]) ∙ sym (ap (λ e. map TheRegion (children_of e)) (get_mapped used.without_uses_in g.operations p))
  bare_children g (TheBlock b) = refl
  bare_children g (TheRegion r) = refl

  -- what is named in an operation is used there
  pub named_used : (g : GraphView O B T) (u : Site) (d : Defined) → named_at (content g (user u)) u ≡ Some d → IsUse g d u
  named_used g (AtOperand p i) d e = go (get g.operations p) e
    where
      go : (s : Option (Entry (Node BasicBlock Region (OperationContent O T)))) → named_at {O = O} {B = B} (option_map (λ d. AnOperation d.0 d.1) (content_of s)) (AtOperand p i) ≡ Some d → option_map OfValue (slice_get (operands_of (option_map (λ e. e.content.content) s)) i) ≡ Some d
      go None f = absurd (cc)
      go (Some s) f = f
  named_used g (AtSuccessor p i) d e = go (get g.operations p) e
    where
      go : (s : Option (Entry (Node BasicBlock Region (OperationContent O T)))) → named_at {O = O} {B = B} (option_map (λ d. AnOperation d.0 d.1) (content_of s)) (AtSuccessor p i) ≡ Some d → option_map OfBlock (slice_get (successors_of (option_map (λ e. e.content.content) s)) i) ≡ Some d
      go None f = absurd (cc)
      go (Some s) f = f

  -- what is older than a mark does not use what is not
  pub unused_below : (m : ℕ) (g : GraphView O B T) (d : Defined) → IsClosedBelow m g → IsNew m g (owner d) → IsUnusedBelow m g d
  unused_below m g d c new (AtOperand p i) e = go (get g.operations p) refl e
    where
      same_owner : (v : Value) → owner (OfValue v) ≡ back.owner v
      same_owner (Result q j) = refl
      same_owner (Argument q j) = refl

      go : (s : Option (Entry (Node BasicBlock Region (OperationContent O T)))) → get g.operations p ≡ s → option_map OfValue (slice_get (operands_of (option_map (λ e. e.content.content) s)) i) ≡ Some d → IsNew m g (TheOperation p)
      go None is f = absurd (cc)
      go (Some s) is f = let n = named_one OfValue (slice_get s.content.content.operands i) d f in c.operands p i n.0 (ap (λ e. slice_get (back.operands_of e) i) is ∙ n.1) (rw (← same_owner n.0) (subst (λ x. IsNew m g (owner x)) n.2 new))
  unused_below m g d c new (AtSuccessor p i) e = go (get g.operations p) refl e
    where
      go : (s : Option (Entry (Node BasicBlock Region (OperationContent O T)))) → get g.operations p ≡ s → option_map OfBlock (slice_get (successors_of (option_map (λ e. e.content.content) s)) i) ≡ Some d → IsNew m g (TheOperation p)
      go None is f = absurd (cc)
      go (Some s) is f = let n = named_one OfBlock (slice_get s.content.content.successors i) d f in c.successors p i n.0 (ap (λ e. slice_get (back.successors_of e) i) is ∙ n.1) (subst (λ x. IsNew m g (owner x)) n.2 new)

module _ {O B T : Type 0} where
  pub replaced_same : {g k : GraphView (Option O) B T} {d e : Defined} → Replaces g k d e → SameBut g k None
  replaced_same {g} {k} r = record {
    contents = λ q n. bare_content k q ∙ ap (λ x. option_map without_uses (content x q)) r.rest ∙ sym (bare_content g q);
    parents = λ q n. bare_parent k q ∙ ap (λ x. parent x q) r.rest ∙ sym (bare_parent g q);
    lists = λ q n. bare_children k q ∙ ap (λ x. children x q) r.rest ∙ sym (bare_children g q);
    gone = λ q e. cc;
  }

  -- nothing uses what was replaced
  pub unused : {g k : GraphView (Option O) B T} {d e : Defined} → Replaces g k d e → d ≢ e → (u : Site) → IsUse k d u → ⊥
  unused {g} {k} {d} {e} r ne u f = go (used_at g u) (sym (r.uses u) ∙ f)
    where
      test : (x : Defined) (t : Bool) → eq_defined x d ≡ t → cond t e x ≡ d → ⊥
      test x true is s = ne (sym s)
      test x false is s = let k : eq_defined x d ≡ true = rw s (defined_tells.same d) in cc

      go : (o : Option Defined) → option_map (replaced d e) o ≡ Some d → ⊥
      go None s = cc
      go (Some x) s = test x (eq_defined x d) refl (some_eq s)

  -- a placeholder that nothing uses can go
  pub placeholder_goes : {g : GraphView (Option O) B T} {d : Defined} → IsPlaceholder g d → Nested (children g) (parent g) → ((u : Site) (x : Defined) → IsUse g x u → IsDefined g x) → ((u : Site) → IsUse g d u → ⊥) → CanErase g (owner d)
  placeholder_goes {g} {d} p nested there none u x named inside =
      let is = named_used g u x named in
      let same : x ≡ d = p.alone x (there u x is) (alone nested (owner d) (owner x) p.empty inside) in
      absurd (none u (rw (← same) is))

  -- only a placeholder itself is inside it
  pub inside_itself : {g : GraphView (Option O) B T} {d : Defined} → IsPlaceholder g d → Nested (children g) (parent g) → (q : Object) → IsInside g (owner d) q → q ≡ owner d
  inside_itself {g} {d} p nested q w = alone nested (owner d) q p.empty w

  -- what is erased with a placeholder is as old as the placeholder
  pub goes_alone : {g : GraphView (Option O) B T} {d : Defined} (o : Object) → o ≡ owner d → IsPlaceholder g d → Nested (children g) (parent g) → (m : ℕ) → IsNew m g (owner d)
      → ((q : Object) → IsInside g o q → IsNew m g q) × ((k : Object) → parent g o ≡ Some k → IsNew m g k)
  goes_alone {g} {d} o same p nested m new =
      (λ q w. rw (inside_itself p nested q (subst (λ z. IsInside g z q) same w)) new, λ k e. let f = p.free in let h : parent g (owner d) ≡ Some k = ap (parent g) (sym same) ∙ e in absurd (cc))

  pub erased_same : {g k : GraphView (Option O) B T} {d : Defined} → IsPlaceholder g d → ((q : Object) → IsInside g (owner d) q → q ≡ owner d) → Erases g k (owner d) → SameBut g k (Some (owner d))
  erased_same {g} {k} {d} p inside e = record {
    contents = λ q n. ap (option_map without_uses) (e.contents q (out q n));
    parents = λ q n. e.parents q (out q n);
    lists = λ q n. e.others q (out q n) (λ s. let f = p.free in cc);
    gone = λ q s. rw (← some_eq s) (e.gone (owner d) (zero, refl));
  }
    where
      out : (q : Object) → (Some (owner d) ≡ Some q → ⊥) → IsInside g (owner d) q → ⊥
      out q n w = n (ap Some (sym (inside q w)))

  -- a graph in which a placeholder is settled lost it
  pub settled : {g k : GraphView (Option O) B T} {d e : Defined} → IsPlaceholder g d → Settles g k d e → Loses g k (Some d)
  settled {g} {k} {d} p s =
      let p' : IsPlaceholder s.between d = still_placeholder (replaced_same s.replaces) d (λ f. cc) p in
      loses (Some d) (same_then (replaced_same s.replaces) (erased_same p' s.only s.takes_out)) (λ x f. go x f)
    where
      go : (x : Defined) → Some d ≡ Some x → IsPlaceholder g x
      go x f = rw (← some_eq f) p

  -- the same where there may be no placeholder
  pub settled_if : {g k : GraphView (Option O) B T} (e : Defined) (o : Option Defined) → ((d : Defined) → o ≡ Some d → IsPlaceholder g d) → SettlesIfAny g k o e → Loses g k o
  settled_if {g} e None p s = rw s (loses_none (same_self g))
  settled_if e (Some d) p s = settled (p d refl) s
