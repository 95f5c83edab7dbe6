-- Scopes that open and close keep what ties names to placeholders.
use Rattle.std.proofs.Common.{◌≡◌, ◌∙◌, ℕ, zero, suc, refl, sym, ap, Bool, true, false, cond, nat_eq, Result, Ok, Err, OnOk, OnErr, IfNone, Option, Some, None, List, [], ◌∷◌}
use Rattle.std.specs.Option.{option_or}
use Rattle.irtext_graph.specs.declared.arena.Ptr.{Ptr}
use Rattle.irtext_graph.specs.declared.object.BasicBlock.{BasicBlock}
use Rattle.irtext_graph.specs.declared.object.Value.{Value}
use Rattle.irtext_graph.specs.declared.object.Defined.{Defined}
use Rattle.irtext_graph.specs.Erasing.{owner}
use Rattle.irtext_graph.specs.Graph.{GraphView, IsNew}
use Rattle.irtext_graph.specs.Used.{IsDefined}
use Rattle.irtext_scopes.specs.declared.scopes.Entry.{Entry}
use Rattle.irtext_scopes.specs.declared.scopes.Entry.TheVariants.{Defined as IsMeant, Pending}
use Rattle.irtext_scopes.specs.Scopes.{Scope, find, innermost, outer, first_pending, value_of}
use Rattle.irtext_scopes.specs.Tracker.{entered, left, first_value, unresolved}
use Rattle.irtext_names.specs.Placeholders.{IsPlaceholder}
use Rattle.irtext_names.specs.Tied.{entry_at, Tied, Waiting, MatchesGraph, ArePending, NoneIsLeft}

module _ {V : Type 0} where
  none_pending : (n : ℕ) (h : V) (s : Scope V) → first_pending s ≡ None → find n s ≡ Some (Pending h) → ⊥
  none_pending n h [] e f = cc
  none_pending n h ((l, IsMeant v) ∷ s) e f = go (nat_eq l n) f (none_pending n h s e)
    where
      go : (b : Bool) → cond b (Some (IsMeant v)) (find n s) ≡ Some (Pending h) → (find n s ≡ Some (Pending h) → ⊥) → ⊥
      go true k ih = cc
      go false k ih = ih k
  none_pending n h ((l, Pending v) ∷ s) e f = cc

module _ {O B T V : Type 0} (of : V → Defined) {g : GraphView (Option O) B T} where
  tied_entered : (ss : List (Scope V)) → Tied of ss g → Tied of ([] ∷ ss) g
  tied_entered ss t = record { there = there; held = held; alone = alone }
    where
      there : (k n : ℕ) (e : Entry V) → entry_at k n ([] ∷ ss) ≡ Some e → IsDefined g (of (value_of e))
      there zero n e f = absurd (cc)
      there (suc k) n e f = t.there k n e f

      held : (k n : ℕ) (h : V) → entry_at k n ([] ∷ ss) ≡ Some (Pending h) → IsPlaceholder g (of h)
      held zero n h f = absurd (cc)
      held (suc k) n h f = t.held k n h f

      alone : (k n j m : ℕ) (e : Entry V) (h : V) → entry_at k n ([] ∷ ss) ≡ Some e → entry_at j m ([] ∷ ss) ≡ Some (Pending h) → value_of e ≡ h → (k ≡ j) × (n ≡ m)
      alone zero n j m e h f f' s = absurd (cc)
      alone (suc k) n zero m e h f f' s = absurd (cc)
      alone (suc k) n (suc j) m e h f f' s = let r = t.alone k n j m e h f f' s in (ap suc r.0, r.1)

  tied_left : (ss : List (Scope V)) → Tied of ss g → Tied of (outer ss) g
  tied_left [] t = t
  tied_left (s ∷ ss) t = record {
    there = λ k n e f. t.there (suc k) n e f;
    held = λ k n h f. t.held (suc k) n h f;
    alone = λ k n j m e h f f' same. let r = t.alone (suc k) n (suc j) m e h f f' same in let i = r.0 in (cc, r.1);
  }

  waiting_entered : (m : ℕ) (own : List V) (ss : List (Scope V)) → Waiting m own of ss g → Waiting m own of ([] ∷ ss) g
  waiting_entered m own ss w = record {
    late = late;
    known = λ v d b new not. let r = w.known v d b new not in (suc r.0, r.1, r.2);
  }
    where
      late : (k n : ℕ) (h : V) → entry_at k n ([] ∷ ss) ≡ Some (Pending h) → IsNew m g (owner (of h))
      late zero n h f = absurd (cc)
      late (suc k) n h f = w.late k n h f

  waiting_left : (m : ℕ) (own : List V) (ss : List (Scope V)) → first_pending (innermost ss) ≡ None → Waiting m own of ss g → Waiting m own of (outer ss) g
  waiting_left m own [] none w = w
  waiting_left m own (s ∷ ss) none w = record {
    late = λ k n h f. w.late (suc k) n h f;
    known = λ v d b new not. let r = w.known v d b new not in stays v r.0 r.1 r.2;
  }
    where
      stays : (v : V) (k n : ℕ) → entry_at k n (s ∷ ss) ≡ Some (Pending v) → (k : ℕ) × (n : ℕ) × (entry_at k n ss ≡ Some (Pending v))
      stays v zero n f = absurd (none_pending n v s none f)
      stays v (suc k) n f = (k, n, f)

either_none : {A : Type 0} (a b : Option A) → option_or a b ≡ None → (a ≡ None) × (b ≡ None)
either_none None b e = (refl, e)
either_none (Some x) b e = absurd (cc)

module _ {O B T : Type 0} (g : GraphView (Option O) B T) (vs vs' : List (Scope Value)) (ls ls' : List (Scope (Ptr BasicBlock))) where
  -- ---- a region was entered, or not
  pub entered_ties : {A E : Type 0} (r : Result A E) (isolated : Bool) → OnOk r (vs' ≡ entered isolated vs) → OnOk r (ls' ≡ [] ∷ ls) → OnErr r (vs' ≡ vs) → OnErr r (ls' ≡ ls) → MatchesGraph vs ls g → MatchesGraph vs' ls' g
  entered_ties (Err x) isolated a b c d t = rw (c, d) t
  entered_ties (Ok x) true a b c d t = rw (a, b) (record { value_ties = tied_entered _ vs t.value_ties; label_ties = tied_entered _ ls t.label_ties })
  entered_ties (Ok x) false a b c d t = rw (a, b) (record { value_ties = t.value_ties; label_ties = tied_entered _ ls t.label_ties })

  pub entered_waits : {A E : Type 0} (r : Result A E) (isolated : Bool) → OnOk r (vs' ≡ entered isolated vs) → OnOk r (ls' ≡ [] ∷ ls) → OnErr r (vs' ≡ vs) → OnErr r (ls' ≡ ls)
      → (m : ℕ) (own : List (Ptr BasicBlock)) → ArePending m own vs ls g → ArePending m own vs' ls' g
  entered_waits (Err x) isolated a b c d m own w = rw (c, d) w
  entered_waits (Ok x) true a b c d m own w = rw (a, b) (record { value_waits = waiting_entered _ m [] vs w.value_waits; label_waits = waiting_entered _ m own ls w.label_waits })
  entered_waits (Ok x) false a b c d m own w = rw (a, b) (record { value_waits = w.value_waits; label_waits = waiting_entered _ m own ls w.label_waits })

  -- ---- a region was left
  pub left_ties : (isolated : Bool) → vs' ≡ left isolated vs → ls' ≡ outer ls → MatchesGraph vs ls g → MatchesGraph vs' ls' g
  left_ties true a b t = rw (a, b) (record { value_ties = tied_left _ vs t.value_ties; label_ties = tied_left _ ls t.label_ties })
  left_ties false a b t = rw (a, b) (record { value_ties = t.value_ties; label_ties = tied_left _ ls t.label_ties })

  left_waits : (isolated : Bool) → unresolved isolated vs ls ≡ None → vs' ≡ left isolated vs → ls' ≡ outer ls
      → (m : ℕ) (own : List (Ptr BasicBlock)) → ArePending m own vs ls g → ArePending m own vs' ls' g
  left_waits true e a b m own w = let n = either_none (first_value true vs) (first_pending (innermost ls)) e in
      rw (a, b) (record { value_waits = waiting_left _ m [] vs n.0 w.value_waits; label_waits = waiting_left _ m own ls n.1 w.label_waits })
  left_waits false e a b m own w = let n = either_none (first_value false vs) (first_pending (innermost ls)) e in
      rw (a, b) (record { value_waits = w.value_waits; label_waits = waiting_left _ m own ls n.1 w.label_waits })

  -- where no scope is open, nothing waits
  none_left : (m : ℕ) (own : List (Ptr BasicBlock)) → vs' ≡ [] → ls' ≡ [] → ArePending m own vs' ls' g → NoneIsLeft m own g
  none_left m own a b w = record {
    values = λ v d k new. let r = w.value_waits.known v d k new (λ e. e) in let e = sym (ap (entry_at r.0 r.1) a) ∙ r.2 in cc;
    labels = λ v d k new not. let r = w.label_waits.known v d k new not in let e = sym (ap (entry_at r.0 r.1) b) ∙ r.2 in cc;
  }

  pub if_left_waits : (o : Option ℕ) (isolated : Bool) → o ≡ unresolved isolated vs ls → vs' ≡ left isolated vs → ls' ≡ outer ls
      → IfNone o ((m : ℕ) (own : List (Ptr BasicBlock)) → ArePending m own vs ls g → ArePending m own vs' ls' g)
  if_left_waits (Some n) isolated e a b = tt
  if_left_waits None isolated e a b = left_waits isolated (sym e) a b

  pub if_none_left : (o : Option ℕ) (isolated : Bool) → o ≡ unresolved isolated vs ls → vs' ≡ left isolated vs → ls' ≡ outer ls
      → IfNone o ((m : ℕ) (own : List (Ptr BasicBlock)) → ArePending m own vs ls g → vs' ≡ [] → ls' ≡ [] → NoneIsLeft m own g)
  if_none_left (Some n) isolated e a b = tt
  if_none_left None isolated e a b = λ m own w c d. none_left m own c d (left_waits isolated (sym e) a b m own w)
