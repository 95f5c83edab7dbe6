-- Names of either kind, by their kind: what a call about names of one kind leaves of the ties of both.
use Rattle.std.proofs.Common.{◌≡◌, ◌⊎◌, inl, inr, ℕ, ◌≤◌, refl, true, Option, Some, None, List, []}
use Rattle.irtext_graph.specs.declared.arena.Ptr.{Ptr}
use Rattle.irtext_graph.specs.declared.object.BasicBlock.{BasicBlock}
use Rattle.irtext_graph.specs.declared.object.Value.{Value}
use Rattle.irtext_graph.specs.declared.object.Defined.{Defined}
use Rattle.irtext_graph.specs.declared.object.Defined.TheVariants.{OfValue, OfBlock}
use Rattle.irtext_graph.specs.declared.object.Site.{Site}
use Rattle.irtext_graph.specs.Back.{IsClosedBelow}
use Rattle.irtext_graph.specs.Erasing.{owner}
use Rattle.irtext_graph.specs.Graph.{GraphView, IsNew, KeepsOlder}
use Rattle.irtext_graph.specs.Used.{IsDefined, AreAlike}
use Rattle.irtext_scopes.specs.declared.scopes.Entry.TheVariants.{Pending}
use Rattle.irtext_scopes.specs.declared.tracker.NameTracker.{NameTracker}
use Rattle.irtext_scopes.specs.Scopes.{find, innermost, in_innermost, is_open, mentioned}
use Rattle.irtext_names.specs.Kinds.{NamesOf, NamesOf.{values, labels}, Other, other, defined_as, scopes_of, BlankOf, Makes}
use Rattle.irtext_names.specs.Linked.{IsInPlace}
use Rattle.irtext_names.specs.Placeholders.{IsPlaceholder, Defines, IsUnchanged}
use Rattle.irtext_names.specs.Tied.{Tied, Waiting, MatchesGraph, ArePending, IsNoPlaceholder, KeepsTies, SettlesTies}
use Rattle.irtext_names.proofs.Gained.{value_same, value_placeholder, value_new, block_same, block_placeholder, block_new}
use Rattle.irtext_names.proofs.Linked.InPlace.{in_place_operation, in_place_block}
use Rattle.irtext_names.proofs.Loses.{Loses, loses_one}
use Rattle.irtext_names.proofs.Pairs.{same_ties, same_waits, made_ties, made_waits, defined_ties, defined_waits}
use Rattle.irtext_names.proofs.SameBut.{SameBut, was_defined}

-- ---- what names refer to
pub one_of : {V : Type 0} (kind : NamesOf V) (a b : V) → defined_as kind a ≡ defined_as kind b → a ≡ b
one_of values a b e = cc
one_of labels a b e = cc

pub apart_of : {V : Type 0} (kind : NamesOf V) (a : V) (b : Other kind) → defined_as kind a ≡ defined_as (other kind) b → ⊥
apart_of values a b e = cc
apart_of labels a b e = cc

-- a definition is what a name of the kind refers to, or one of the other kind
pub of_either : {V : Type 0} (kind : NamesOf V) (d : Defined) → ((v : V) × (d ≡ defined_as kind v)) ⊎ ((v : Other kind) × (d ≡ defined_as (other kind) v))
of_either values (OfValue v) = inl (v, refl)
of_either values (OfBlock b) = inr (b, refl)
of_either labels (OfValue v) = inr (v, refl)
of_either labels (OfBlock b) = inl (b, refl)

-- one takes the place of the other in uses
pub alike_of : {V : Type 0} (kind : NamesOf V) (a b : V) → AreAlike (defined_as kind a) (defined_as kind b)
alike_of values a b = tt
alike_of labels a b = tt

-- all scopes are unchanged where those of each kind are
pub same_scopes : {V : Type 0} (kind : NamesOf V) (old new : NameTracker Value (Ptr BasicBlock)) → scopes_of kind new ≡ scopes_of kind old → scopes_of (other kind) new ≡ scopes_of (other kind) old → (new.values ≡ old.values) × (new.labels ≡ old.labels)
same_scopes values old new e rest = (e, rest)
same_scopes labels old new e rest = (rest, e)

-- the blocks that wait for no label, as what names of the kind refer to
abbrev pub own_of : {V : Type 0} → NamesOf V → List (Ptr BasicBlock) → List V
own_of values own = []
own_of labels own = own

module _ {O B T : Type 0} where
  -- ---- the ties of both kinds
  pub ties : {V : Type 0} (kind : NamesOf V) (names : NameTracker Value (Ptr BasicBlock)) (g : GraphView (Option O) B T) → MatchesGraph names.values names.labels g → Tied (defined_as kind) (scopes_of kind names) g
  ties values names g t = t.value_ties
  ties labels names g t = t.label_ties

  pub both_tied : {V : Type 0} (kind : NamesOf V) (names : NameTracker Value (Ptr BasicBlock)) (g : GraphView (Option O) B T) → Tied (defined_as kind) (scopes_of kind names) g → Tied (defined_as (other kind)) (scopes_of (other kind) names) g → MatchesGraph names.values names.labels g
  both_tied values names g t u = record { value_ties = t; label_ties = u }
  both_tied labels names g t u = record { value_ties = u; label_ties = t }

  pub waits : {V : Type 0} (kind : NamesOf V) (names : NameTracker Value (Ptr BasicBlock)) (g : GraphView (Option O) B T) (m : ℕ) (own : List (Ptr BasicBlock)) → ArePending m own names.values names.labels g → Waiting m (own_of kind own) (defined_as kind) (scopes_of kind names) g
  waits values names g m own w = w.value_waits
  waits labels names g m own w = w.label_waits

  pub both_wait : {V : Type 0} (kind : NamesOf V) (names : NameTracker Value (Ptr BasicBlock)) (g : GraphView (Option O) B T) (m : ℕ) (own : List (Ptr BasicBlock))
      → Waiting m (own_of kind own) (defined_as kind) (scopes_of kind names) g → Waiting m (own_of (other kind) own) (defined_as (other kind)) (scopes_of (other kind) names) g → ArePending m own names.values names.labels g
  both_wait values names g m own w x = record { value_waits = w; label_waits = x }
  both_wait labels names g m own w x = record { value_waits = x; label_waits = w }

-- ---- what a call leaves of them
module _ {O B T V : Type 0} (kind : NamesOf V) (old new : NameTracker Value (Ptr BasicBlock)) {g k : GraphView (Option O) B T} (rest : scopes_of (other kind) new ≡ scopes_of (other kind) old) (t : MatchesGraph old.values old.labels g) where
  -- nothing changed
  pub before_ties : scopes_of kind new ≡ scopes_of kind old → IsUnchanged g k → MatchesGraph new.values new.labels k
  before_ties e s =
      let p = same_ties (defined_as kind) (defined_as (other kind)) (one_of kind) (apart_of kind) (scopes_of kind old) (scopes_of (other kind) old) (ties kind old g t) (ties (other kind) old g t) s in
      both_tied kind new k (rw e p.0) (rw rest p.1)

  pub before_waits : scopes_of kind new ≡ scopes_of kind old → IsUnchanged g k → (m : ℕ) (own : List (Ptr BasicBlock)) → ArePending m own old.values old.labels g → ArePending m own new.values new.labels k
  before_waits e s m own w =
      let p = same_waits (defined_as kind) (defined_as (other kind)) (one_of kind) (apart_of kind) (scopes_of kind old) (scopes_of (other kind) old) (ties kind old g t) (ties (other kind) old g t) s m (own_of kind own) (own_of (other kind) own) (waits kind old g m own w) (waits (other kind) old g m own w) in
      both_wait kind new k m own (rw e p.0) (rw rest p.1)

  -- a name was defined
  module _ (n : ℕ) (v : V) (d : Defines (defined_as kind) (scopes_of kind old) (scopes_of kind new) g k n v) where
    pub definition_ties : IsDefined g (defined_as kind v) → IsNoPlaceholder (scopes_of kind old) v → ((m : ℕ) (own : List (Ptr BasicBlock)) → IsClosedBelow m g → ArePending m own old.values old.labels g → KeepsOlder m g k) → SettlesTies old new g k
    definition_ties there none kept = record {
      tied = (
          let r = defined_ties (defined_as kind) (defined_as (other kind)) (one_of kind) (apart_of kind) (scopes_of kind old) (scopes_of (other kind) old) (ties kind old g t) (ties (other kind) old g t) (scopes_of kind new) n v d there none in
          both_tied kind new k r.0 (rw rest r.1)
          );
      waiting = λ m own w.
          let r = defined_waits (defined_as kind) (defined_as (other kind)) (one_of kind) (apart_of kind) (scopes_of kind old) (scopes_of (other kind) old) (ties kind old g t) (ties (other kind) old g t) (scopes_of kind new) n v d m (own_of kind own) (own_of (other kind) own) (waits kind old g m own w) (waits (other kind) old g m own w) in
          both_wait kind new k m own r.0 (rw rest r.1);
      kept = kept;
    }

-- ---- a placeholder was made
module _ {O B T : Type 0} (g k : GraphView (Option O) B (Option T)) where
  -- it is a placeholder
  pub made_placeholder : {V : Type 0} (kind : NamesOf V) (blank : BlankOf B kind) (v : V) → Makes kind blank g k v → IsPlaceholder k (defined_as kind v)
  made_placeholder values blank v m = value_placeholder v m
  made_placeholder labels blank b m = block_placeholder blank b m

  -- all else is the same
  pub made_same : {V : Type 0} (kind : NamesOf V) (blank : BlankOf B kind) (v : V) → Makes kind blank g k v → SameBut k g (Some (owner (defined_as kind v)))
  made_same values blank v m = value_same v m
  made_same labels blank b m = block_same blank b m

  -- it is new
  pub made_new : {V : Type 0} (kind : NamesOf V) (blank : BlankOf B kind) (v : V) → Makes kind blank g k v → (n : ℕ) → n ≤ g.made → IsNew n k (owner (defined_as kind v))
  made_new values blank v m = value_new v m
  made_new labels blank b m = block_new blank b m

  -- uses are in place as before
  pub made_in_place : {V : Type 0} (kind : NamesOf V) (blank : BlankOf B kind) (v : V) → Makes kind blank g k v → (s : Site) (d : Defined) → IsInPlace g d s → IsInPlace k d s
  made_in_place values blank v m = in_place_operation m.operation m.makes
  made_in_place labels blank b m = in_place_block b m

  -- all is still there
  pub made_there : {V : Type 0} (kind : NamesOf V) (blank : BlankOf B kind) (v : V) → Makes kind blank g k v → (d : Defined) → IsDefined g d → IsDefined k d
  made_there kind blank v m d e = was_defined (made_same kind blank v m) d e

-- ---- a name that is new was used
module _ {O B T V : Type 0} (kind : NamesOf V) (blank : BlankOf B kind) (old new : NameTracker Value (Ptr BasicBlock)) {g k : GraphView (Option O) B (Option T)} (rest : scopes_of (other kind) new ≡ scopes_of (other kind) old) (t : MatchesGraph old.values old.labels g)
    (n : ℕ) (v : V) (e : scopes_of kind new ≡ in_innermost (mentioned n (Pending v)) (scopes_of kind old)) (make : Makes kind blank g k v) (scope : is_open (scopes_of kind old) ≡ true) (is_new : find n (innermost (scopes_of kind old)) ≡ None) where
  p : IsPlaceholder k (defined_as kind v)
  p = made_placeholder g k kind blank v make

  l : Loses k g (Some (defined_as kind v))
  l = loses_one (defined_as kind v) p (made_same g k kind blank v make)

  pub used_ties : ((m : ℕ) → m ≤ g.made → KeepsOlder m g k) → KeepsTies old new g k
  used_ties kept = record {
    tied = (
        let r = made_ties (defined_as kind) (defined_as (other kind)) (one_of kind) (apart_of kind) (scopes_of kind old) (scopes_of (other kind) old) (ties kind old g t) (ties (other kind) old g t) n v l p scope is_new in
        both_tied kind new k (rw e r.0) (rw rest r.1)
        );
    waiting = λ m own up w.
        let r = made_waits (defined_as kind) (defined_as (other kind)) (one_of kind) (apart_of kind) (scopes_of kind old) (scopes_of (other kind) old) (ties kind old g t) (ties (other kind) old g t) n v l p scope is_new m (own_of kind own) (own_of (other kind) own) (made_new g k kind blank v make m up) (waits kind old g m own w) (waits (other kind) old g m own w) in
        both_wait kind new k m own (rw e r.0) (rw rest r.1);
    kept = kept;
  }
