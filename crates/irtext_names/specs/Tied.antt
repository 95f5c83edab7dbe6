-- How names that wait for a definition are tied to the placeholders of a graph.
use Rattle.std.specs.Prelude.{◌≡◌, ◌≤◌, ℕ, zero, suc, List, [], ◌∷◌, Option, Some, None}
use Rattle.irtext_graph.specs.declared.arena.Ptr.{Ptr}
use Rattle.irtext_graph.specs.declared.object.BasicBlock.{BasicBlock}
use Rattle.irtext_graph.specs.declared.object.Value.{Value}
use Rattle.irtext_graph.specs.declared.object.Defined.{Defined}
use Rattle.irtext_graph.specs.declared.object.Defined.TheVariants.{OfValue, OfBlock}
use Rattle.irtext_graph.specs.Back.{IsClosedBelow}
use Rattle.irtext_graph.specs.Chained.{Among}
use Rattle.irtext_graph.specs.Erasing.{owner}
use Rattle.irtext_graph.specs.Graph.{GraphView, IsNew, KeepsOlder}
use Rattle.irtext_graph.specs.Used.{IsDefined}
use Rattle.irtext_scopes.specs.declared.scopes.Entry.{Entry}
use Rattle.irtext_scopes.specs.declared.scopes.Entry.TheVariants.{Pending}
use Rattle.irtext_scopes.specs.declared.tracker.NameTracker.{NameTracker}
use Rattle.irtext_scopes.specs.Scopes.{Scope, find, value_of}
use Rattle.irtext_names.specs.Placeholders.{IsBlank, IsPlaceholder}

-- what a name refers to in the scope with this number, counted from the innermost one
abbrev pub entry_at : {V : Type 0} → ℕ → ℕ → List (Scope V) → Option (Entry V)
entry_at k n [] = None
entry_at zero n (s ∷ ss) = find n s
entry_at (suc k) n (s ∷ ss) = entry_at k n ss

-- no name waits with this as its placeholder
abbrev pub IsNoPlaceholder : {V : Type 0} → List (Scope V) → V → Type 0
IsNoPlaceholder scopes v = (k n : ℕ) → entry_at k n scopes ≡ Some (Pending v) → ⊥

module _ {O B T V : Type 0} where
  -- what names refer to is live, each waiting name has a placeholder, and no other name refers to that placeholder
  pub record Tied (of : V → Defined) (scopes : List (Scope V)) (g : GraphView (Option O) B T) : Type 0 where
    pub there : (k n : ℕ) (e : Entry V) → entry_at k n scopes ≡ Some e → IsDefined g (of (value_of e))
    pub held : (k n : ℕ) (h : V) → entry_at k n scopes ≡ Some (Pending h) → IsPlaceholder g (of h)
    pub alone : (k n j m : ℕ) (e : Entry V) (h : V) → entry_at k n scopes ≡ Some e → entry_at j m scopes ≡ Some (Pending h) → value_of e ≡ h
        → (k ≡ j) × (n ≡ m)

  -- of the objects that were created after the first m: only these are placeholders of waiting names, and each of them that is blank
  -- waits for a name, except those in `own`
  pub record Waiting (m : ℕ) (own : List V) (of : V → Defined) (scopes : List (Scope V)) (g : GraphView (Option O) B T) : Type 0 where
    pub late : (k n : ℕ) (h : V) → entry_at k n scopes ≡ Some (Pending h) → IsNew m g (owner (of h))
    pub known : (v : V) → IsDefined g (of v) → IsBlank g (of v) → IsNew m g (owner (of v)) → (Among v own → ⊥)
        → (k : ℕ) × (n : ℕ) × (entry_at k n scopes ≡ Some (Pending v))

module _ {O B T : Type 0} where
  -- names of values and labels are tied to the graph
  pub record MatchesGraph (values : List (Scope Value)) (labels : List (Scope (Ptr BasicBlock))) (g : GraphView (Option O) B T) : Type 0 where
    pub value_ties : Tied OfValue values g
    pub label_ties : Tied OfBlock labels g

  -- of the objects that were created after the first m: only these are placeholders of waiting names; each operation without data has a
  -- result that waits for a name, and each detached block waits for a label, except the blocks in `own`
  pub record ArePending (m : ℕ) (own : List (Ptr BasicBlock)) (values : List (Scope Value)) (labels : List (Scope (Ptr BasicBlock)))
      (g : GraphView (Option O) B T) : Type 0 where
    pub value_waits : Waiting m [] OfValue values g
    pub label_waits : Waiting m own OfBlock labels g

  -- of the objects that were created after the first m, each operation has its data, and each block has a parent or is in `own`
  pub record NoneIsLeft (m : ℕ) (own : List (Ptr BasicBlock)) (g : GraphView (Option O) B T) : Type 0 where
    pub values : (v : Value) → IsDefined g (OfValue v) → IsBlank g (OfValue v) → IsNew m g (owner (OfValue v)) → ⊥
    pub labels : (b : Ptr BasicBlock) → IsDefined g (OfBlock b) → IsBlank g (OfBlock b) → IsNew m g (owner (OfBlock b))
        → (Among b own → ⊥) → ⊥

  -- whichever count is taken: what was pending is still pending, with these names and this graph
  abbrev pub StaysPending : NameTracker Value (Ptr BasicBlock) → NameTracker Value (Ptr BasicBlock) → GraphView (Option O) B T → GraphView (Option O) B T → Type 0
  StaysPending old new g k = (m : ℕ) (own : List (Ptr BasicBlock)) → ArePending m own old.values old.labels g → ArePending m own new.values new.labels k

  -- what calls that use names keep: names match the graph, placeholders wait for names as before, and what is older is unchanged
  pub record KeepsTies (old new : NameTracker Value (Ptr BasicBlock)) (g k : GraphView (Option O) B T) : Type 0 where
    pub tied : MatchesGraph new.values new.labels k
    pub waiting : (m : ℕ) (own : List (Ptr BasicBlock)) → m ≤ g.made → ArePending m own old.values old.labels g → ArePending m own new.values new.labels k
    pub kept : (m : ℕ) → m ≤ g.made → KeepsOlder m g k

  -- what calls that define names keep: the same, where what is older than a parse uses nothing newer and is no placeholder
  pub record SettlesTies (old new : NameTracker Value (Ptr BasicBlock)) (g k : GraphView (Option O) B T) : Type 0 where
    pub tied : MatchesGraph new.values new.labels k
    pub waiting : StaysPending old new g k
    pub kept : (m : ℕ) (own : List (Ptr BasicBlock)) → IsClosedBelow m g → ArePending m own old.values old.labels g → KeepsOlder m g k
