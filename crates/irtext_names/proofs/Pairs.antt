-- Names of two kinds, values and labels, over one graph: what a call about one kind leaves of both.
use Rattle.std.proofs.Common.{◌≡◌, ◌∙◌, ℕ, refl, sym, ap, Bool, true, false, Result, Ok, Err, OnOk, OnErr, IfNone, Option, Some, None, List}
use Rattle.std.specs.Result.{is_err, IsErrAnd}
use Rattle.std.proofs.lemmas.Result.{err_from_is_err_and}
use Rattle.std.specs.Option.{option_map}
use Rattle.irtext_graph.specs.declared.object.Defined.{Defined}
use Rattle.irtext_graph.specs.Erasing.{owner}
use Rattle.irtext_graph.specs.Graph.{GraphView, IsNew}
use Rattle.irtext_graph.specs.Used.{IsDefined}
use Rattle.irtext_graph.proofs.Nests.{some_eq}
use Rattle.irtext_scopes.specs.declared.scopes.Entry.{Entry}
use Rattle.irtext_scopes.specs.declared.scopes.Entry.TheVariants as entry
use Rattle.irtext_scopes.specs.declared.scopes.Entry.TheVariants.{Pending}
use Rattle.irtext_scopes.specs.Scopes.{Scope, find, innermost, in_innermost, is_open, is_defined, mentioned, placeholder_of, value_of}
use Rattle.irtext_names.specs.Placeholders.{IsPlaceholder, Uses, Defines, Settles, SettlesIfAny, IsUnchanged}
use Rattle.irtext_names.specs.Tied.{entry_at, Tied, Waiting, IsNoPlaceholder}
use Rattle.irtext_names.proofs.Entries.{entry_innermost, waits_with}
use Rattle.irtext_names.proofs.Gained.{before_same}
use Rattle.irtext_names.proofs.Loses.{Loses, loses_none}
use Rattle.irtext_names.proofs.Settled.{settled_if}
use Rattle.irtext_names.proofs.Ties.{tied_kept, tied_defined, tied_made, tied_gained, waiting_kept, waiting_defined, waiting_made, waiting_gained}

module _ {O B T V : Type 0} (of : V → Defined) {g : GraphView (Option O) B T} (n : ℕ) (ss : List (Scope V)) (t : Tied of ss g) where
  -- what a name refers to is live
  pub there_here : (v : V) → option_map value_of (find n (innermost ss)) ≡ Some v → IsDefined g (of v)
  there_here v e = go (find n (innermost ss)) refl e
    where
      go : (o : Option (Entry V)) → find n (innermost ss) ≡ o → option_map value_of o ≡ Some v → IsDefined g (of v)
      go None is f = absurd (cc)
      go (Some x) is f = rw (← some_eq f) (t.there 0 n x (entry_innermost n ss ∙ is))

  pub waits_here : (h : V) → placeholder_of (find n (innermost ss)) ≡ Some h → entry_at 0 n ss ≡ Some (Pending h)
  waits_here h e = entry_innermost n ss ∙ waits_with (find n (innermost ss)) h e

  -- the placeholder with which a name waits
  pub held_here : (h : V) → placeholder_of (find n (innermost ss)) ≡ Some h → IsPlaceholder g (of h)
  held_here h e = t.held 0 n h (waits_here h e)

  -- a definition is not the placeholder that it replaces
  pub not_itself : (h v : V) → ((a b : V) → of a ≡ of b → a ≡ b) → placeholder_of (find n (innermost ss)) ≡ Some h → IsNoPlaceholder ss v → of h ≡ of v → ⊥
  not_itself h v same e none s = none 0 n (rw (← same h v s) (waits_here h e))

  pub held_if : (d : Defined) → option_map of (placeholder_of (find n (innermost ss))) ≡ Some d → IsPlaceholder g d
  held_if d e = go (placeholder_of (find n (innermost ss))) refl e
    where
      go : (q : Option V) → placeholder_of (find n (innermost ss)) ≡ q → option_map of q ≡ Some d → IsPlaceholder g d
      go None is f = absurd (cc)
      go (Some h) is f = rw (← some_eq f) (held_here h is)

module _ {O B T V W : Type 0} (of : V → Defined) (at : W → Defined) (same : (a b : V) → of a ≡ of b → a ≡ b) (apart : (a : V) (b : W) → of a ≡ at b → ⊥) {g k : GraphView (Option O) B T} (vs : List (Scope V)) (ws : List (Scope W)) (t : Tied of vs g) (u : Tied at ws g) where
  -- ---- nothing changed
  module _ (s : IsUnchanged g k) where
    pub same_ties : (Tied of vs k) × (Tied at ws k)
    same_ties = (tied_kept of vs t (loses_none (before_same s)) (λ v d e. cc), tied_kept at ws u (loses_none (before_same s)) (λ v d e. cc))

    pub same_waits : (m : ℕ) (own : List V) (own' : List W) → Waiting m own of vs g → Waiting m own' at ws g → (Waiting m own of vs k) × (Waiting m own' at ws k)
    same_waits m own own' w x = (waiting_kept of m own vs t w (loses_none (before_same s)) (λ v d e. cc), waiting_kept at m own' ws u x (loses_none (before_same s)) (λ v d e. cc))

  -- ---- a name of the one kind was used that is new
  module _ (n : ℕ) (h : V) (l : Loses k g (Some (of h))) (p : IsPlaceholder k (of h)) (scope : is_open vs ≡ true) (new : find n (innermost vs) ≡ None) where
    pub made_ties : (Tied of (in_innermost (mentioned n (Pending h)) vs) k) × (Tied at ws k)
    made_ties = (tied_made of same n h vs l scope new t p, tied_gained at ws u l)

    pub made_waits : (m : ℕ) (own : List V) (own' : List W) → IsNew m k (owner (of h)) → Waiting m own of vs g → Waiting m own' at ws g
        → (Waiting m own of (in_innermost (mentioned n (Pending h)) vs) k) × (Waiting m own' at ws k)
    made_waits m own own' late w x = (waiting_made of same n h vs l scope new m own t w p late, waiting_gained at m own' ws u x l (λ b e. apart h b (some_eq e)))

  -- ---- a name of the one kind was defined
  module _ (vs' : List (Scope V)) (n : ℕ) (v : V) (d : Defines of vs vs' g k n v) where
    pub lost : Loses g k (option_map of (placeholder_of (find n (innermost vs))))
    lost = settled_if (of v) (option_map of (placeholder_of (find n (innermost vs)))) (held_if of n vs t) d.settles

    pub other : (b : W) → option_map of (placeholder_of (find n (innermost vs))) ≡ Some (at b) → ⊥
    other b e = go (placeholder_of (find n (innermost vs))) e
      where
        go : (q : Option V) → option_map of q ≡ Some (at b) → ⊥
        go None f = cc
        go (Some h) f = apart h b (some_eq f)

    pub defined_ties : IsDefined g (of v) → IsNoPlaceholder vs v → (Tied of vs' k) × (Tied at ws k)
    defined_ties there none = (rw d.scopes_are (tied_defined of same n v vs (option_map of (placeholder_of (find n (innermost vs)))) refl lost t there none), tied_kept at ws u lost (λ b e. other b))

    pub defined_waits : (m : ℕ) (own : List V) (own' : List W) → Waiting m own of vs g → Waiting m own' at ws g → (Waiting m own of vs' k) × (Waiting m own' at ws k)
    defined_waits m own own' w x = (rw d.scopes_are (waiting_defined of same n v vs (option_map of (placeholder_of (find n (innermost vs)))) refl lost m own t w), waiting_kept at m own' ws u x lost (λ b e. other b))

-- ---- what was settled, given what a call returned
module _ {O B T V : Type 0} (of : V → Defined) (g k : GraphView (Option O) B T) (v : V) where
  pub settles_some : (h : V) {q : Option V} → q ≡ Some h → Settles g k (of h) (of v) → SettlesIfAny g k (option_map of q) (of v)
  settles_some h e s = rw e s

  pub settles_none : (p : Option V) {q : Option V} → ((h : V) → p ≡ Some h → ⊥) → p ≡ q → k ≡ g → SettlesIfAny g k (option_map of q) (of v)
  settles_none None n e same = rw (← e) same
  settles_none (Some h) n e same = absurd (n h refl)

-- ---- what a call leaves that succeeded, or returned an error
module _ {A E : Type 0} {P : Type 0} (r : Result A E) (b : Bool) (is : b ≡ is_err r) where
  pub accepted : b ≡ false → OnOk r P → P
  accepted e p = go r (sym is ∙ e) p
    where
      go : (r : Result A E) → is_err r ≡ false → OnOk r P → P
      go (Ok a) f p = p
      go (Err x) f p = absurd (cc)

  pub refused : b ≡ true → OnErr r P → P
  refused e p = go r (sym is ∙ e) p
    where
      go : (r : Result A E) → is_err r ≡ true → OnErr r P → P
      go (Ok a) f p = absurd (cc)
      go (Err x) f p = p

pub unknown_here : {V P : Type 0} (r : Option V) → ((v : V) → r ≡ Some v → ⊥) → IfNone r P → P
unknown_here None n p = p
unknown_here (Some v) n p = absurd (n v refl)

-- a name that waits has no definition
pub waits_free : {V : Type 0} (o : Option (Entry V)) (h : V) → placeholder_of o ≡ Some h → is_defined o ≡ false
waits_free None h e = refl
waits_free (Some (entry.Pending x)) h e = refl
waits_free (Some (entry.Defined v)) h e = absurd (cc)

-- a name of which a definition was accepted has none before
pub accepted_free : {A E V : Type 0} (r : Result A E) (x : E) (a : A) (o : Option (Entry V)) → r ≡ Ok a → (is_defined o ≡ true → r ≡ Err x) → is_defined o ≡ false
accepted_free r x a o is f = go (is_defined o) refl
  where
    go : (b : Bool) → is_defined o ≡ b → b ≡ false
    go false e = refl
    go true e = let g = f e in absurd (cc)

-- ---- a use, given what a call returned
module _ {O B T V : Type 0} {Makes : GraphView (Option O) B T → GraphView (Option O) B T → V → Type 0} (n : ℕ) (v : V) where
  pub uses_known : (ss : List (Scope V)) (g : GraphView (Option O) B T) → option_map value_of (find n (innermost ss)) ≡ Some v → Uses Makes ss ss g g n v
  uses_known ss g e = record { known = λ x f. (some_eq (sym e ∙ ap (option_map value_of) f), refl, refl); unknown = λ f. let k : None ≡ Some v = sym (ap (option_map value_of) f) ∙ e in absurd (cc) }

  pub uses_new : (ss ss' : List (Scope V)) (g k : GraphView (Option O) B T) → find n (innermost ss) ≡ None → ss' ≡ in_innermost (mentioned n (Pending v)) ss → Makes g k v → Uses Makes ss ss' g k n v
  uses_new ss ss' g k e f m = record { known = λ x h. absurd (cc); unknown = λ h. (f, m) }

-- ---- an error that is returned by `?`
pub propagated : {T E : Type 0} {e : E} (r : Result T E) → IsErrAnd r (λ y. y ≡ e) → r ≡ Err e
propagated r h = let p = err_from_is_err_and r h in p.1 ∙ ap Err p.2

pub same_refusal : {A C E : Type 0} (r : Result A E) (s : Result C E) (x y : E) → r ≡ Err x → s ≡ Err x → s ≡ Err y → r ≡ Err y
same_refusal r s x y a b e = let f = sym b ∙ e in let same : x ≡ y = cc in a ∙ ap (λ z. Err z) same
