-- What names refer to in scopes of which the innermost gained a name or a definition.
use Rattle.std.proofs.Common.{◌≡◌, ◌⊎◌, ◌∙◌, inl, inr, ℕ, zero, suc, refl, sym, ap, Bool, true, false, cond, nat_eq, Option, Some, None, List, [], ◌∷◌, eqb-true, eq-eqb}
use Rattle.std.specs.Option.{option_or}
use Rattle.irtext_graph.proofs.Nests.{some_eq}
use Rattle.irtext_scopes.specs.declared.scopes.Entry.{Entry}
use Rattle.irtext_scopes.specs.declared.scopes.Entry.TheVariants.{Defined, Pending}
use Rattle.irtext_scopes.specs.Scopes.{Scope, find, innermost, in_innermost, is_open, mentioned, resolved, defined, defined_from, placeholder_of}
use Rattle.irtext_scopes.proofs.Maps.{find_mentioned}
use Rattle.irtext_names.specs.Tied.{entry_at}

module _ {V : Type 0} where
  found_mentioned : (l n : ℕ) (e x : Entry V) (s : Scope V) → find l (mentioned n e s) ≡ Some x → (find l s ≡ Some x) ⊎ ((l ≡ n) × (x ≡ e))
  found_mentioned l n e x s f = go (find l s) (nat_eq n l) refl refl (sym (find_mentioned l n e s) ∙ f)
    where
      go : (o : Option (Entry V)) (b : Bool) → find l s ≡ o → nat_eq n l ≡ b → option_or o (cond b (Some e) None) ≡ Some x → (find l s ≡ Some x) ⊎ ((l ≡ n) × (x ≡ e))
      go (Some y) b is same k = inl (is ∙ k)
      go None true is same k = inr (sym (eqb-true n l same), sym (some_eq k))
      go None false is same k = absurd (cc)

  pub mentioned_stays : (l n : ℕ) (e x : Entry V) (s : Scope V) → find l s ≡ Some x → find l (mentioned n e s) ≡ Some x
  mentioned_stays l n e x s f = find_mentioned l n e s ∙ ap (λ o. option_or o (cond (nat_eq n l) (Some e) None)) f

  pub mentioned_here : (n : ℕ) (e : Entry V) (s : Scope V) → find n s ≡ None → find n (mentioned n e s) ≡ Some e
  mentioned_here n e s f = find_mentioned n n e s ∙ ap (λ o. option_or o (cond (nat_eq n n) (Some e) None)) f ∙ ap (λ b. cond b (Some e) None) (eq-eqb n n refl)

  found_resolved : (l n : ℕ) (v : V) (x : Entry V) (s : Scope V) → find l (resolved n v s) ≡ Some x → ((l ≡ n) × (x ≡ Defined v)) ⊎ ((find l s ≡ Some x) × (l ≡ n → ⊥))
  found_resolved l n v x [] f = absurd (cc)
  found_resolved l n v x (y ∷ s) f = go (nat_eq y.0 l) (nat_eq y.0 n) refl refl f (found_resolved l n v x s)
    where
      go : (b c : Bool) → nat_eq y.0 l ≡ b → nat_eq y.0 n ≡ c → cond b (Some (cond c (Defined v) y.1)) (find l (resolved n v s)) ≡ Some x
          → (find l (resolved n v s) ≡ Some x → ((l ≡ n) × (x ≡ Defined v)) ⊎ ((find l s ≡ Some x) × (l ≡ n → ⊥)))
          → ((l ≡ n) × (x ≡ Defined v)) ⊎ ((cond b (Some y.1) (find l s) ≡ Some x) × (l ≡ n → ⊥))
      go true true d e k ih = inl (sym (eqb-true y.0 l d) ∙ eqb-true y.0 n e, sym (some_eq k))
      go true false d e k ih = inr (k, λ same. let t = eq-eqb y.0 n (eqb-true y.0 l d ∙ same) in cc)
      go false c d e k ih = ih k

  resolved_stays : (l n : ℕ) (v : V) (x : Entry V) (s : Scope V) → find l s ≡ Some x → (l ≡ n → ⊥) → find l (resolved n v s) ≡ Some x
  resolved_stays l n v x [] f ne = absurd (cc)
  resolved_stays l n v x (y ∷ s) f ne = go (nat_eq y.0 l) (nat_eq y.0 n) refl refl f (resolved_stays l n v x s)
    where
      go : (b c : Bool) → nat_eq y.0 l ≡ b → nat_eq y.0 n ≡ c → cond b (Some y.1) (find l s) ≡ Some x → (find l s ≡ Some x → (l ≡ n → ⊥) → find l (resolved n v s) ≡ Some x)
          → cond b (Some (cond c (Defined v) y.1)) (find l (resolved n v s)) ≡ Some x
      go true true d e k ih = absurd (ne (sym (eqb-true y.0 l d) ∙ eqb-true y.0 n e))
      go true false d e k ih = k
      go false c d e k ih = ih k ne

  found_defined : (l n : ℕ) (v : V) (x : Entry V) (s : Scope V) → find l (defined n v s) ≡ Some x → ((l ≡ n) × (x ≡ Defined v)) ⊎ ((find l s ≡ Some x) × (l ≡ n → ⊥))
  found_defined l n v x s f = go (find n s) refl f
    where
      go : (o : Option (Entry V)) → find n s ≡ o → find l (defined_from n v s o) ≡ Some x → ((l ≡ n) × (x ≡ Defined v)) ⊎ ((find l s ≡ Some x) × (l ≡ n → ⊥))
      go (Some y) is k = found_resolved l n v x s k
      go None is k = elim (found_mentioned l n (Defined v) x s k) [
        | inl old ↦ inr (old, λ same. let t : find n s ≡ find l s = ap (λ i. find i s) (sym same) in cc)
        | inr new ↦ inl new
      ]

  pub defined_stays : (l n : ℕ) (v : V) (x : Entry V) (s : Scope V) → find l s ≡ Some x → (l ≡ n → ⊥) → find l (defined n v s) ≡ Some x
  defined_stays l n v x s f ne = go (find n s)
    where
      go : (o : Option (Entry V)) → find l (defined_from n v s o) ≡ Some x
      go (Some y) = resolved_stays l n v x s f ne
      go None = mentioned_stays l n (Defined v) x s f

  -- ---- the same in all scopes that are open
  pub entry_mentioned : (k l n : ℕ) (e x : Entry V) (ss : List (Scope V)) → entry_at k l (in_innermost (mentioned n e) ss) ≡ Some x → (entry_at k l ss ≡ Some x) ⊎ ((k ≡ 0) × (l ≡ n) × (x ≡ e))
  entry_mentioned k l n e x [] f = inl f
  entry_mentioned zero l n e x (s ∷ ss) f = elim (found_mentioned l n e x s f) [ inl old ↦ inl old | inr (a, b) ↦ inr (refl, a, b) ]
  entry_mentioned (suc k) l n e x (s ∷ ss) f = inl f

  pub entry_stays_mentioned : (k l n : ℕ) (e x : Entry V) (ss : List (Scope V)) → entry_at k l ss ≡ Some x → entry_at k l (in_innermost (mentioned n e) ss) ≡ Some x
  entry_stays_mentioned k l n e x [] f = f
  entry_stays_mentioned zero l n e x (s ∷ ss) f = mentioned_stays l n e x s f
  entry_stays_mentioned (suc k) l n e x (s ∷ ss) f = f

  pub entry_here : (n : ℕ) (e : Entry V) (ss : List (Scope V)) → is_open ss ≡ true → find n (innermost ss) ≡ None → entry_at 0 n (in_innermost (mentioned n e) ss) ≡ Some e
  entry_here n e [] o f = absurd (cc)
  entry_here n e (s ∷ ss) o f = mentioned_here n e s f

  pub entry_defined : (k l n : ℕ) (v : V) (x : Entry V) (ss : List (Scope V)) → entry_at k l (in_innermost (defined n v) ss) ≡ Some x
      → ((k ≡ 0) × (l ≡ n) × (x ≡ Defined v)) ⊎ ((entry_at k l ss ≡ Some x) × (k ≡ 0 → l ≡ n → ⊥))
  entry_defined k l n v x [] f = absurd (cc)
  entry_defined zero l n v x (s ∷ ss) f = elim (found_defined l n v x s f) [ inl (a, b) ↦ inl (refl, a, b) | inr (a, ne) ↦ inr (a, λ z. ne) ]
  entry_defined (suc k) l n v x (s ∷ ss) f = inr (f, λ z w. cc)

  pub entry_stays_defined : (k l n : ℕ) (v : V) (x : Entry V) (ss : List (Scope V)) → entry_at k l ss ≡ Some x → (k ≡ 0 → l ≡ n → ⊥) → entry_at k l (in_innermost (defined n v) ss) ≡ Some x
  entry_stays_defined k l n v x [] f ne = f
  entry_stays_defined zero l n v x (s ∷ ss) f ne = defined_stays l n v x s f (ne refl)
  entry_stays_defined (suc k) l n v x (s ∷ ss) f ne = f

  -- what a name refers to in the innermost scope
  pub entry_innermost : (n : ℕ) (ss : List (Scope V)) → entry_at 0 n ss ≡ find n (innermost ss)
  entry_innermost n [] = refl
  entry_innermost n (s ∷ ss) = refl

  -- a name that waits does so with its placeholder
  pub waits_with : (o : Option (Entry V)) (h : V) → placeholder_of o ≡ Some h → o ≡ Some (Pending h)
  waits_with None h e = absurd (cc)
  waits_with (Some (Defined v)) h e = absurd (cc)
  waits_with (Some (Pending v)) h e = ap (λ w. Some (Pending w)) (some_eq e)
