-- The names in scopes stay below the count of those that are known.
use Rattle.std.proofs.Common.{◌≡◌, ◌∙◌, ap, refl, sym, subst, ℕ, ◌<◌, ◌≤◌, Bool, true, false, cond, nat_lt, Option, Some, None, Result, Ok, Err, List, [], ◌∷◌, length, position, arith, lt-ltb, ltb-true, length-append}
use Rattle.std.specs.Prelude.{OnOk, OnErr, IfSome}
use Rattle.std.specs.Option.{option_or}
use Rattle.std.specs.Str.{bytes_eq}
use Rattle.irtext_scopes.specs.declared.scopes.Entry.{Entry}
use Rattle.irtext_scopes.specs.declared.scopes.Entry.TheVariants.{Defined, Pending}
use Rattle.irtext_scopes.specs.Names.{found_or_last, with_name}
use Rattle.irtext_scopes.specs.Scopes.{Scope, find, innermost, outer, in_innermost, mentioned, resolved, defined, defined_from, first_pending}
use Rattle.irtext_scopes.specs.Tracker.{left, first_value, unresolved, names_below, are_known}

-- one more name is known, or none
grown : (names : List (List ℕ)) (text : List ℕ) → length names ≤ length (with_name names text)
grown names text = by (position (bytes_eq text) names)
  where
    by : (o : Option ℕ) → length names ≤ length (found_or_last o names text)
    by (Some i) = omega arith
    by None = let k = length-append names (text ∷ []) in omega arith

-- a test that passes, and then the rest
both : (a b : Bool) → cond a b false ≡ true → (a ≡ true) × (b ≡ true)
both true b h = (refl, h)
both false b h = cc

module _ {V : Type 0} where
  below_mentioned : (k n : ℕ) (e : Entry V) (s : Scope V) → n < k → names_below k s ≡ true → names_below k (mentioned n e s) ≡ true
  below_mentioned k n e [] l h = ap (λ b. cond b true false) (lt-ltb n k l)
  below_mentioned k n e (x ∷ s) l h =
      let b = both (nat_lt x.0 k) (names_below k s) h in
      ap (λ c. cond c (names_below k (mentioned n e s)) false) b.0 ∙ below_mentioned k n e s l b.1

  below_resolved : (k n : ℕ) (v : V) (s : Scope V) → names_below k (resolved n v s) ≡ names_below k s
  below_resolved k n v [] = refl
  below_resolved k n v (x ∷ s) = ap (λ b. cond (nat_lt x.0 k) b false) (below_resolved k n v s)

  below_defined : (k n : ℕ) (v : V) (s : Scope V) → n < k → names_below k s ≡ true → names_below k (defined n v s) ≡ true
  below_defined k n v s l h = by (find n s)
    where
      by : (o : Option (Entry V)) → names_below k (defined_from n v s o) ≡ true
      by None = below_mentioned k n (Defined v) s l h
      by (Some e) = below_resolved k n v s ∙ h

  below_higher : (k l : ℕ) (s : Scope V) → k ≤ l → names_below k s ≡ true → names_below l s ≡ true
  below_higher k l [] m h = refl
  below_higher k l (x ∷ s) m h =
      let b = both (nat_lt x.0 k) (names_below k s) h in
      let low = ltb-true x.0 k b.0 in
      ap (λ c. cond c (names_below l s) false) (lt-ltb x.0 l (omega arith)) ∙ below_higher k l s m b.1

  below_pending : (k : ℕ) (s : Scope V) → names_below k s ≡ true → IfSome (first_pending s) (λ n. n < k)
  below_pending k [] h = tt
  below_pending k ((n, Defined v) ∷ s) h = below_pending k s (both (nat_lt n k) (names_below k s) h).1
  below_pending k ((n, Pending p) ∷ s) h = ltb-true n k (both (nat_lt n k) (names_below k s) h).0

  known_innermost : (k : ℕ) (ss : List (Scope V)) → are_known k ss ≡ true → names_below k (innermost ss) ≡ true
  known_innermost k [] h = refl
  known_innermost k (s ∷ ss) h = (both (names_below k s) (are_known k ss) h).0

  pub known_outer : (k : ℕ) (ss : List (Scope V)) → are_known k ss ≡ true → are_known k (outer ss) ≡ true
  known_outer k [] h = refl
  known_outer k (s ∷ ss) h = (both (names_below k s) (are_known k ss) h).1

  known_changed : (k : ℕ) (f : Scope V → Scope V) (ss : List (Scope V)) → are_known k ss ≡ true → names_below k (f (innermost ss)) ≡ true → are_known k (in_innermost f ss) ≡ true
  known_changed k f [] h b = refl
  known_changed k f (s ∷ ss) h b = ap (λ c. cond c (are_known k ss) false) b ∙ (both (names_below k s) (are_known k ss) h).1

  known_higher : (k l : ℕ) (ss : List (Scope V)) → k ≤ l → are_known k ss ≡ true → are_known l ss ≡ true
  known_higher k l [] m h = refl
  known_higher k l (s ∷ ss) m h =
      let b = both (names_below k s) (are_known k ss) h in
      ap (λ c. cond c (are_known l ss) false) (below_higher k l s m b.0) ∙ known_higher k l ss m b.1

  pub known_left : (k : ℕ) (isolated : Bool) (ss : List (Scope V)) → are_known k ss ≡ true → are_known k (left isolated ss) ≡ true
  known_left k true ss h = known_outer k ss h
  known_left k false ss h = h

  -- ---- the same after a call that changes scopes or names, or is an error and changes nothing
  pub known_kept : {E : Type 0} (r : Result ℕ E) (old new : List (List ℕ)) (text : List ℕ) (ss : List (Scope V)) → OnOk r (new ≡ with_name old text) → OnErr r (new ≡ old)
      → are_known (length old) ss ≡ true → are_known (length new) ss ≡ true
  known_kept (Ok i) old new text ss k e h = subst (λ z. are_known (length z) ss ≡ true) (sym k) (known_higher (length old) (length (with_name old text)) ss (grown old text) h)
  known_kept (Err x) old new text ss k e h = subst (λ z. are_known (length z) ss ≡ true) (sym e) h

  pub known_added : {A E : Type 0} (r : Result A E) (k n : ℕ) (e : Entry V) (old new : List (Scope V)) → OnOk r (new ≡ in_innermost (mentioned n e) old) → OnErr r (new ≡ old)
      → n < k → are_known k old ≡ true → are_known k new ≡ true
  known_added (Ok x) k n e old new o f l h = ap (are_known k) o ∙ known_changed k (mentioned n e) old h (below_mentioned k n e (innermost old) l (known_innermost k old h))
  known_added (Err x) k n e old new o f l h = ap (are_known k) f ∙ h

  pub known_defined : {A E : Type 0} (r : Result A E) (k n : ℕ) (v : V) (old new : List (Scope V)) → OnOk r (new ≡ in_innermost (defined n v) old) → OnErr r (new ≡ old)
      → n < k → are_known k old ≡ true → are_known k new ≡ true
  known_defined (Ok x) k n v old new o f l h = ap (are_known k) o ∙ known_changed k (defined n v) old h (below_defined k n v (innermost old) l (known_innermost k old h))
  known_defined (Err x) k n v old new o f l h = ap (are_known k) f ∙ h

  first_known : (k : ℕ) (isolated : Bool) (ss : List (Scope V)) → are_known k ss ≡ true → IfSome (first_value isolated ss) (λ n. n < k)
  first_known k true ss h = below_pending k (innermost ss) (known_innermost k ss h)
  first_known k false ss h = tt

either_known : (k : ℕ) (o p : Option ℕ) → IfSome o (λ n. n < k) → IfSome p (λ n. n < k) → IfSome (option_or o p) (λ n. n < k)
either_known k (Some n) p h i = h
either_known k None p h i = i

-- the name that a region leaves without a definition is known
pub unresolved_known : {V L : Type 0} (k : ℕ) (isolated : Bool) (values : List (Scope V)) (labels : List (Scope L)) (o : Option ℕ) → o ≡ unresolved isolated values labels
    → are_known k values ≡ true → are_known k labels ≡ true → IfSome o (λ n. n < k)
unresolved_known k isolated values labels o e h i =
    subst (λ p. IfSome p (λ n. n < k)) (sym e)
    (either_known k (first_value isolated values) (first_pending (innermost labels)) (first_known k isolated values h) (below_pending k (innermost labels) (known_innermost k labels i)))
