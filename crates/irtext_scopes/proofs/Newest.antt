-- The newest binding of a name is what the innermost scope has under it.
use Rattle.std.proofs.Common.{◌≡◌, ℕ, zero, suc, ◌<◌, ◌≤◌, Bool, true, false, cond, List, [], ◌∷◌, drop, set, take, get_or, Option, Some, None, nat_eq, nat_lt, refl, sym, ap, ◌∙◌, subst, arith, eqb-true, lt-ltb, le-ltb, ltb-true, ltb-false}
use Rattle.std.specs.List.{slice_get}
use Rattle.std.specs.Option.{option_or, option_map}
use Rattle.irtext_scopes.specs.declared.scopes.Entry.{Entry}
use Rattle.irtext_scopes.specs.declared.scopes.Entry.TheVariants.{Defined}
use Rattle.irtext_scopes.specs.declared.scopes.Binding.{Binding}
use Rattle.irtext_scopes.specs.Scopes.{find, innermost, in_innermost, resolved}
use Rattle.irtext_scopes.specs.Bindings.{entries_of, scopes_from, newest, first, are_apart, rebound}
use Rattle.irtext_interner.proofs.Lists.{get_or_there}
use Rattle.irtext_scopes.proofs.Maps.{not_again, apart_tail, resolved_unknown}

module _ {V : Type 0} where
  -- a binding of the name is at this place
  abbrev pub IsBindingAt : ℕ → List (Binding V) → Option ℕ → Type 0
  IsBindingAt n bs None = Unit {0}
  IsBindingAt n bs (Some i) = (b : Binding V) × (slice_get bs i ≡ Some b) × (b.name ≡ n)

  newest_is_bound : (n : ℕ) (bs : List (Binding V)) → IsBindingAt n bs (newest n bs)
  newest_is_bound n [] = tt
  newest_is_bound n (b ∷ bs) = go (newest n bs) (newest_is_bound n bs)
    where
      here : (c : Bool) → nat_eq b.name n ≡ c → IsBindingAt n (b ∷ bs) (cond c (Some 0) None)
      here true e = (b, refl, eqb-true b.name n e)
      here false e = tt

      go : (o : Option ℕ) → IsBindingAt n bs o → IsBindingAt n (b ∷ bs) (option_or (option_map suc o) (cond (nat_eq b.name n) (Some 0) None))
      go (Some i) t = t
      go None t = here (nat_eq b.name n) refl

  pub newest_there : (n i : ℕ) (bs : List (Binding V)) → newest n bs ≡ Some i → (b : Binding V) × (slice_get bs i ≡ Some b) × (b.name ≡ n)
  newest_there n i bs h = subst (IsBindingAt n bs) h (newest_is_bound n bs)

  -- what a scope that begins at m has under n, by the newest binding of n
  abbrev pub Tells : ℕ → ℕ → List (Binding V) → Option ℕ → Type 0
  Tells n m bs None = find n (entries_of (drop m bs)) ≡ None
  Tells n m bs (Some i) = (b : Binding V) × (slice_get bs i ≡ Some b) × (find n (entries_of (drop m bs)) ≡ cond (nat_lt i m) None (Some b.entry))

  tells_nothing : (n m : ℕ) → find {V = V} n (entries_of (drop m [])) ≡ None
  tells_nothing n zero = refl
  tells_nothing n (suc m) = refl

  tells_all : (n : ℕ) (b : Binding V) (bs : List (Binding V)) (o : Option ℕ) → are_apart (entries_of (b ∷ bs)) ≡ true → Tells n zero bs o
      → Tells n zero (b ∷ bs) (option_or (option_map suc o) (cond (nat_eq b.name n) (Some 0) None))
  tells_all n b bs (Some i) a t =
      let f : find n (entries_of bs) ≡ Some t.0.entry = t.2 ∙ ap (λ c. cond c None (Some t.0.entry)) (le-ltb i 0 (omega arith)) in (
        t.0,
        t.1,
        ap (λ c. cond c (Some b.entry) (find n (entries_of bs))) (not_again (b.name, b.entry) (entries_of bs) n t.0.entry a f)
            ∙ (f ∙ ap (λ c. cond c None (Some t.0.entry)) (sym (le-ltb (suc i) 0 (omega arith)))),
      )
  tells_all n b bs None a t = go (nat_eq b.name n) refl
    where
      go : (c : Bool) → nat_eq b.name n ≡ c → Tells n zero (b ∷ bs) (cond c (Some 0) None)
      go true e = (b, refl, ap (λ c. cond c (Some b.entry) (find n (entries_of bs))) e)
      go false e = ap (λ c. cond c (Some b.entry) (find n (entries_of bs))) e ∙ t

  tells_later : (n m : ℕ) (b : Binding V) (bs : List (Binding V)) (o : Option ℕ) → Tells n m bs o
      → Tells n (suc m) (b ∷ bs) (option_or (option_map suc o) (cond (nat_eq b.name n) (Some 0) None))
  tells_later n m b bs (Some i) t = (t.0, t.1, t.2 ∙ ap (λ c. cond c None (Some t.0.entry)) (steps (nat_lt i m) refl))
    where
      steps : (c : Bool) → nat_lt i m ≡ c → nat_lt i m ≡ nat_lt (suc i) (suc m)
      steps true e = let h = ltb-true i m e in e ∙ sym (lt-ltb (suc i) (suc m) (omega arith))
      steps false e = let h = ltb-false i m e in e ∙ sym (le-ltb (suc i) (suc m) (omega arith))
  tells_later n m b bs None t = go (nat_eq b.name n) refl
    where
      go : (c : Bool) → nat_eq b.name n ≡ c → Tells n (suc m) (b ∷ bs) (cond c (Some 0) None)
      go true e = (b, refl, t ∙ ap (λ c. cond c None (Some b.entry)) (sym (lt-ltb 0 (suc m) (omega arith))))
      go false e = t

  pub tells : (n m : ℕ) (bs : List (Binding V)) → are_apart (entries_of (drop m bs)) ≡ true → Tells n m bs (newest n bs)
  tells n m [] a = tells_nothing n m
  tells n zero (b ∷ bs) a = tells_all n b bs (newest n bs) a (tells n zero bs (apart_tail (b.name, b.entry) (entries_of bs) a))
  tells n (suc m) (b ∷ bs) a = tells_later n m b bs (newest n bs) (tells n m bs a)

  -- ---- the same, of the innermost scope
  pub innermost_at : (ms : List ℕ) (bs : List (Binding V)) (m : ℕ) → first ms ≡ Some m → innermost (scopes_from ms bs) ≡ entries_of (drop m bs)
  innermost_at [] bs m e = cc
  innermost_at (k ∷ ms) bs m e = let h : k ≡ m = cc in ap (λ z. entries_of (drop z bs)) h

  pub find_absent : (ms : List ℕ) (bs : List (Binding V)) (n m : ℕ) → first ms ≡ Some m → are_apart (entries_of (drop m bs)) ≡ true → newest n bs ≡ None
      → None ≡ find n (innermost (scopes_from ms bs))
  find_absent ms bs n m e a h = sym (ap (find n) (innermost_at ms bs m e) ∙ subst (Tells n m bs) h (tells n m bs a))

  pub find_hidden : (ms : List ℕ) (bs : List (Binding V)) (n m i : ℕ) → first ms ≡ Some m → are_apart (entries_of (drop m bs)) ≡ true → newest n bs ≡ Some i → i < m
      → None ≡ find n (innermost (scopes_from ms bs))
  find_hidden ms bs n m i e a h l =
      let t = subst (Tells n m bs) h (tells n m bs a) in
      sym (ap (find n) (innermost_at ms bs m e) ∙ (t.2 ∙ ap (λ c. cond c None (Some t.0.entry)) (lt-ltb i m l)))

  pub find_there : (ms : List ℕ) (bs : List (Binding V)) (n m i : ℕ) (b : Binding V) → first ms ≡ Some m → are_apart (entries_of (drop m bs)) ≡ true → newest n bs ≡ Some i → m ≤ i
      → b ≡ get_or bs i b → Some b.entry ≡ find n (innermost (scopes_from ms bs))
  find_there ms bs n m i b e a h l k =
      let t = subst (Tells n m bs) h (tells n m bs a) in
      let same : t.0 ≡ b = sym (k ∙ get_or_there bs i b t.0 t.1) in
      sym (ap (find n) (innermost_at ms bs m e) ∙ (t.2 ∙ (ap (λ c. cond c None (Some t.0.entry)) (le-ltb i m l) ∙ ap (λ z. Some z.entry) same)))

  -- ---- a definition in the place of what the newest binding has
  none_found : (n : ℕ) (bs : List (Binding V)) → are_apart (entries_of bs) ≡ true → newest n bs ≡ None → find n (entries_of bs) ≡ None
  none_found n bs a h = subst (Tells n 0 bs) h (tells n 0 bs a)

  some_found : (n i : ℕ) (bs : List (Binding V)) → are_apart (entries_of bs) ≡ true → newest n bs ≡ Some i → (x : Entry V) × (find n (entries_of bs) ≡ Some x)
  some_found n i bs a h = let t = subst (Tells n 0 bs) h (tells n 0 bs a) in (t.0.entry, t.2 ∙ ap (λ c. cond c None (Some t.0.entry)) (le-ltb i 0 (omega arith)))

  rebound_entries : (n m : ℕ) (v : V) (bs : List (Binding V)) (i : ℕ) (x : Binding V) → are_apart (entries_of (drop m bs)) ≡ true → newest n bs ≡ Some i → m ≤ i
      → slice_get bs i ≡ Some x → entries_of (drop m (set bs i (rebound v x))) ≡ resolved n v (entries_of (drop m bs))
  rebound_entries n m v [] i x a h l g = cc
  rebound_entries n zero v (b ∷ bs) i x a h l g = go (newest n bs) refl (nat_eq b.name n) refl h (rebound_entries n 0 v bs)
    where
      rest : are_apart (entries_of bs) ≡ true
      rest = apart_tail (b.name, b.entry) (entries_of bs) a

      goal : ℕ → Type 0
      goal z = entries_of (set (b ∷ bs) z (rebound v x)) ≡ (b.name, cond (nat_eq b.name n) (Defined v) b.entry) ∷ resolved n v (entries_of bs)

      go : (o : Option ℕ) → newest n bs ≡ o → (c : Bool) → nat_eq b.name n ≡ c → option_or (option_map suc o) (cond c (Some 0) None) ≡ Some i
          → ((j : ℕ) (y : Binding V) → are_apart (entries_of (drop 0 bs)) ≡ true → newest n bs ≡ Some j → 0 ≤ j → slice_get bs j ≡ Some y → entries_of (drop 0 (set bs j (rebound v y))) ≡ resolved n v (entries_of (drop 0 bs)))
          → goal i
      go (Some j) d c k e ih =
          let is : suc j ≡ i = cc in
          let there : slice_get bs j ≡ Some x = subst (λ z. slice_get (b ∷ bs) z ≡ Some x) (sym is) g in
          let s = some_found n j bs rest d in
          let other : nat_eq b.name n ≡ false = not_again (b.name, b.entry) (entries_of bs) n s.0 a s.1 in
          subst goal is (λ q. (b.name, sym (ap (λ c. cond c (Defined v) b.entry) other) q) ∷ ih j x rest d (omega arith) there q)
      go None d true k e ih =
          let is : 0 ≡ i = cc in
          let there : slice_get (b ∷ bs) 0 ≡ Some x = subst (λ z. slice_get (b ∷ bs) z ≡ Some x) (sym is) g in
          let same : b ≡ x = cc in
          subst goal is (λ q. (sym (ap (λ z. z.name) same) q, sym (ap (λ c. cond c (Defined v) b.entry) k) q) ∷ sym (resolved_unknown n v (entries_of bs) (none_found n bs rest d)) q)
      go None d false k e ih = cc
  rebound_entries n (suc m) v (b ∷ bs) i x a h l g = go (newest n bs) refl (nat_eq b.name n) h (rebound_entries n m v bs)
    where
      go : (o : Option ℕ) → newest n bs ≡ o → (c : Bool) → option_or (option_map suc o) (cond c (Some 0) None) ≡ Some i
          → ((j : ℕ) (y : Binding V) → are_apart (entries_of (drop m bs)) ≡ true → newest n bs ≡ Some j → m ≤ j → slice_get bs j ≡ Some y → entries_of (drop m (set bs j (rebound v y))) ≡ resolved n v (entries_of (drop m bs)))
          → entries_of (drop (suc m) (set (b ∷ bs) i (rebound v x))) ≡ resolved n v (entries_of (drop m bs))
      go (Some j) d c e ih =
          let is : suc j ≡ i = cc in
          let there : slice_get bs j ≡ Some x = subst (λ z. slice_get (b ∷ bs) z ≡ Some x) (sym is) g in
          let low : suc m ≤ suc j = subst (λ z. suc m ≤ z) (sym is) l in
          subst (λ z. entries_of (drop (suc m) (set (b ∷ bs) z (rebound v x))) ≡ resolved n v (entries_of (drop m bs))) is (ih j x a d (omega arith) there)
      go None d true e ih = let is : 0 ≡ i = cc in absurd (omega arith)
      go None d false e ih = cc

  take_set : (bs : List (Binding V)) (m i : ℕ) (x : Binding V) → m ≤ i → take m (set bs i x) ≡ take m bs
  take_set [] m i x l = refl
  take_set (b ∷ bs) zero i x l = refl
  take_set (b ∷ bs) (suc m) zero x l = absurd (omega arith)
  take_set (b ∷ bs) (suc m) (suc i) x l = ap (λ z. b ∷ z) (take_set bs m i x (omega arith))

  -- a definition in the place of the newest binding, which is one of the innermost scope
  pub rebound_scopes : (ms : List ℕ) (bs : List (Binding V)) (n m i : ℕ) (v : V) (x : Binding V) → first ms ≡ Some m → are_apart (entries_of (drop m bs)) ≡ true → newest n bs ≡ Some i
      → m ≤ i → slice_get bs i ≡ Some x → scopes_from ms (set bs i (rebound v x)) ≡ in_innermost (resolved n v) (scopes_from ms bs)
  rebound_scopes [] bs n m i v x e a h l g = cc
  rebound_scopes (k ∷ ms) bs n m i v x e a h l g =
      let is : k ≡ m = cc in
      let low : k ≤ i = omega arith in
      let apart : are_apart (entries_of (drop k bs)) ≡ true = subst (λ z. are_apart (entries_of (drop z bs)) ≡ true) (sym is) a in
      λ q. rebound_entries n k v bs i x apart h low g q ∷ scopes_from ms (take_set bs k i (rebound v x) low q)
