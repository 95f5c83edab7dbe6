-- What each use of a script means, whether or not it means something; and that in a script without failures each means something.
use Rattle.std.proofs.Common.{◌≡◌, Bool, true, false, cond, List, [], ◌∷◌, ◌++◌, Option, Some, None, is_some, refl, sym, ap, ◌∙◌, inl, inr, ⊎_elim, subst}
use Rattle.std.specs.Prelude.{⊤, ◌↔◌}
use Rattle.irtext_grammar.specs.Names.Script.{Place, User, UnresolvedReference, Act, use_value, use_label, Script, done, does, within, does_all}
use Rattle.irtext_grammar.specs.Names.Scopes.{Fact, uses, defines, link, fail, fact_of, Scopes, and_then, ◌⊳◌, outside, not_isolated, inside, lookup, unresolved, outward, facts, act_failures, left_open, failures, bound_by, bound}
use Rattle.irtext_grammar.specs.Spelling.Spellable.{Each}
use Rattle.irtext_grammar.specs.Names.Placeholders.{In}
use Rattle.irtext_grammar.proofs.Lists.Sets.{in_left, in_right, in_split}
use Rattle.std.proofs.lemmas.List.{append_assoc}
use Rattle.irtext_grammar.proofs.Names.Plainly.{both_empty}
use Rattle.irtext_grammar.proofs.Lists.Each.{each_both, each_left, each_right}

-- what holds of each holds of a member
pub each_in : {A : Type 0} (Q : A → Type 0) (xs : List A) → Each Q xs → (x : A) → In x xs → Q x
each_in Q [] h x i = absurd i
each_in Q (y ∷ xs) h x (inl e) = subst Q (sym e) h.0
each_in Q (y ∷ xs) h x (inr i) = each_in Q xs h.1 x i

-- what holds of every member holds of each
pub in_each : {A : Type 0} (Q : A → Type 0) (xs : List A) → ((x : A) → In x xs → Q x) → Each Q xs
in_each Q [] h = tt
in_each Q (y ∷ xs) h = (h y (inl refl), in_each Q xs (λ x i. h x (inr i)))

-- a link is there where its user has a place
pub in_link : (u w : User) (o : Option Place) (q : Place) → In {A = User × Place} (u, q) (link w o) ↔ In {A = User × Option Place} (u, Some q) ((w, o) ∷ [])
in_link u w None q = ((λ h. absurd h), (λ h. no h))
  where
    some_none : (x : Place) → Some x ≡ None → ⊥
    some_none x e = cc

    no : In {A = User × Option Place} (u, Some q) ((w, None) ∷ []) → ⊥
    no (inl e) = some_none q (ap (λ z. z.1) e)
    no (inr h) = absurd h
in_link u w (Some r) q = (to, from)
  where
    some_inside : (x y : Place) → Some x ≡ Some y → x ≡ y
    some_inside x y e = cc

    to : In {A = User × Place} (u, q) ((w, r) ∷ []) → In {A = User × Option Place} (u, Some q) ((w, Some r) ∷ [])
    to (inl e) = inl (ap (λ z. (z.0, Some z.1)) e)
    to (inr h) = absurd h

    from : In {A = User × Option Place} (u, Some q) ((w, Some r) ∷ []) → In {A = User × Place} (u, q) ((w, r) ∷ [])
    from (inl e) = inl (λ i. (ap (λ z. z.0) e i, some_inside q r (ap (λ z. z.1) e) i))
    from (inr h) = absurd h

-- members of lists joined correspond where those of their parts do
pub in_both : {A B : Type 0} (x : A) (y : B) (xs bs : List A) (cs ds : List B) → In x xs ↔ In y cs → In x bs ↔ In y ds → In x (xs ++ bs) ↔ In y (cs ++ ds)
in_both x y xs bs cs ds h k = (
  (λ i. ⊎_elim (λ j. in_left y cs ds (h.0 j)) (λ j. in_right y cs ds (k.0 j)) (in_split x xs bs i)),
  (λ i. ⊎_elim (λ j. in_left x xs bs (h.1 j)) (λ j. in_right x xs bs (k.1 j)) (in_split y cs ds i)),
)

module _ {N : Type 0} (eq : N → N → Bool) where
  -- what the use in an act means
  abbrev pub meant_by : {P : Type 0} → List (Fact N) → List (Fact N) → Act N P → List (User × Option Place)
  meant_by v l (use_value w u) = (u, lookup eq w.name v) ∷ []
  meant_by v l (use_label w u) = (u, lookup eq w.name l) ∷ []
  meant_by v l _ = []

  -- what the uses in acts mean
  abbrev pub acts_meant : {P : Type 0} → List (Fact N) → List (Fact N) → List (Act N P) → List (User × Option Place)
  acts_meant v l [] = []
  acts_meant v l (a ∷ rest) = meant_by v l a ++ acts_meant v l rest

  -- what the uses in a script mean, in the script's order
  abbrev pub meant : {P : Type 0} → List (Fact N) → List (Fact N) → Script N P → List (User × Option Place)
  meant v l done = []
  meant v l (does a k) = meant_by v l a ++ meant v l k
  meant v l (within iso p body k) = meant (cond iso (facts eq body).values v) (facts eq body).labels body ++ meant v l k

  bound_by_meant : {P : Type 0} (v l : List (Fact N)) (a : Act N P) (u : User) (q : Place) → In (u, q) (bound_by eq v l a) ↔ In (u, Some q) (meant_by v l a)
  bound_by_meant v l (use_value w x) u q = in_link u x (lookup eq w.name v) q
  bound_by_meant v l (use_label w x) u q = in_link u x (lookup eq w.name l) q
  bound_by_meant v l _ u q = ((λ h. h), (λ h. h))

  -- what is bound is what means something
  pub bound_meant : {P : Type 0} (v l : List (Fact N)) (x : Script N P) (u : User) (q : Place) → In (u, q) (bound eq v l x) ↔ In (u, Some q) (meant v l x)
  bound_meant v l done u q = ((λ h. h), (λ h. h))
  bound_meant v l (does a k) u q = in_both (u, q) (u, Some q) _ _ _ _ (bound_by_meant v l a u q) (bound_meant v l k u q)
  bound_meant v l (within iso p body k) u q = in_both (u, q) (u, Some q) _ _ _ _ (bound_meant (cond iso (facts eq body).values v) (facts eq body).labels body u q) (bound_meant v l k u q)

  -- the uses of acts, and then of the script after them
  pub meant_all : {P : Type 0} (v l : List (Fact N)) (acts : List (Act N P)) (k : Script N P) → meant v l (does_all acts k) ≡ acts_meant v l acts ++ meant v l k
  meant_all v l [] k = refl
  meant_all v l (a ∷ rest) k = ap (λ z. meant_by v l a ++ z) (meant_all v l rest k) ∙ sym (append_assoc (meant_by v l a) (acts_meant v l rest) (meant v l k))

  -- ---- a script without failures
  abbrev pub Means : User × Option Place → Type 0
  Means e = is_some e.1 ≡ true

  -- the name that is used is defined
  abbrev pub Known : List (Fact N) → Fact N → Type 0
  Known v (uses n u) = is_some (lookup eq n v) ≡ true
  Known v (defines n p) = ⊤

  -- inside a scope whose whole facts are v
  abbrev Scoped : Option (List (Fact N)) → List (Fact N) → List (Fact N) → Type 0
  Scoped None v fs = ⊤
  Scoped (Some gs) v fs = Each (Known v) fs

  scoped_then : (o : Option (List (Fact N))) (v fs gs hs : List (Fact N)) → Scoped o v (fs ++ gs) → Scoped (and_then o hs) v gs
  scoped_then None v fs gs hs h = tt
  scoped_then (Some xs) v fs gs hs h = each_right (Known v) fs gs h

  scoped_front : (o : Option (List (Fact N))) (v fs gs : List (Fact N)) → Scoped o v (fs ++ gs) → Scoped o v fs
  scoped_front None v fs gs h = tt
  scoped_front (Some xs) v fs gs h = each_left (Known v) fs gs h

  no_failures : {A : Type 0} (x : A) (xs : List A) → x ∷ xs ≡ [] → ⊥
  no_failures x xs e = cc

  resolved_known : {P : Type 0} (a : P) (v fs : List (Fact N)) → unresolved eq a v fs ≡ [] → Each (Known v) fs
  resolved_known a v [] e = tt
  resolved_known a v (uses n u ∷ fs) e = let b = both_empty (cond (is_some (lookup eq n v)) [] (fail (UnresolvedReference n) a)) (unresolved eq a v fs) e in (go (is_some (lookup eq n v)) b.0, resolved_known a v fs b.1)
    where
      go : (c : Bool) → cond c [] (fail (UnresolvedReference n) a) ≡ [] → c ≡ true
      go true e = refl
      go false e = absurd (no_failures _ _ e)
  resolved_known a v (defines n p ∷ fs) e = (tt, resolved_known a v fs e)

  act_means : {P : Type 0} (s : Scopes N) (v l : List (Fact N)) (a : Act N P) → act_failures eq s a ≡ [] → Scoped s.values v (fact_of a).values → Scoped s.labels l (fact_of a).labels → Each Means (meant_by v l a)
  act_means s v l (use_value w u) e h k = (go s.values e h, tt)
    where
      go : (o : Option (List (Fact N))) → outside o w ≡ [] → Scoped o v (uses w.name u ∷ []) → is_some (lookup eq w.name v) ≡ true
      go None e h = absurd (no_failures _ _ e)
      go (Some gs) e h = h.0
  act_means s v l (use_label w u) e h k = (go s.labels e k, tt)
    where
      go : (o : Option (List (Fact N))) → outside o w ≡ [] → Scoped o l (uses w.name u ∷ []) → is_some (lookup eq w.name l) ≡ true
      go None e h = absurd (no_failures _ _ e)
      go (Some gs) e h = h.0
  act_means s v l _ e h k = tt

  -- each use means something
  pub all_mean : {P : Type 0} (s : Scopes N) (v l : List (Fact N)) (x : Script N P) → failures eq s x ≡ [] → Scoped s.values v (facts eq x).values → Scoped s.labels l (facts eq x).labels → Each Means (meant v l x)
  all_mean s v l done e h k = tt
  all_mean s v l (does a x) e h k =
      let b = both_empty (act_failures eq s a) (failures eq (s ⊳ fact_of a) x) e in
      each_both Means (meant_by v l a) (meant v l x)
      (act_means s v l a b.0 (scoped_front s.values v (fact_of a).values (facts eq x).values h) (scoped_front s.labels l (fact_of a).labels (facts eq x).labels k))
      (all_mean (s ⊳ fact_of a) v l x b.1 (scoped_then s.values v (fact_of a).values (facts eq x).values (fact_of a).values h) (scoped_then s.labels l (fact_of a).labels (facts eq x).labels (fact_of a).labels k))
  all_mean s v l (within true p body x) e h k =
      let f = facts eq body in
      let out = outward eq true f in
      let a = both_empty (failures eq (inside true s) body ++ left_open eq p true f) (failures eq (s ⊳ out) x) e in
      let b = both_empty (failures eq (inside true s) body) (left_open eq p true f) a.0 in
      let c = both_empty (unresolved eq p f.values f.values) (unresolved eq p f.labels f.labels) b.1 in
      each_both Means (meant f.values f.labels body) (meant v l x)
      (all_mean (inside true s) f.values f.labels body b.0 (resolved_known p f.values f.values c.0) (resolved_known p f.labels f.labels c.1))
      (all_mean (s ⊳ out) v l x a.1 (scoped_then s.values v out.values (facts eq x).values out.values h) (scoped_then s.labels l out.labels (facts eq x).labels out.labels k))
  all_mean s v l (within false p body x) e h k =
      let f = facts eq body in
      let out = outward eq false f in
      let a = both_empty (not_isolated false s.values ++ (failures eq (inside false s) body ++ left_open eq p false f)) (failures eq (s ⊳ out) x) e in
      let b = both_empty (not_isolated false s.values) (failures eq (inside false s) body ++ left_open eq p false f) a.0 in
      let c = both_empty (failures eq (inside false s) body) (left_open eq p false f) b.1 in
      each_both Means (meant v f.labels body) (meant v l x)
      (all_mean (inside false s) v f.labels body c.0 (scoped_front s.values v out.values (facts eq x).values h) (resolved_known p f.labels f.labels c.1))
      (all_mean (s ⊳ out) v l x a.1 (scoped_then s.values v out.values (facts eq x).values out.values h) (scoped_then s.labels l out.labels (facts eq x).labels out.labels k))
