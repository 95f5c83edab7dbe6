-- What a scope of names means, by its facts: kept by uses, definitions and new names; and what it leaves unresolved.
use Rattle.std.proofs.Common.{◌≡◌, ℕ, Bool, true, false, cond, List, [], ◌∷◌, ◌++◌, map, Option, Some, None, is_some, option_map, slice_get, nat_eq, refl, sym, ap, ◌∙◌, subst, true≢false, eq-eqb, eqb-true}
use Rattle.std.specs.Option.{option_or}
use Rattle.irtext_base.specs.Text.{Text}
use Rattle.irtext_base.specs.Format.{same_text}
use Rattle.irtext_graph.specs.Chained.{Among}
use Rattle.irtext_graph.proofs.Nests.{some_eq}
use Rattle.irtext_grammar.specs.Names.Script.{Place, User}
use Rattle.irtext_grammar.specs.Names.Scopes.{uses, defines}
use Rattle.irtext_grammar.specs.Names.TextScopes.{Fact, Failure, lookup, bound_in, unresolved}
use Rattle.irtext_grammar.proofs.Lists.Lists.{among, or_else, or_else-none, lookup-use, lookup-define, names_from, names-append, name_of}
use Rattle.irtext_grammar.proofs.Lists.SameText.{same_text_refl, same_text_true, other_text}
use Rattle.irtext_grammar.proofs.Names.PlaceholderMap.{head, unresolved_name, not_mentioned}
use Rattle.irtext_scopes.specs.declared.scopes.Entry.{Entry}
use Rattle.irtext_scopes.specs.declared.scopes.Entry.TheVariants as entries
use Rattle.irtext_scopes.specs.Bindings.{are_apart}
use Rattle.irtext_scopes.specs.Names.{AreDistinct, KeepsNames}
use Rattle.irtext_scopes.specs.Scopes.{Scope, find, mentioned, resolved, defined, defined_from, is_defined, first_pending}
use Rattle.irtext_scopes.proofs.Maps.{find_mentioned, apart_tail, not_again}
use Rattle.irtext_names.specs.Linked.{mentioned_in, IsMeant, texts_of, Means}
use Rattle.irtext_names.proofs.Linked.Mentions.{names_mentioned, Once, once_names, used_among, bound_from, undefined_of, first_undefined, unresolved_first}

-- the texts of a scope's names and names from texts have the same first, and the same rest
texts_cons : {a b : Option Text} {xs ys : List (Option Text)} → a ∷ xs ≡ b ∷ ys → (a ≡ b) × (xs ≡ ys)
texts_cons e = (cc, cc)

texts_append : {V : Type 0} (names : List Text) (s t : Scope V) → texts_of names (s ++ t) ≡ texts_of names s ++ texts_of names t
texts_append names [] t = refl
texts_append names (x ∷ s) t = ap (λ z. slice_get names x.0 ∷ z) (texts_append names s t)

somes_append : (ts us : List Text) → map Some (ts ++ us) ≡ map Some ts ++ map Some us
somes_append [] us = refl
somes_append (t ∷ ts) us = ap (λ z. Some t ∷ z) (somes_append ts us)

texts_resolved : {V : Type 0} (names : List Text) (n : ℕ) (v : V) (s : Scope V) → texts_of names (resolved n v s) ≡ texts_of names s
texts_resolved names n v [] = refl
texts_resolved names n v (x ∷ s) = ap (λ z. slice_get names x.0 ∷ z) (texts_resolved names n v s)

-- ---- a scope with these texts
module _ {V : Type 0} (names : List Text) where
  -- a name of the scope has one of the texts
  in_texts : (s : Scope V) (ts : List Text) → texts_of names s ≡ map Some ts → (n : ℕ) (e : Entry V) → find n s ≡ Some e → (t : Text) × (slice_get names n ≡ Some t) × (among t ts ≡ true)
  in_texts [] ts o n e f = absurd (cc)
  in_texts (x ∷ s) [] o n e f = absurd (cc)
  in_texts (x ∷ s) (t ∷ ts) o n e f = let c = texts_cons o in go c.0 (nat_eq x.0 n) refl f (in_texts s ts c.1 n e)
    where
      weaker : (b c : Bool) → c ≡ true → cond b true c ≡ true
      weaker true c h = refl
      weaker false c h = h

      go : slice_get names x.0 ≡ Some t → (b : Bool) → nat_eq x.0 n ≡ b → cond b (Some x.1) (find n s) ≡ Some e
          → (find n s ≡ Some e → (u : Text) × (slice_get names n ≡ Some u) × (among u ts ≡ true)) → (u : Text) × (slice_get names n ≡ Some u) × (among u (t ∷ ts) ≡ true)
      go k true d g ih = (t, ap (slice_get names) (sym (eqb-true x.0 n d)) ∙ k, ap (λ b. cond b true (among t ts)) (same_text_refl t))
      go k false d g ih = let r = ih g in (r.0, r.1, weaker (same_text t r.0) (among r.0 ts) r.2)

  -- one of the texts is that of a name of the scope
  of_texts : (s : Scope V) (ts : List Text) → texts_of names s ≡ map Some ts → (t : Text) → among t ts ≡ true → (n : ℕ) × (slice_get names n ≡ Some t) × (e : Entry V) × (find n s ≡ Some e)
  of_texts s [] o t h = absurd (true≢false (sym h))
  of_texts [] (u ∷ ts) o t h = absurd (cc)
  of_texts (x ∷ s) (u ∷ ts) o t h = let c = texts_cons o in go c.0 (same_text u t) refl h (of_texts s ts c.1 t)
    where
      further : (n : ℕ) (e : Entry V) → find n s ≡ Some e → (b : Bool) → (d : Entry V) × (cond b (Some x.1) (find n s) ≡ Some d)
      further n e f true = (x.1, refl)
      further n e f false = (e, f)

      go : slice_get names x.0 ≡ Some u → (b : Bool) → same_text u t ≡ b → cond b true (among t ts) ≡ true
          → (among t ts ≡ true → (n : ℕ) × (slice_get names n ≡ Some t) × (e : Entry V) × (find n s ≡ Some e)) → (n : ℕ) × (slice_get names n ≡ Some t) × (e : Entry V) × (find n (x ∷ s) ≡ Some e)
      go k true d g ih = (x.0, k ∙ ap Some (same_text_true u t d), x.1, ap (λ b. cond b (Some x.1) (find x.0 s)) (eq-eqb x.0 x.0 refl))
      go k false d g ih = let r = ih g in let w = further r.0 r.2 r.3 (nat_eq x.0 r.0) in (r.0, r.1, w.0, w.1)

  -- if texts occur once, so do names
  texts_apart : (s : Scope V) (ts : List Text) → texts_of names s ≡ map Some ts → Once ts → are_apart s ≡ true
  texts_apart [] ts o once = refl
  texts_apart (x ∷ s) [] o once = absurd (cc)
  texts_apart (x ∷ s) (t ∷ ts) o once = let c = texts_cons o in ap (λ b. cond b false (are_apart s)) (none c.0 c.1 (find x.0 s) refl) ∙ texts_apart s ts c.1 once.1
    where
      none : slice_get names x.0 ≡ Some t → texts_of names s ≡ map Some ts → (q : Option (Entry V)) → find x.0 s ≡ q → is_some q ≡ false
      none k c None f = refl
      none k c (Some e) f = let r = in_texts s ts c x.0 e f in absurd (true≢false (sym r.2 ∙ ap (λ u. among u ts) (some_eq (sym r.1 ∙ k)) ∙ once.0))

  -- a name that the scope lacks has none of the texts
  not_in_texts : AreDistinct names → (s : Scope V) (ts : List Text) → texts_of names s ≡ map Some ts → (n : ℕ) (t : Text) → slice_get names n ≡ Some t → find n s ≡ None → among t ts ≡ false
  not_in_texts distinct s ts o n t k f = go (among t ts) refl
    where
      go : (b : Bool) → among t ts ≡ b → b ≡ false
      go false e = refl
      go true e = let r = of_texts s ts o t e in let same : r.0 ≡ n = distinct r.0 n t r.1 k in absurd (no (sym r.3 ∙ ap (λ m. find m s) same ∙ f))
        where
          no : {e : Entry V} → Some e ≡ None → ⊥
          no h = cc

-- ---- what a scope has once a name is defined in it
module _ {V : Type 0} where
  find_resolved : (l n : ℕ) (v : V) (s : Scope V) → find l (resolved n v s) ≡ option_map (λ e. cond (nat_eq l n) (entries.Defined v) e) (find l s)
  find_resolved l n v [] = refl
  find_resolved l n v (x ∷ s) = go (nat_eq x.0 l) refl (find_resolved l n v s)
    where
      go : (b : Bool) → nat_eq x.0 l ≡ b → find l (resolved n v s) ≡ option_map (λ e. cond (nat_eq l n) (entries.Defined v) e) (find l s)
          → cond b (Some (cond (nat_eq x.0 n) (entries.Defined v) x.1)) (find l (resolved n v s)) ≡ option_map (λ e. cond (nat_eq l n) (entries.Defined v) e) (cond b (Some x.1) (find l s))
      go true d ih = ap (λ i. Some (cond (nat_eq i n) (entries.Defined v) x.1)) (eqb-true x.0 l d)
      go false d ih = ih

  -- the name has its definition, and each other name what it had
  pub find_defined : (l n : ℕ) (v : V) (s : Scope V) → find l (defined n v s) ≡ cond (nat_eq l n) (Some (entries.Defined v)) (find l s)
  find_defined l n v s = go (find n s) refl
    where
      new : (b c : Bool) → nat_eq l n ≡ b → nat_eq n l ≡ c → find n s ≡ None → option_or (find l s) (cond c (Some (entries.Defined v)) None) ≡ cond b (Some (entries.Defined v)) (find l s)
      new true true d e f = ap (λ o. option_or o (Some (entries.Defined v))) (ap (λ i. find i s) (eqb-true l n d) ∙ f)
      new true false d e f = absurd (true≢false (sym (eq-eqb n l (sym (eqb-true l n d))) ∙ e))
      new false true d e f = absurd (true≢false (sym (eq-eqb l n (sym (eqb-true n l e))) ∙ d))
      new false false d e f = same (find l s)
        where
          same : (o : Option (Entry V)) → option_or o None ≡ o
          same None = refl
          same (Some x) = refl

      old : (e : Entry V) (b : Bool) → nat_eq l n ≡ b → find n s ≡ Some e → option_map (λ e. cond b (entries.Defined v) e) (find l s) ≡ cond b (Some (entries.Defined v)) (find l s)
      old e true d f = ap (option_map (λ e. entries.Defined v)) (ap (λ i. find i s) (eqb-true l n d) ∙ f)
      old e false d f = same (find l s)
        where
          same : (o : Option (Entry V)) → option_map (λ e. e) o ≡ o
          same None = refl
          same (Some x) = refl

      go : (o : Option (Entry V)) → find n s ≡ o → find l (defined_from n v s o) ≡ cond (nat_eq l n) (Some (entries.Defined v)) (find l s)
      go None f = find_mentioned l n (entries.Defined v) s ∙ new (nat_eq l n) (nat_eq n l) refl refl f
      go (Some e) f = find_resolved l n v s ∙ old e (nat_eq l n) refl f

-- ---- what names mean
module _ {V : Type 0} where
  -- the order of a scope, by the names of the theory
  order_of : {names : List Text} {made : List (Place × V)} {fs : List Fact} {s : Scope V} → Means names made fs s → texts_of names s ≡ map Some (names_from [] fs)
  order_of {fs = fs} m = m.order ∙ ap (map Some) (names_mentioned [] fs)

  ordered : (names : List Text) (fs : List Fact) (s : Scope V) → texts_of names s ≡ map Some (names_from [] fs) → texts_of names s ≡ map Some (mentioned_in fs)
  ordered names fs s e = e ∙ ap (map Some) (sym (names_mentioned [] fs))

  -- one more fact about a name that is among them already
  known_order : (names : List Text) (fs : List Fact) (s s' : Scope V) (f : Fact) → texts_of names s ≡ map Some (names_from [] fs) → among (name_of f) (names_from [] fs) ≡ true → texts_of names s' ≡ texts_of names s
      → texts_of names s' ≡ map Some (mentioned_in (fs ++ f ∷ []))
  known_order names fs s s' f o h e = ordered names (fs ++ f ∷ []) s'
      (e ∙ o ∙ ap (map Some) (sym (names-append [] fs f ∙ ap (λ b. cond b (names_from [] fs) (names_from [] fs ++ name_of f ∷ [])) h)))

  -- one more fact about a name that is new
  new_order : (names : List Text) (fs : List Fact) (s : Scope V) (f : Fact) (n : ℕ) (e : Entry V) → texts_of names s ≡ map Some (names_from [] fs) → among (name_of f) (names_from [] fs) ≡ false
      → slice_get names n ≡ Some (name_of f) → texts_of names (mentioned n e s) ≡ map Some (mentioned_in (fs ++ f ∷ []))
  new_order names fs s f n e o h k = ordered names (fs ++ f ∷ []) (mentioned n e s)
      (texts_append names s ((n, e) ∷ [])
      ∙ ap (λ z. z ++ slice_get names n ∷ []) o ∙ ap (λ z. map Some (names_from [] fs) ++ z ∷ []) k
      ∙ sym (somes_append (names_from [] fs) (name_of f ∷ []))
      ∙ ap (map Some) (sym (names-append [] fs f ∙ ap (λ b. cond b (names_from [] fs) (names_from [] fs ++ name_of f ∷ [])) h)))

  -- a name has a definition in the scope exactly where the facts have one
  meant_defined : (made : List (Place × V)) (o : Option Place) (x : Option (Entry V)) → IsMeant made o x → is_defined x ≡ is_some o
  meant_defined made None None m = refl
  meant_defined made None (Some (entries.Pending h)) m = refl
  meant_defined made None (Some (entries.Defined v)) m = absurd m
  meant_defined made (Some p) None m = absurd m
  meant_defined made (Some p) (Some (entries.Pending h)) m = absurd m
  meant_defined made (Some p) (Some (entries.Defined v)) m = refl

  -- nothing is mentioned
  pub means_nothing : (names : List Text) (made : List (Place × V)) → Means names made [] []
  means_nothing names made = record { order = refl; each = λ n t k. tt }

  -- more is made
  meant_grown : (made made' : List (Place × V)) (o : Option Place) (x : Option (Entry V)) → ((p : Place) (v : V) → Among (p, v) made → Among (p, v) made') → IsMeant made o x → IsMeant made' o x
  meant_grown made made' None None more m = tt
  meant_grown made made' None (Some (entries.Pending h)) more m = tt
  meant_grown made made' None (Some (entries.Defined v)) more m = m
  meant_grown made made' (Some p) None more m = m
  meant_grown made made' (Some p) (Some (entries.Pending h)) more m = m
  meant_grown made made' (Some p) (Some (entries.Defined v)) more m = more p v m

  pub means_grown : (names : List Text) (made made' : List (Place × V)) (fs : List Fact) (s : Scope V) → ((p : Place) (v : V) → Among (p, v) made → Among (p, v) made') → Means names made fs s → Means names made' fs s
  means_grown names made made' fs s more m = record { order = m.order; each = λ n t k. meant_grown made made' (lookup t fs) (find n s) more (m.each n t k) }

  module _ {names : List Text} {made : List (Place × V)} {fs : List Fact} {s : Scope V} (m : Means names made fs s) where
    -- a name is defined in the scope exactly where the facts define it
    pub is_defined_means : (n : ℕ) (t : Text) → slice_get names n ≡ Some t → is_defined (find n s) ≡ is_some (lookup t fs)
    is_defined_means n t k = meant_defined made (lookup t fs) (find n s) (m.each n t k)

    -- a name that the scope has is among those of the facts
    mentioned_there : (n : ℕ) (t : Text) (e : Entry V) → slice_get names n ≡ Some t → find n s ≡ Some e → among t (names_from [] fs) ≡ true
    mentioned_there n t e k f = let r = in_texts names s (names_from [] fs) (order_of m) n e f in ap (λ u. among u (names_from [] fs)) (some_eq (sym k ∙ r.1)) ∙ r.2

    -- a name of the scope is used once more
    pub means_known_use : (n : ℕ) (t : Text) (u : User) (e : Entry V) → find n s ≡ Some e → slice_get names n ≡ Some t → Means names made (fs ++ uses t u ∷ []) s
    means_known_use n t u e f k = record {
      order = known_order names fs s s (uses t u) (order_of m) (mentioned_there n t e k f) refl;
      each = λ l r j. subst (λ o. IsMeant made o (find l s)) (sym (lookup-use r t u fs)) (m.each l r j);
    }

    -- a name that is new in the scope is used, and waits
    pub means_new_use : AreDistinct names → (n : ℕ) (t : Text) (u : User) (h : V) → find n s ≡ None → slice_get names n ≡ Some t → Means names made (fs ++ uses t u ∷ []) (mentioned n (entries.Pending h) s)
    means_new_use distinct n t u h f k = record {
      order = new_order names fs s (uses t u) n (entries.Pending h) (order_of m) (not_in_texts names distinct s (names_from [] fs) (order_of m) n t k f) k;
      each = λ l r j. subst (λ o. IsMeant made o (find l (mentioned n (entries.Pending h) s))) (sym (lookup-use r t u fs))
          (subst (IsMeant made (lookup r fs)) (sym (find_mentioned l n (entries.Pending h) s)) (go (lookup r fs) (find l s) (nat_eq n l) (m.each l r j)));
    }
      where
        go : (o : Option Place) (x : Option (Entry V)) (b : Bool) → IsMeant made o x → IsMeant made o (option_or x (cond b (Some (entries.Pending h)) None))
        go o (Some x) b i = i
        go (Some p) None b i = absurd i
        go None None true i = tt
        go None None false i = tt

    -- a name that has no definition in the scope gets one
    pub means_definition : AreDistinct names → (n : ℕ) (t : Text) (p : Place) (v : V) → is_defined (find n s) ≡ false → Among (p, v) made → slice_get names n ≡ Some t → Means names made (fs ++ defines t p ∷ []) (defined n v s)
    means_definition distinct n t p v undefined a k = record { order = order (find n s) refl; each = λ l r j. each l r j (nat_eq l n) refl }
      where
        order : (o : Option (Entry V)) → find n s ≡ o → texts_of names (defined_from n v s o) ≡ map Some (mentioned_in (fs ++ defines t p ∷ []))
        order None f = new_order names fs s (defines t p) n (entries.Defined v) (order_of m) (not_in_texts names distinct s (names_from [] fs) (order_of m) n t k f) k
        order (Some e) f = known_order names fs s (resolved n v s) (defines t p) (order_of m) (mentioned_there n t e k f) (texts_resolved names n v s)

        none : (o : Option Place) → is_some o ≡ false → o ≡ None
        none None e = refl
        none (Some q) e = absurd (true≢false e)

        here : lookup t fs ≡ None
        here = none (lookup t fs) (sym (is_defined_means n t k) ∙ undefined)

        each : (l : ℕ) (r : Text) → slice_get names l ≡ Some r → (b : Bool) → nat_eq l n ≡ b → IsMeant made (lookup r (fs ++ defines t p ∷ [])) (find l (defined n v s))
        each l r j true d =
            let same : r ≡ t = some_eq (sym j ∙ ap (slice_get names) (eqb-true l n d) ∙ k) in
            let found : lookup r (fs ++ defines t p ∷ []) ≡ Some p = ap (λ x. lookup x (fs ++ defines t p ∷ [])) same ∙ lookup-define t t p fs ∙ ap (λ o. or_else o (cond (same_text t t) (Some p) None)) here ∙ ap (λ b. cond b (Some p) None) (same_text_refl t) in
            subst (λ o. IsMeant made o (find l (defined n v s))) (sym found) (subst (IsMeant made (Some p)) (sym (find_defined l n v s ∙ ap (λ b. cond b (Some (entries.Defined v)) (find l s)) d)) a)
        each l r j false d =
            let other : same_text t r ≡ false = other_text t r (λ e. true≢false (sym (eq-eqb l n (distinct l n t (j ∙ ap Some (sym e)) k)) ∙ d)) in
            let found : lookup r (fs ++ defines t p ∷ []) ≡ lookup r fs = lookup-define r t p fs ∙ ap (λ b. or_else (lookup r fs) (cond b (Some p) None)) other ∙ or_else-none (lookup r fs) in
            subst (λ o. IsMeant made o (find l (defined n v s))) (sym found) (subst (IsMeant made (lookup r fs)) (sym (find_defined l n v s ∙ ap (λ b. cond b (Some (entries.Defined v)) (find l s)) d)) (m.each l r j))

    -- what the scope binds as it ends: a use, and the definition that its name has
    pub bound_means : (u : User) (p : Place) → Among (u, p) (bound_in fs fs)
        → (n : ℕ) × (t : Text) × (slice_get names n ≡ Some t) × Among (uses t u) fs × (v : V) × (find n s ≡ Some (entries.Defined v)) × Among (p, v) made
    bound_means u p a =
        let b = bound_from fs fs u p a in
        let r = of_texts names s (names_from [] fs) (order_of m) b.0 (used_among b.0 u [] fs b.1) in
        let w = meant r.0 (find r.0 s) refl (subst (λ o. IsMeant made o (find r.0 s)) b.2 (m.each r.0 b.0 r.1)) in
        (r.0, b.0, r.1, b.1, w.0, w.1, w.2)
      where
        meant : (n : ℕ) (x : Option (Entry V)) → find n s ≡ x → IsMeant made (Some p) x → (v : V) × (find n s ≡ Some (entries.Defined v)) × Among (p, v) made
        meant n None f i = absurd i
        meant n (Some (entries.Pending h)) f i = absurd i
        meant n (Some (entries.Defined v)) f i = (v, f, i)

    -- ---- names that are longer
    -- each name of the scope has its text
    text_there : (n : ℕ) (e : Entry V) → find n s ≡ Some e → (t : Text) × (slice_get names n ≡ Some t)
    text_there n e f = let r = in_texts names s (names_from [] fs) (order_of m) n e f in (r.0, r.1)

    module _ (more : List Text) (keeps : KeepsNames names more) (distinct : AreDistinct more) where
      -- a name that is used had its number before
      pub used_before : (n : ℕ) (t : Text) (u : User) → slice_get more n ≡ Some t → Among (uses t u) fs → slice_get names n ≡ Some t
      used_before n t u k a =
          let r = of_texts names s (names_from [] fs) (order_of m) t (used_among t u [] fs a) in
          ap (slice_get names) (distinct n r.0 t k (keeps r.0 t r.1)) ∙ r.1

      texts_kept : (x : Scope V) (ts : List Text) → texts_of names x ≡ map Some ts → texts_of more x ≡ map Some ts
      texts_kept [] ts o = o
      texts_kept (e ∷ x) [] o = absurd (cc)
      texts_kept (e ∷ x) (t ∷ ts) o = let c = texts_cons o in let k = keeps e.0 t c.0 in let ih = texts_kept x ts c.1 in λ i. k i ∷ ih i

      -- more names are kept
      pub means_named : Means more made fs s
      means_named = record { order = texts_kept s (mentioned_in fs) m.order; each = λ n t k. go n t k (find n s) refl }
        where
          none : (t : Text) → among t (names_from [] fs) ≡ false → IsMeant made (lookup t fs) None
          none t h = subst (λ o. IsMeant made o None) (sym (not_mentioned t [] fs h)) tt

          go : (n : ℕ) (t : Text) → slice_get more n ≡ Some t → (x : Option (Entry V)) → find n s ≡ x → IsMeant made (lookup t fs) x
          go n t k None f = none t (not_in_texts more distinct s (names_from [] fs) (texts_kept s (names_from [] fs) (order_of m)) n t k f)
          go n t k (Some e) f =
              let r = text_there n e f in
              let same : r.0 ≡ t = some_eq (sym (keeps n r.0 r.1) ∙ k) in
              subst (IsMeant made (lookup t fs)) f (m.each n t (r.1 ∙ ap Some same))

-- ---- what a scope leaves without a definition
-- a number and a text that are of one name, or none
abbrev SameName : List Text → Option ℕ → Option Text → Type 0
SameName names None None = Unit {0}
SameName names (Some n) (Some t) = slice_get names n ≡ Some t
SameName names _ _ = ⊥

module _ {V : Type 0} (names : List Text) (made : List (Place × V)) (fs : List Fact) where
  -- the first name that waits is the first text without a definition
  first_waits : (s : Scope V) (ts : List Text) → texts_of names s ≡ map Some ts → are_apart s ≡ true
      → ((n : ℕ) (t : Text) → slice_get names n ≡ Some t → (e : Entry V) → find n s ≡ Some e → IsMeant made (lookup t fs) (Some e))
      → SameName names (first_pending s) (first_undefined fs ts)
  first_waits [] [] o apart each = tt
  first_waits [] (t ∷ ts) o apart each = absurd (cc)
  first_waits (x ∷ s) [] o apart each = absurd (cc)
  first_waits (x ∷ s) (t ∷ ts) o apart each =
      let c = texts_cons o in
      go c.0 x.1 (lookup t fs) (each x.0 t c.0 x.1 (ap (λ b. cond b (Some x.1) (find x.0 s)) (eq-eqb x.0 x.0 refl)))
      (first_waits s ts c.1 (apart_tail x s apart) (λ n r k e f. each n r k e (ap (λ b. cond b (Some x.1) (find n s)) (not_again x s n e apart f) ∙ f)))
    where
      go : slice_get names x.0 ≡ Some t → (e : Entry V) (o : Option Place) → IsMeant made o (Some e) → SameName names (first_pending s) (first_undefined fs ts)
          → SameName names (first_pending ((x.0, e) ∷ s)) (or_else (undefined_of o t) (first_undefined fs ts))
      go k (entries.Defined v) None m ih = absurd m
      go k (entries.Defined v) (Some p) m ih = ih
      go k (entries.Pending h) None m ih = k
      go k (entries.Pending h) (Some p) m ih = absurd m

  -- the scope has no name that waits, and then nothing is left unresolved; or its first one is the first that is left unresolved
  abbrev pub Leaves : ℕ → Option ℕ → Type 0
  Leaves a None = unresolved a fs fs ≡ []
  Leaves a (Some n) = (t : Text) × (slice_get names n ≡ Some t) × (rest : List Failure) × (unresolved a fs fs ≡ unresolved_name a t ∷ rest)

  pub pending_means : (s : Scope V) → Means names made fs s → (a : ℕ) → Leaves a (first_pending s)
  pending_means s m a = go (first_pending s) (first_undefined fs (names_from [] fs)) waits (unresolved a fs fs) refl (unresolved_first a fs)
    where
      waits : SameName names (first_pending s) (first_undefined fs (names_from [] fs))
      waits = first_waits s (names_from [] fs) (order_of m) (texts_apart names s (names_from [] fs) (order_of m) (once_names [] fs tt))
          (λ n t k e f. subst (IsMeant made (lookup t fs)) f (m.each n t k))

      go : (o : Option ℕ) (q : Option Text) → SameName names o q → (us : List Failure) → unresolved a fs fs ≡ us → head (unresolved a fs fs) ≡ option_map (unresolved_name a) q → Leaves a o
      go None None same [] e h = e
      go None None same (u ∷ us) e h = let k : Some u ≡ None = ap head (sym e) ∙ h in absurd (cc)
      go (Some n) (Some t) same [] e h = let k : None ≡ Some (unresolved_name a t) = ap head (sym e) ∙ h in absurd (cc)
      go (Some n) (Some t) same (u ∷ us) e h = (t, same, us, e ∙ ap (λ f. f ∷ us) (some_eq (ap head (sym e) ∙ h)))
      go None (Some t) same us e h = absurd same
      go (Some n) None same us e h = absurd same
