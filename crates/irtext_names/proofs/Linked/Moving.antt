-- Links of names to the machine's facts, where uses in place move: names are used and defined.
use Rattle.std.proofs.Common.{◌≡◌, ◌⊎◌, ◌∙◌, inl, inr, ℕ, suc, refl, sym, ap, Bool, true, false, nat_eq, cond, eqb-true, eq-eqb, append-nil, List, [], ◌∷◌, ◌++◌, Option, Some, None, slice_get}
use Rattle.std.specs.Option.{option_map}
use Rattle.irtext_base.specs.Text.{Text}
use Rattle.irtext_graph.specs.declared.object.Defined.{Defined}
use Rattle.irtext_graph.specs.declared.object.Site.{Site}
use Rattle.irtext_graph.specs.Chained.{Among}
use Rattle.irtext_graph.specs.Graph.{GraphView}
use Rattle.irtext_graph.proofs.Preorders.{among_left, among_right}
use Rattle.irtext_scopes.specs.declared.scopes.Entry.{Entry}
use Rattle.irtext_scopes.specs.declared.scopes.Entry.TheVariants.{Defined as IsMeantBy, Pending}
use Rattle.irtext_scopes.specs.Names.{AreDistinct}
use Rattle.irtext_scopes.specs.Scopes.{Scope, find, innermost, in_innermost, is_defined, mentioned, defined, defined_from, resolved, placeholder_of, value_of}
use Rattle.irtext_grammar.specs.Names.Script.{Place, User}
use Rattle.irtext_grammar.specs.Names.Scopes.{uses, defines}
use Rattle.irtext_grammar.specs.Names.TextScopes.{Fact}
use Rattle.irtext_grammar.specs.Names.History.{onto}
use Rattle.irtext_names.specs.Linked.{Means, AreUsed, AreLinked, Holds}
use Rattle.irtext_names.specs.Tied.{entry_at}
use Rattle.irtext_names.proofs.Entries.{mentioned_here, mentioned_stays, defined_stays}
use Rattle.irtext_names.proofs.Linked.InPlace.{Moves}

pub among_split : {U : Type 0} (u : U) (xs ys : List U) → Among u (xs ++ ys) → Among u xs ⊎ Among u ys
among_split u [] ys m = inr m
among_split u (x ∷ xs) ys m = elim m [ inl e ↦ inl (inl e) | inr n ↦ elim (among_split u xs ys n) [ inl a ↦ inl (inr a) | inr b ↦ inr b ] ]

pub onto_nothing : (fss : List (List Fact)) → onto fss [] ≡ fss
onto_nothing [] = refl
onto_nothing (fs ∷ rest) = rw (append-nil fs) refl

module _ {V : Type 0} where
  resolved_here : (n : ℕ) (v : V) (e : Entry V) (s : Scope V) → find n s ≡ Some e → find n (resolved n v s) ≡ Some (IsMeantBy v)
  resolved_here n v e [] f = absurd (cc)
  resolved_here n v e (x ∷ s) f = go (nat_eq x.0 n) f (resolved_here n v e s)
    where
      go : (b : Bool) → cond b (Some x.1) (find n s) ≡ Some e → (find n s ≡ Some e → find n (resolved n v s) ≡ Some (IsMeantBy v)) → cond b (Some (cond b (IsMeantBy v) x.1)) (find n (resolved n v s)) ≡ Some (IsMeantBy v)
      go true f ih = refl
      go false f ih = ih f

  -- a name that was defined refers to its definition
  pub defined_here : (n : ℕ) (v : V) (s : Scope V) → find n (defined n v s) ≡ Some (IsMeantBy v)
  defined_here n v s = go (find n s) refl
    where
      go : (o : Option (Entry V)) → find n s ≡ o → find n (defined_from n v s o) ≡ Some (IsMeantBy v)
      go None e = mentioned_here n (IsMeantBy v) s e
      go (Some x) e = resolved_here n v x s e

  -- a name without a definition waits, where it is known
  pub undefined_waits : (e : Entry V) → is_defined (Some e) ≡ false → placeholder_of (Some e) ≡ Some (value_of e)
  undefined_waits (IsMeantBy v) f = absurd (cc)
  undefined_waits (Pending h) f = refl

module _ {O B T V : Type 0} (of : V → Defined) (names : List Text) (sites : List (User × Site)) {g k : GraphView (Option O) B T} {o : Option Defined} {y : Defined} (m : Moves g k o y) (held held' : List (User × Defined)) (grown : (x : User × Defined) → Among x held → Among x held') where
  pub holds_moves : (u : User) (d : Defined) → (o ≡ Some d → ⊥) → Holds sites held g u d → Holds sites held' k u d
  holds_moves u d n (inl h) = inl (h.0, h.1, m.same h.0 d n h.2)
  holds_moves u d n (inr h) = inr (grown (u, d) h)

  used_moves : (fs : List Fact) (s : Scope V) → ((n : ℕ) (e : Entry V) → find n s ≡ Some e → o ≡ Some (of (value_of e)) → ⊥) → AreUsed names of sites held g fs s → AreUsed names of sites held' k fs s
  used_moves fs s apart a = λ n t u is among. let r = a n t u is among in (r.0, r.1, holds_moves u (of (value_of r.0)) (apart n r.0 r.1) r.2)

  -- scopes are unchanged, and what their names refer to is not lost
  pub links_move : (made : List (Place × V)) (fss : List (List Fact)) (ss : List (Scope V)) → ((i n : ℕ) (e : Entry V) → entry_at i n ss ≡ Some e → o ≡ Some (of (value_of e)) → ⊥)
      → AreLinked names of made sites held g fss ss → AreLinked names of made sites held' k fss ss
  links_move made [] [] apart l = tt
  links_move made [] (s ∷ ss) apart l = l
  links_move made (fs ∷ rest) [] apart l = l
  links_move made (fs ∷ rest) (s ∷ ss) apart l = (l.0, used_moves fs s (λ n e f. apart 0 n e f) l.1, links_move made rest ss (λ i n e f. apart (suc i) n e f) l.2)

module _ {O B T V : Type 0} (of : V → Defined) (names : List Text) (distinct : AreDistinct names) (sites : List (User × Site)) (n : ℕ) (t : Text) (is : slice_get names n ≡ Some t) where
  -- ---- a use
  module _ {g k : GraphView (Option O) B T} {y : Defined} (m : Moves g k None y) (held : List (User × Defined)) (u : User) where
    -- each user in the innermost scope, and the new one, which is in hand
    used_once_more : (fs : List Fact) (s s' : Scope V) (e : Entry V) → find n s' ≡ Some e → ((l : ℕ) (x : Entry V) → find l s ≡ Some x → find l s' ≡ Some x)
        → AreUsed names of sites held g fs s → AreUsed names of sites (held ++ (u, of (value_of e)) ∷ []) k (fs ++ uses t u ∷ []) s'
    used_once_more fs s s' e here stays a = λ l t' w name among. elim (among_split (uses t' w) fs (uses t u ∷ []) among) [
      | inl old ↦ let r = a l t' w name old in
          (r.0, stays l r.0 r.1, holds_moves of names sites m held (held ++ (u, of (value_of e)) ∷ []) (λ x h. among_left x held ((u, of (value_of e)) ∷ []) h) w (of (value_of r.0)) (λ z. cc) r.2)
      | inr last ↦ elim last [
        | inl same ↦
            let tt' : t' ≡ t = cc in
            let uu' : w ≡ u = cc in
            let ln : l ≡ n = distinct l n t (rw (← tt') name) is in
            (e, ap (λ z. find z s') ln ∙ here, inr (among_right (w, of (value_of e)) held ((u, of (value_of e)) ∷ []) (inl (ap (λ z. (z, of (value_of e))) uu'))))
        | inr none ↦ absurd none
      ]
    ]

    pub links_known_use : (made : List (Place × V)) (fss : List (List Fact)) (ss : List (Scope V)) (e : Entry V) → find n (innermost ss) ≡ Some e
        → ((fs : List Fact) → Means names made fs (innermost ss) → Means names made (fs ++ uses t u ∷ []) (innermost ss))
        → AreLinked names of made sites held g fss ss → AreLinked names of made sites (held ++ (u, of (value_of e)) ∷ []) k (onto fss (uses t u ∷ [])) ss
    links_known_use made [] [] e f means l = tt
    links_known_use made [] (s ∷ ss) e f means l = l
    links_known_use made (fs ∷ rest) [] e f means l = l
    links_known_use made (fs ∷ rest) (s ∷ ss) e f means l = (
      means fs l.0,
      used_once_more fs s s e f (λ i x h. h) l.1,
      links_move of names sites m held (held ++ (u, of (value_of e)) ∷ []) (λ x h. among_left x held ((u, of (value_of e)) ∷ []) h) made rest ss (λ i j x h z. cc) l.2,
    )

    pub links_new_use : (made : List (Place × V)) (fss : List (List Fact)) (ss : List (Scope V)) (h : V) → find n (innermost ss) ≡ None
        → ((fs : List Fact) → Means names made fs (innermost ss) → Means names made (fs ++ uses t u ∷ []) (mentioned n (Pending h) (innermost ss)))
        → AreLinked names of made sites held g fss ss → AreLinked names of made sites (held ++ (u, of h) ∷ []) k (onto fss (uses t u ∷ [])) (in_innermost (mentioned n (Pending h)) ss)
    links_new_use made [] [] h f means l = tt
    links_new_use made [] (s ∷ ss) h f means l = l
    links_new_use made (fs ∷ rest) [] h f means l = l
    links_new_use made (fs ∷ rest) (s ∷ ss) h f means l = (
      means fs l.0,
      used_once_more fs s (mentioned n (Pending h) s) (Pending h) (mentioned_here n (Pending h) s f) (λ i x z. mentioned_stays i n (Pending h) x s z) l.1,
      links_move of names sites m held (held ++ (u, of h) ∷ []) (λ x z. among_left x held ((u, of h) ∷ []) z) made rest ss (λ i j x z w. cc) l.2,
    )

  -- ---- a definition
  module _ {g k : GraphView (Option O) B T} (v : V) (p : Place) where
    used_defined : {o : Option Defined} → Moves g k o (of v) → (fs : List Fact) (s : Scope V) → is_defined (find n s) ≡ false → o ≡ option_map of (placeholder_of (find n s))
        → ((l : ℕ) (e : Entry V) → find l s ≡ Some e → (l ≡ n → ⊥) → o ≡ Some (of (value_of e)) → ⊥)
        → AreUsed names of sites [] g fs s → AreUsed names of sites [] k (fs ++ defines t p ∷ []) (defined n v s)
    used_defined {o} m fs s free is_o apart a = λ l t' w name among. elim (among_split (uses t' w) fs (defines t p ∷ []) among) [
      | inl old ↦ let r = a l t' w name old in go l w r.0 r.1 r.2 (nat_eq l n) refl
      | inr last ↦ elim last [ inl same ↦ absurd (cc) | inr none ↦ absurd none ]
    ]
      where
        late : (w : User) (e : Entry V) → find n s ≡ Some e → Holds sites [] g w (of (value_of e)) → Holds sites [] k w (of v)
        late w e f (inr h) = absurd h
        late w e f (inl h) = inl (h.0, h.1, m.late h.0 (of (value_of e)) (is_o ∙ ap (λ z. option_map of (placeholder_of z)) f ∙ ap (option_map of) (undefined_waits e (sym (ap is_defined f) ∙ free))) h.2)

        go : (l : ℕ) (w : User) (e : Entry V) → find l s ≡ Some e → Holds sites [] g w (of (value_of e)) → (b : Bool) → nat_eq l n ≡ b
            → (e' : Entry V) × (find l (defined n v s) ≡ Some e') × Holds sites [] k w (of (value_of e'))
        go l w e f h true q = let same : l ≡ n = eqb-true l n q in
            (IsMeantBy v, ap (λ z. find z (defined n v s)) same ∙ defined_here n v s, late w e (ap (λ z. find z s) (sym same) ∙ f) h)
        go l w e f h false q =
            let ne = λ (same : l ≡ n). let r = eq-eqb l n same in absurd (cc) in
            (e, defined_stays l n v e s f ne, holds_moves of names sites m [] [] (λ x z. z) w (of (value_of e)) (apart l e f ne) h)

    pub links_defined : {o : Option Defined} → Moves g k o (of v) → (made : List (Place × V)) (fss : List (List Fact)) (ss : List (Scope V)) → is_defined (find n (innermost ss)) ≡ false
        → o ≡ option_map of (placeholder_of (find n (innermost ss)))
        → ((i l : ℕ) (e : Entry V) → entry_at i l ss ≡ Some e → (i ≡ 0 → l ≡ n → ⊥) → o ≡ Some (of (value_of e)) → ⊥)
        → ((fs : List Fact) → Means names made fs (innermost ss) → Means names made (fs ++ defines t p ∷ []) (defined n v (innermost ss)))
        → AreLinked names of made sites [] g fss ss → AreLinked names of made sites [] k (onto fss (defines t p ∷ [])) (in_innermost (defined n v) ss)
    links_defined m made [] [] free is_o apart means l = tt
    links_defined m made [] (s ∷ ss) free is_o apart means l = l
    links_defined m made (fs ∷ rest) [] free is_o apart means l = l
    links_defined m made (fs ∷ rest) (s ∷ ss) free is_o apart means l = (
      means fs l.0,
      used_defined m fs s free is_o (λ i e f ne. apart 0 i e f (λ z. ne)) l.1,
      links_move of names sites m [] [] (λ x z. z) made rest ss (λ i j e f. apart (suc i) j e f (λ z w. cc)) l.2,
    )
