-- Regions that begin and end take names from agreement with a state of the machine to agreement with the state after the event.
use Rattle.std.proofs.Common.{◌≡◌, ◌∙◌, ℕ, zero, suc, ◌<◌, refl, sym, ap, subst, inl, inr, ⊎_elim, Bool, true, false, Result, Ok, Err, OnOk, IfNone, IfSome, Option, Some, None, List, [], ◌∷◌, ◌++◌, length, slice_get, true≢false}
use Rattle.std.specs.Prelude.{◌↔◌, ◌⊎◌}
use Rattle.std.specs.Option.{option_or}
use Rattle.std.proofs.lemmas.Option.{slice_get-get_or}
use Rattle.irtext_base.specs.Text.{Text}
use Rattle.irtext_graph.specs.declared.arena.Ptr.{Ptr}
use Rattle.irtext_graph.specs.declared.object.BasicBlock.{BasicBlock}
use Rattle.irtext_graph.specs.declared.object.Value.{Value}
use Rattle.irtext_graph.specs.declared.object.Defined.{Defined}
use Rattle.irtext_graph.specs.declared.object.Defined.TheVariants.{OfValue, OfBlock}
use Rattle.irtext_graph.specs.declared.object.Site.{Site}
use Rattle.irtext_graph.specs.Chained.{Among}
use Rattle.irtext_graph.specs.Graph.{GraphView}
use Rattle.irtext_graph.proofs.Nests.{some_eq}
use Rattle.irtext_grammar.specs.Names.Script.{Place, User, NotIsolated, UnresolvedReference}
use Rattle.irtext_grammar.specs.Names.Scopes.{not_isolated}
use Rattle.irtext_grammar.specs.Names.TextScopes.{Fact, Failure, bound_in, unresolved}
use Rattle.irtext_grammar.specs.Names.History as history
use Rattle.irtext_grammar.specs.Names.History.{enter, leave, State, top, top_facts, outer_scopes, going, failed, outcome, step, start}
use Rattle.irtext_grammar.proofs.Names.PlaceholderMap.{unresolved_name}
use Rattle.irtext_scopes.specs.declared.scopes.Entry.TheVariants as entries
use Rattle.irtext_scopes.specs.declared.tracker.EnterFault.{EnterFault}
use Rattle.irtext_scopes.specs.declared.tracker.EnterFault.TheVariants.{TopLevelOpRegionNotIsolatedFromAbove}
use Rattle.irtext_scopes.specs.declared.tracker.NameTracker.{NameTracker}
use Rattle.irtext_scopes.specs.Scopes.{Scope, innermost, outer, is_open, first_pending, value_of}
use Rattle.irtext_scopes.specs.Tracker.{entered, left, first_value}
use Rattle.irtext_scopes.specs.Tracker as tracker
use Rattle.irtext_names.specs.Linked.{Known, nothing_made, Became, Holds, AreLinked, AreMade, NamesAgree, Takes, FailsBy}
use Rattle.irtext_names.specs.Tied.{entry_at, MatchesGraph}
use Rattle.irtext_names.proofs.Linked.Scopes.{means_nothing, bound_means, Leaves, pending_means}

-- ---- the open scopes of one kind
module _ {O B T V : Type 0} (names : List Text) (of : V → Defined) (made : List (Place × V)) (sites : List (User × Site)) (held : List (User × Defined)) (g : GraphView (Option O) B T) where
  -- the same names, and the same scopes
  links_same : (ns : List Text) (fss : List (List Fact)) (ss xs : List (Scope V)) → ns ≡ names → xs ≡ ss → AreLinked names of made sites held g fss ss → AreLinked ns of made sites held g fss xs
  links_same ns fss ss xs a b l = subst (λ z. AreLinked z of made sites held g fss xs) (sym a) (subst (AreLinked names of made sites held g fss) (sym b) l)

  -- a scope of names is open where one of facts is
  links_open : (fss : List (List Fact)) (ss : List (Scope V)) → AreLinked names of made sites held g fss ss → is_open ss ≡ true → not_isolated {P = ℕ} false (top fss) ≡ []
  links_open [] [] l o = absurd (true≢false (sym o))
  links_open [] (s ∷ ss) l o = absurd l
  links_open (fs ∷ fss) [] l o = absurd l
  links_open (fs ∷ fss) (s ∷ ss) l o = refl

  links_shut : (fss : List (List Fact)) (ss : List (Scope V)) → AreLinked names of made sites held g fss ss → is_open ss ≡ false → not_isolated {P = ℕ} false (top fss) ≡ record { cause = NotIsolated; at = None } ∷ []
  links_shut [] [] l o = refl
  links_shut [] (s ∷ ss) l o = absurd l
  links_shut (fs ∷ fss) [] l o = absurd l
  links_shut (fs ∷ fss) (s ∷ ss) l o = absurd (true≢false o)

  links_entered : (fss : List (List Fact)) (ss : List (Scope V)) → AreLinked names of made sites held g fss ss → AreLinked names of made sites held g ([] ∷ fss) ([] ∷ ss)
  links_entered fss ss l = (means_nothing names made, λ n t u k a. absurd a, l)

  links_left : (fss : List (List Fact)) (ss : List (Scope V)) → AreLinked names of made sites held g fss ss → AreLinked names of made sites held g (outer_scopes fss) (outer ss)
  links_left [] [] l = tt
  links_left [] (s ∷ ss) l = absurd l
  links_left (fs ∷ fss) [] l = absurd l
  links_left (fs ∷ fss) (s ∷ ss) l = l.2

  -- the first name that waits is the first that the facts leave unresolved
  links_leave : (fss : List (List Fact)) (ss : List (Scope V)) → AreLinked names of made sites held g fss ss → (a : ℕ) → Leaves names made (top_facts fss) a (first_pending (innermost ss))
  links_leave [] [] l a = refl
  links_leave [] (s ∷ ss) l a = absurd l
  links_leave (fs ∷ fss) [] l a = absurd l
  links_leave (fs ∷ fss) (s ∷ ss) l a = pending_means names made fs s l.0 a

  -- what the facts bind is made, and its users hold it
  links_bound : (fss : List (List Fact)) (ss : List (Scope V)) → AreLinked names of made sites held g fss ss → (u : User) (p : Place) → Among (u, p) (bound_in (top_facts fss) (top_facts fss))
      → (v : V) × Among (p, v) made × Holds sites held g u (of v)
  links_bound [] [] l u p a = absurd a
  links_bound [] (s ∷ ss) l u p a = absurd l
  links_bound (fs ∷ fss) [] l u p a = absurd l
  links_bound (fs ∷ fss) (s ∷ ss) l u p a =
      let b = bound_means l.0 u p a in
      let r = l.1 b.0 b.1 u b.2 b.3 in
      let same : r.0 ≡ entries.Defined b.4 = some_eq (sym r.1 ∙ b.5) in
      (b.4, b.6, subst (λ e. Holds sites held g u (of (value_of e))) same r.2)

module _ {O B T V : Type 0} (of : V → Defined) (made : List (Place × V)) (g : GraphView (Option O) B T) (ss : List (Scope V)) where
  made_entered : AreMade of made ss g → AreMade of made ([] ∷ ss) g
  made_entered m p v a = let r = m p v a in (r.0, λ k n e. go r.1 k n e)
    where
      go : ((k n : ℕ) → entry_at k n ss ≡ Some (entries.Pending v) → ⊥) → (k n : ℕ) → entry_at k n ([] ∷ ss) ≡ Some (entries.Pending v) → ⊥
      go none zero n e = cc
      go none (suc k) n e = none k n e

  made_left : AreMade of made ss g → AreMade of made (outer ss) g
  made_left m p v a = let r = m p v a in (r.0, λ k n e. go ss r.1 k n e)
    where
      go : (xs : List (Scope V)) → ((k n : ℕ) → entry_at k n xs ≡ Some (entries.Pending v) → ⊥) → (k n : ℕ) → entry_at k n (outer xs) ≡ Some (entries.Pending v) → ⊥
      go [] none k n e = none k n e
      go (s ∷ xs) none k n e = none (suc k) n e

-- ---- no names
module _ {O B T : Type 0} (g : GraphView (Option O) B T) where
  pub none_agrees : (names : NameTracker Value (Ptr BasicBlock)) → names.names ≡ [] → names.values ≡ [] → names.labels ≡ [] → MatchesGraph names.values names.labels g → NamesAgree names g nothing_made [] start
  none_agrees names a b c tied = record {
    distinct = rw a (λ i j t e f. absurd (cc));
    tied = tied;
    value_links = rw b tt;
    label_links = rw c tt;
    values_made = λ p v m. absurd m;
    blocks_made = λ p v m. absurd m;
    bound = λ u p m. absurd m;
  }

-- ---- a region begins
module _ {O B T : Type 0} (g : GraphView (Option O) B T) (old new : NameTracker Value (Ptr BasicBlock)) where
  enter_agrees : (isolated : Bool) → new.names ≡ old.names → new.values ≡ entered isolated old.values → new.labels ≡ [] ∷ old.labels → MatchesGraph new.values new.labels g
      → (known : Known) (st : State) → NamesAgree old g known [] st → NamesAgree new g known [] (history.entered isolated st)
  enter_agrees true a b c tied known st s = record {
    distinct = rw a s.distinct;
    tied = tied;
    value_links = links_same old.names OfValue known.values known.sites [] g new.names ([] ∷ st.values) ([] ∷ old.values) new.values a b (links_entered old.names OfValue known.values known.sites [] g st.values old.values s.value_links);
    label_links = links_same old.names OfBlock known.blocks known.sites [] g new.names ([] ∷ st.labels) ([] ∷ old.labels) new.labels a c (links_entered old.names OfBlock known.blocks known.sites [] g st.labels old.labels s.label_links);
    values_made = rw b (made_entered OfValue known.values g old.values s.values_made);
    blocks_made = rw c (made_entered OfBlock known.blocks g old.labels s.blocks_made);
    bound = s.bound;
  }
  enter_agrees false a b c tied known st s = record {
    distinct = rw a s.distinct;
    tied = tied;
    value_links = links_same old.names OfValue known.values known.sites [] g new.names st.values old.values new.values a b s.value_links;
    label_links = links_same old.names OfBlock known.blocks known.sites [] g new.names ([] ∷ st.labels) ([] ∷ old.labels) new.labels a c (links_entered old.names OfBlock known.blocks known.sites [] g st.labels old.labels s.label_links);
    values_made = rw b s.values_made;
    blocks_made = rw c (made_entered OfBlock known.blocks g old.labels s.blocks_made);
    bound = s.bound;
  }

  enter_steps : (isolated : Bool) → (isolated ≡ false → is_open old.values ≡ true) → (known : Known) (st : State) → NamesAgree old g known [] st → step st (enter isolated) ≡ going (history.entered isolated st)
  enter_steps true o known st s = refl
  enter_steps false o known st s = ap (λ us. outcome us (history.entered false st)) (links_open old.names OfValue known.values known.sites [] g st.values old.values s.value_links (o refl))

  -- a region that is entered is one that begins
  pub takes_enter : {A : Type 0} (r : Result A EnterFault) (isolated : Bool) → OnOk r (new.values ≡ entered isolated old.values) → OnOk r (new.labels ≡ [] ∷ old.labels)
      → ((r ≡ Err TopLevelOpRegionNotIsolatedFromAbove) ↔ ((isolated ≡ false) × (is_open old.values ≡ false))) → new.names ≡ old.names → MatchesGraph new.values new.labels g
      → OnOk r (Takes (enter isolated) (history.entered isolated) old new g)
  takes_enter (Err x) isolated b c shut a tied = tt
  takes_enter (Ok x) isolated b c shut a tied = record { so = λ known st s. (enter_steps isolated (λ i. some_open i (is_open old.values) refl) known st s, enter_agrees isolated a b c tied known st s) }
    where
      some_open : isolated ≡ false → (o : Bool) → is_open old.values ≡ o → o ≡ true
      some_open i true e = refl
      some_open i false e = let k = shut.1 (i, e) in absurd (cc)

  -- a region that is an error because no scope of values is open fails at its beginning
  pub fails_enter : {A : Type 0} (r : Result A EnterFault) (isolated : Bool) → ((r ≡ Err TopLevelOpRegionNotIsolatedFromAbove) ↔ ((isolated ≡ false) × (is_open old.values ≡ false)))
      → r ≡ Err TopLevelOpRegionNotIsolatedFromAbove → FailsBy (enter isolated) old g (record { cause = NotIsolated; at = None })
  fails_enter r isolated shut e = let k = shut.0 e in record { so = λ known held st s. fails isolated k.0 k.1 known held st s }
    where
      fails : (isolated : Bool) → isolated ≡ false → is_open old.values ≡ false → (known : Known) (held : List (User × Defined)) (st : State) → NamesAgree old g known held st
          → step st (enter isolated) ≡ failed (record { cause = NotIsolated; at = None })
      fails true i o known held st s = absurd (true≢false i)
      fails false i o known held st s = ap (λ us. outcome us (history.entered false st)) (links_shut old.names OfValue known.values known.sites held g st.values old.values s.value_links o)

-- ---- a region ends
among_both : {A : Type 0} (x : A) (xs ys : List A) → Among x (xs ++ ys) → Among x xs ⊎ Among x ys
among_both x [] ys a = inr a
among_both x (z ∷ xs) ys (inl e) = inl (inl e)
among_both x (z ∷ xs) ys (inr a) = ⊎_elim (λ b. inl (inr b)) (λ b. inr b) (among_both x xs ys a)

either_none : {A : Type 0} (a b : Option A) → option_or a b ≡ None → (a ≡ None) × (b ≡ None)
either_none None b e = (refl, e)
either_none (Some x) b e = absurd (cc)

module _ {V W : Type 0} (names : List Text) (made : List (Place × V)) (made' : List (Place × W)) (fs fs' : List Fact) (a n : ℕ) (t : Text) (named : slice_get names n ≡ Some t) where
  -- the failure of a name
  abbrev Begins : List Failure → Type 0
  Begins us = (rest : List Failure) × (us ≡ unresolved_name a t ∷ rest)

  begins_with : {X : Type 0} (there : List (Place × X)) (gs : List Fact) → Leaves names there gs a (Some n) → Begins (unresolved a gs gs)
  begins_with there gs l = (l.2, l.3 ∙ ap (λ u. unresolved_name a u ∷ l.2) (some_eq (sym l.1 ∙ named)))

  -- values that wait come before labels
  first_of_both : (o q : Option ℕ) → Leaves names made fs a o → Leaves names made' fs' a q → option_or o q ≡ Some n → Begins (unresolved a fs fs ++ unresolved a fs' fs')
  first_of_both (Some m) q l k e =
      let b = begins_with made fs (subst (λ i. Leaves names made fs a (Some i)) (some_eq e) l) in
      (b.0 ++ unresolved a fs' fs', ap (λ us. us ++ unresolved a fs' fs') b.1)
  first_of_both None (Some m) l k e =
      let b = begins_with made' fs' (subst (λ i. Leaves names made' fs' a (Some i)) (some_eq e) k) in
      (b.0, ap (λ us. us ++ unresolved a fs' fs') l ∙ b.1)
  first_of_both None None l k e = absurd (cc)

module _ {O B T : Type 0} (g : GraphView (Option O) B T) (old new : NameTracker Value (Ptr BasicBlock)) where
  module _ (known : Known) (held : List (User × Defined)) (st : State) (s : NamesAgree old g known held st) where
    values_leave : (a : ℕ) → Leaves old.names known.values (top_facts st.values) a (first_pending (innermost old.values))
    values_leave = links_leave old.names OfValue known.values known.sites held g st.values old.values s.value_links

    labels_leave : (a : ℕ) → Leaves old.names known.blocks (top_facts st.labels) a (first_pending (innermost old.labels))
    labels_leave = links_leave old.names OfBlock known.blocks known.sites held g st.labels old.labels s.label_links

    leave_steps : (isolated : Bool) → tracker.unresolved isolated old.values old.labels ≡ None → (a : ℕ) → step st (leave isolated a) ≡ going (history.left isolated st)
    leave_steps true e a =
        let n = either_none (first_value true old.values) (first_pending (innermost old.labels)) e in
        let v = subst (Leaves old.names known.values (top_facts st.values) a) n.0 (values_leave a) in
        let l = subst (Leaves old.names known.blocks (top_facts st.labels) a) n.1 (labels_leave a) in
        ap (λ us. outcome (us ++ unresolved a (top_facts st.labels) (top_facts st.labels)) (history.left true st)) v ∙ ap (λ us. outcome us (history.left true st)) l
    leave_steps false e a =
        let l = subst (Leaves old.names known.blocks (top_facts st.labels) a) e (labels_leave a) in
        ap (λ us. outcome us (history.left false st)) l

    leave_fails : (isolated : Bool) (n : ℕ) → tracker.unresolved isolated old.values old.labels ≡ Some n → (t : Text) → slice_get old.names n ≡ Some t → (a : ℕ)
        → step st (leave isolated a) ≡ failed (record { cause = UnresolvedReference t; at = Some a })
    leave_fails true n e t k a =
        let b = first_of_both old.names known.values known.blocks (top_facts st.values) (top_facts st.labels) a n t k (first_pending (innermost old.values)) (first_pending (innermost old.labels)) (values_leave a) (labels_leave a) e in
        ap (λ us. outcome us (history.left true st)) b.1
    leave_fails false n e t k a =
        let b = begins_with old.names known.values known.blocks [] [] a n t k known.blocks (top_facts st.labels) (subst (Leaves old.names known.blocks (top_facts st.labels) a) e (labels_leave a)) in
        ap (λ us. outcome us (history.left false st)) b.1

    -- what scopes that end bind
    value_bound : (u : User) (p : Place) → Among (u, p) (bound_in (top_facts st.values) (top_facts st.values)) → (d : Defined) × Became known p d × Holds known.sites held g u d
    value_bound u p a = let r = links_bound old.names OfValue known.values known.sites held g st.values old.values s.value_links u p a in (OfValue r.0, r.1, r.2)

    label_bound : (u : User) (p : Place) → Among (u, p) (bound_in (top_facts st.labels) (top_facts st.labels)) → (d : Defined) × Became known p d × Holds known.sites held g u d
    label_bound u p a = let r = links_bound old.names OfBlock known.blocks known.sites held g st.labels old.labels s.label_links u p a in (OfBlock r.0, r.1, r.2)

    both_bound : (xs ys : List (User × Place)) → ((u : User) (p : Place) → Among (u, p) xs → (d : Defined) × Became known p d × Holds known.sites held g u d)
        → ((u : User) (p : Place) → Among (u, p) ys → (d : Defined) × Became known p d × Holds known.sites held g u d)
        → (u : User) (p : Place) → Among (u, p) (xs ++ ys) → (d : Defined) × Became known p d × Holds known.sites held g u d
    both_bound xs ys f h u p a = ⊎_elim (f u p) (h u p) (among_both (u, p) xs ys a)

    leave_agrees : (isolated : Bool) → new.names ≡ old.names → new.values ≡ left isolated old.values → new.labels ≡ outer old.labels → MatchesGraph new.values new.labels g → NamesAgree new g known held (history.left isolated st)
    leave_agrees true a b c tied = record {
      distinct = rw a s.distinct;
      tied = tied;
      value_links = links_same old.names OfValue known.values known.sites held g new.names (outer_scopes st.values) (outer old.values) new.values a b (links_left old.names OfValue known.values known.sites held g st.values old.values s.value_links);
      label_links = links_same old.names OfBlock known.blocks known.sites held g new.names (outer_scopes st.labels) (outer old.labels) new.labels a c (links_left old.names OfBlock known.blocks known.sites held g st.labels old.labels s.label_links);
      values_made = rw b (made_left OfValue known.values g old.values s.values_made);
      blocks_made = rw c (made_left OfBlock known.blocks g old.labels s.blocks_made);
      bound = both_bound _ _ s.bound (both_bound _ _ value_bound label_bound);
    }
    leave_agrees false a b c tied = record {
      distinct = rw a s.distinct;
      tied = tied;
      value_links = links_same old.names OfValue known.values known.sites held g new.names st.values old.values new.values a b s.value_links;
      label_links = links_same old.names OfBlock known.blocks known.sites held g new.names (outer_scopes st.labels) (outer old.labels) new.labels a c (links_left old.names OfBlock known.blocks known.sites held g st.labels old.labels s.label_links);
      values_made = rw b s.values_made;
      blocks_made = rw c (made_left OfBlock known.blocks g old.labels s.blocks_made);
      bound = both_bound _ _ s.bound label_bound;
    }

  -- a region that is left, and leaves no name without a definition, is one that ends
  pub takes_leave : (o : Option ℕ) (isolated : Bool) → o ≡ tracker.unresolved isolated old.values old.labels → new.values ≡ left isolated old.values → new.labels ≡ outer old.labels → new.names ≡ old.names
      → MatchesGraph new.values new.labels g → IfNone o ((a : ℕ) → Takes (leave isolated a) (history.left isolated) old new g)
  takes_leave (Some n) isolated e b c a tied = tt
  takes_leave None isolated e b c a tied = λ at. record { so = λ known st s. (leave_steps known [] st s isolated (sym e) at, leave_agrees known [] st s isolated a b c tied) }

  -- a region that leaves a name without a definition fails at its end
  pub fails_leave : (o : Option ℕ) (isolated : Bool) → o ≡ tracker.unresolved isolated old.values old.labels → IfSome o (λ n. n < length old.names)
      → IfSome o (λ n. (a : ℕ) → (t : Text) × (slice_get old.names n ≡ Some t) × FailsBy (leave isolated a) old g (record { cause = UnresolvedReference t; at = Some a }))
  fails_leave None isolated e k = tt
  fails_leave (Some n) isolated e k = λ a. let r = slice_get-get_or old.names n [] k in (_, r, record { so = λ known held st s. leave_fails known held st s isolated n (sym e) _ r a })
