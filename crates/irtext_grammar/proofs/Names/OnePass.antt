-- The machine that reads events fails first where the two passes fail first, and else binds what they bind.
use Rattle.std.proofs.Common.{◌≡◌, ℕ, Bool, true, false, List, [], ◌∷◌, ◌++◌, refl, sym, ap, ◌∙◌, append_assoc, append-nil}
use Rattle.irtext_grammar.specs.Names.Script.{Place, User, done, does, within}
use Rattle.irtext_grammar.specs.Names.Scopes.{◌⊕◌, ◌⊳◌, nothing, and_then, fact_of, not_isolated, inside}
use Rattle.irtext_grammar.specs.Names.TextScopes.{Fact, Facts, Failure, Scopes, Script, act_failures, outward, left_open, bound_in, facts, failures}
use Rattle.irtext_grammar.specs.Names.History.{Event, act, enter, leave, events, State, top, onto, scopes_of, after, entered, left, Outcome, going, failed, outcome, next, run, start}

run-append : (o : Outcome) (es fs : List Event) → run o (es ++ fs) ≡ run (run o es) fs
run-append o [] fs = refl
run-append o (e ∷ es) fs = run-append (next o e) es fs

run-failed : (f : Failure) (es : List Event) → run (failed f) es ≡ failed f
run-failed f [] = refl
run-failed f (e ∷ es) = run-failed f es

onto-append : (gs : List (List Fact)) (f g : List Fact) → onto (onto gs f) g ≡ onto gs (f ++ g)
onto-append [] f g = refl
onto-append (h ∷ gs) f g = ap (λ x. x ∷ gs) (append_assoc h f g)

onto-nil : (gs : List (List Fact)) → onto gs [] ≡ gs
onto-nil [] = refl
onto-nil (h ∷ gs) = ap (λ x. x ∷ gs) (append-nil h)

top-onto : (gs : List (List Fact)) (f : List Fact) → top (onto gs f) ≡ and_then (top gs) f
top-onto [] f = refl
top-onto (h ∷ gs) f = refl

after-nothing : (st : State) → after st nothing ≡ st
after-nothing st i = record { values = onto-nil st.values i; labels = onto-nil st.labels i; marks = append-nil st.marks i; entries = append-nil st.entries i; bound = append-nil st.bound i }

after-both : (st : State) (f g : Facts) → after (after st f) g ≡ after st (f ⊕ g)
after-both st f g i = record {
  values = onto-append st.values f.values g.values i;
  labels = onto-append st.labels f.labels g.labels i;
  marks = append_assoc st.marks f.marks g.marks i;
  entries = append_assoc st.entries f.entries g.entries i;
  bound = append_assoc st.bound f.bound g.bound i;
}

scopes-after : (st : State) (f : Facts) → scopes_of (after st f) ≡ scopes_of st ⊳ f
scopes-after st f i = record { values = top-onto st.values f.values i; labels = top-onto st.labels f.labels i; marks = st.marks ++ f.marks; entries = st.entries ++ f.entries }

-- one part after another
joined : (st next_st last : State) (es fs : List Event) (F G : List Failure)
    → run (going st) es ≡ outcome F next_st
    → run (going next_st) fs ≡ outcome G last
    → run (going st) (es ++ fs) ≡ outcome (F ++ G) last
joined st next_st last es fs [] G p q = run-append (going st) es fs ∙ (ap (λ o. run o fs) p ∙ q)
joined st next_st last es fs (x ∷ F) G p q = run-append (going st) es fs ∙ (ap (λ o. run o fs) p ∙ run-failed x fs)

-- From the state, the events end with the first of the failures, or else add the facts.
record Reads (st : State) (es : List Event) (F : List Failure) (f : Facts) : Type 0 where
  so : run (going st) es ≡ outcome F (after st f)

in_turn : {st : State} {f g : Facts} {es fs : List Event} {F : List Failure} (G : Scopes → List Failure)
    → Reads st es F f → Reads (after st f) fs (G (scopes_of (after st f))) g → Reads st (es ++ fs) (F ++ G (scopes_of st ⊳ f)) (f ⊕ g)
in_turn {st = st} {f = f} {g = g} {es = es} {fs = fs} {F = F} G p q = record {
  so =
      joined st (after st f) (after (after st f) g) es fs F (G (scopes_of (after st f))) p.so q.so
      ∙ (ap (λ s. outcome (F ++ G s) (after (after st f) g)) (scopes-after st f)
      ∙ ap (outcome (F ++ G (scopes_of st ⊳ f))) (after-both st f g));
}

none_left : (st : State) → Reads st [] [] nothing
none_left st = record { so = ap going (sym (after-nothing st)) }

left_isolated : (st : State) (f : Facts) → left true (after (entered true st) f) ≡ after st (outward true f)
left_isolated st f i = record {
  values = sym (onto-nil st.values) i;
  labels = sym (onto-nil st.labels) i;
  marks = st.marks ++ f.marks;
  entries = st.entries ++ f.entries;
  bound = append_assoc st.bound f.bound (bound_in f.values f.values ++ bound_in f.labels f.labels) i;
}

left_shared : (st : State) (f : Facts) → left false (after (entered false st) f) ≡ after st (outward false f)
left_shared st f i = record {
  values = onto st.values f.values;
  labels = sym (onto-nil st.labels) i;
  marks = st.marks ++ f.marks;
  entries = st.entries ++ f.entries;
  bound = append_assoc st.bound f.bound (bound_in f.labels f.labels) i;
}

-- a region, of which the inside is done
module _ (a : ℕ) (es : List Event) (F : Scopes → List Failure) (f : Facts) (within : (st : State) → Reads st es (F (scopes_of st)) f) where
  run_shared : (vs ls : List (List Fact)) (ms ns : List ℕ) (b : List (User × Place)) →
      let st : State = record { values = vs; labels = ls; marks = ms; entries = ns; bound = b } in
      run (going st) (enter false ∷ (es ++ leave false a ∷ [])) ≡ outcome (not_isolated false (top vs) ++ (F (inside false (scopes_of st)) ++ left_open a false f)) (after st (outward false f))
  run_shared [] ls ms ns b = run-failed _ (es ++ leave false a ∷ [])
  run_shared (v ∷ vs) ls ms ns b =
      let st : State = record { values = v ∷ vs; labels = ls; marks = ms; entries = ns; bound = b } in
      joined (entered false st) (after (entered false st) f) (after st (outward false f)) es (leave false a ∷ []) (F (inside false (scopes_of st))) (left_open a false f)
      (within (entered false st)).so (ap (outcome (left_open a false f)) (left_shared st f))

  run_region : (iso : Bool) (st : State) → Reads st (enter iso ∷ (es ++ leave iso a ∷ [])) (not_isolated iso (top st.values) ++ (F (inside iso (scopes_of st)) ++ left_open a iso f)) (outward iso f)
  run_region true st = record {
    so = joined (entered true st) (after (entered true st) f) (after st (outward true f)) es (leave true a ∷ []) (F (inside true (scopes_of st))) (left_open a true f)
        (within (entered true st)).so (ap (outcome (left_open a true f)) (left_isolated st f));
  }
  run_region false st = record { so = run_shared st.values st.labels st.marks st.entries st.bound }

run_script : (x : Script) (st : State) → Reads st (events x) (failures (scopes_of st) x) (facts x)
run_script done st = none_left st
run_script (does a k) st =
    let first : Reads st (act a ∷ []) (act_failures (scopes_of st) a) (fact_of a) = record { so = refl } in
    in_turn (λ s. failures s k) first (run_script k (after st (fact_of a)))
run_script (within iso a body k) st =
    in_turn (λ s. failures s k)
    (run_region a (events body) (λ s. failures s body) (facts body) (λ s. run_script body s) iso st)
    (run_script k (after st (outward iso (facts body))))

-- from any state
pub one_pass_from : (st : State) (x : Script) → run (going st) (events x) ≡ outcome (failures (scopes_of st) x) (after st (facts x))
one_pass_from st x = (run_script x st).so

-- the start's scopes are none
pub one_pass : (x : Script) → run (going start) (events x) ≡ outcome (failures (scopes_of start) x) (after start (facts x))
one_pass x = one_pass_from start x
