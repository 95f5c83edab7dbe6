-- The parser's machine ends as the two passes say.
use Rattle.std.proofs.Common.{◌≡◌, ℕ, Bool, true, false, cond, not, ◌&&◌, List, [], ◌∷◌, ◌++◌, Some, None, Result, Ok, Err, refl, sym, ap, ◌∙◌, subst, inl, inr, append_assoc, append-nil}
use Rattle.irtext_base.specs.Text.{Text}
use Rattle.irtext_grammar.specs.Names.Script.{Place, User, use_value, use_label, define_value, define_label, mark, entry, claim, DuplicateIndex, UnknownIndex, NotIsolated, Cause}
use Rattle.irtext_grammar.specs.Names.Scopes as scopes
use Rattle.irtext_grammar.specs.Names.Scopes.{no_scope, uses, defines, nothing, fact_of, is_among, outside, not_isolated}
use Rattle.irtext_base.specs.Format.{same_text}
use Rattle.irtext_grammar.specs.Names.TextScopes.{Fact, Facts, Act, Failure, Script, bound_in, unresolved, defined_before, failures, facts}
use Rattle.irtext_grammar.specs.Names.History.{Event, act, enter, leave, events, State, top, outer_scopes, top_facts, onto, after, entered, left, Outcome, going, failed, outcome, step, next, run, start, ended}
use Rattle.irtext_grammar.specs.Names.Placeholders.{Held, bound, Names, Tracker, use_name, define_name, enter_scope, leave_scope, refused, with_values, with_labels, then_labels, has_scope, do_act, do_event, do_next, read, no_names, fresh_tracker, In, Resolved, AgreesWith}
use Rattle.irtext_grammar.proofs.Names.Building.{bound_same}
use Rattle.irtext_grammar.proofs.Names.OnePass.{one_pass}
use Rattle.irtext_grammar.proofs.Lists.Sets.{Same, same_refl, same_path, same_then, same_flip, same_both, same_swap}
use Rattle.irtext_grammar.proofs.Names.PlaceholderMap.{Scope, Linked, Follows, Agrees, facts_in, maps_of, final, under_scopes, empty_scope, empty-facts, use_follows, define_follows, enter_follows, leave_follows}

-- what a script binds, with what is still open at its end
abbrev pub bound_all : Script → List (User × Place)
bound_all x = scopes.bound same_text [] [] x

abbrev one_failure : Cause Text → ℕ → List Failure
one_failure c p = record { cause = c; at = Some p } ∷ []

record Tied (st : State) (t : Tracker) : Type 0 where
  values : List Scope
  labels : List Scope
  of_values : List (User × Place)
  of_labels : List (User × Place)
  values_are : facts_in values ≡ st.values
  labels_are : facts_in labels ≡ st.labels
  marks_are : t.marks ≡ st.marks
  entries_are : t.entries ≡ st.entries
  bound_are : Same st.bound (of_values ++ of_labels)
  values_linked : Linked values of_values t.values
  labels_linked : Linked labels of_labels t.labels

abbrev Follow : Outcome → Result Tracker Failure → Type 0
Follow (going st) (Ok t) = Tied st t
Follow (going st) (Err f) = ⊥
Follow (failed x) (Ok t) = ⊥
Follow (failed x) (Err f) = f ≡ x

onto-nothing : (gs : List (List Fact)) → onto gs [] ≡ gs
onto-nothing [] = refl
onto-nothing (h ∷ gs) = ap (λ x. x ∷ gs) (append-nil h)

-- scopes over the same places match a state whose facts and lists are theirs
tied : (st st' : State) (t t' : Tracker) (d : Tied st t) (vs ls : List Scope) → facts_in vs ≡ st'.values → facts_in ls ≡ st'.labels → t'.marks ≡ st'.marks → t'.entries ≡ st'.entries → st.bound ≡ st'.bound
    → Linked vs d.of_values t'.values → Linked ls d.of_labels t'.labels → Tied st' t'
tied st st' t t' d vs ls v l m n b x y = record {
  values = vs;
  labels = ls;
  of_values = d.of_values;
  of_labels = d.of_labels;
  values_are = v;
  labels_are = l;
  marks_are = m;
  entries_are = n;
  bound_are = subst (λ z. Same z (d.of_values ++ d.of_labels)) b d.bound_are;
  values_linked = x;
  labels_linked = y;
}

-- a call on values
value_call : (st st' : State) (t : Tracker) (d : Tied st t) (U : List Failure) (r : Result Names Failure)
    → Follows U st'.values d.of_values r → st.labels ≡ st'.labels → st.marks ≡ st'.marks → st.entries ≡ st'.entries → st.bound ≡ st'.bound → Follow (outcome U st') (with_values t r)
value_call st st' t d [] (Ok s) f e m n b =
    tied st st' t (record t { values = s }) d f.scopes d.labels f.facts_are (d.labels_are ∙ e) (d.marks_are ∙ m) (d.entries_are ∙ n) b f.agrees d.labels_linked
value_call st st' t d [] (Err x) f e m n b = f.agrees
value_call st st' t d (x ∷ U) (Ok s) f e m n b = f.agrees
value_call st st' t d (x ∷ U) (Err y) f e m n b = f.agrees

-- a call on labels
label_call : (st st' : State) (t : Tracker) (d : Tied st t) (U : List Failure) (r : Result Names Failure)
    → Follows U st'.labels d.of_labels r → st.values ≡ st'.values → st.marks ≡ st'.marks → st.entries ≡ st'.entries → st.bound ≡ st'.bound → Follow (outcome U st') (with_labels t r)
label_call st st' t d [] (Ok s) f e m n b =
    tied st st' t (record t { labels = s }) d d.values f.scopes (d.values_are ∙ e) f.facts_are (d.marks_are ∙ m) (d.entries_are ∙ n) b d.values_linked f.agrees
label_call st st' t d [] (Err x) f e m n b = f.agrees
label_call st st' t d (x ∷ U) (Ok s) f e m n b = f.agrees
label_call st st' t d (x ∷ U) (Err y) f e m n b = f.agrees

-- an act that mentions no name adds to the marks or the entries alone
listed : (st : State) (t : Tracker) (d : Tied st t) (ms ns ms' ns' : List ℕ) → ms' ≡ st.marks ++ ms → ns' ≡ st.entries ++ ns → Tied (after st (record nothing { marks = ms; entries = ns })) (record t { marks = ms'; entries = ns' })
listed st t d ms ns ms' ns' m n =
    tied st (after st (record nothing { marks = ms; entries = ns })) t (record t { marks = ms'; entries = ns' }) d d.values d.labels (d.values_are ∙ sym (onto-nothing st.values)) (d.labels_are ∙ sym (onto-nothing st.labels)) m n (sym (append-nil st.bound))
    d.values_linked d.labels_linked

-- an act on values that adds one fact
value_act : (st : State) (t : Tracker) (d : Tied st t) (f : Fact) (wrong : List (List Fact) → List Failure) (r : Result Names Failure) → Follows (wrong (facts_in d.values)) (onto (facts_in d.values) (f ∷ [])) d.of_values r
    → Follow (outcome (wrong st.values) (after st (record nothing { values = f ∷ [] }))) (with_values t r)
value_act st t d f wrong r h =
    value_call st (after st (record nothing { values = f ∷ [] })) t d (wrong st.values) r (subst (λ z. Follows (wrong z) (onto z (f ∷ [])) d.of_values r) d.values_are h)
    (sym (onto-nothing st.labels)) (sym (append-nil st.marks)) (sym (append-nil st.entries)) (sym (append-nil st.bound))

-- an act on labels that adds one fact
label_act : (st : State) (t : Tracker) (d : Tied st t) (f : Fact) (wrong : List (List Fact) → List Failure) (r : Result Names Failure) → Follows (wrong (facts_in d.labels)) (onto (facts_in d.labels) (f ∷ [])) d.of_labels r
    → Follow (outcome (wrong st.labels) (after st (record nothing { labels = f ∷ [] }))) (with_labels t r)
label_act st t d f wrong r h =
    label_call st (after st (record nothing { labels = f ∷ [] })) t d (wrong st.labels) r (subst (λ z. Follows (wrong z) (onto z (f ∷ [])) d.of_labels r) d.labels_are h)
    (sym (onto-nothing st.values)) (sym (append-nil st.marks)) (sym (append-nil st.entries)) (sym (append-nil st.bound))

act_follows : (st : State) (t : Tracker) (x : Act) → Tied st t → Follow (step st (act x)) (do_act t x)
act_follows st t (use_value w u) d = value_act st t d (uses w.name u) (λ z. outside (top z) w) (use_name t.values w u) (use_follows d.values d.of_values t.values w u d.values_linked)
act_follows st t (use_label w u) d = label_act st t d (uses w.name u) (λ z. outside (top z) w) (use_name t.labels w u) (use_follows d.labels d.of_labels t.labels w u d.labels_linked)
act_follows st t (define_value w p) d = value_act st t d (defines w.name p) (λ z. defined_before (top z) w) (define_name t.values w p) (define_follows d.values d.of_values t.values w p d.values_linked)
act_follows st t (define_label w p) d = label_act st t d (defines w.name p) (λ z. defined_before (top z) w) (define_name t.labels w p) (define_follows d.labels d.of_labels t.labels w p d.labels_linked)
act_follows st t (claim b x) d = go b
  where
    go : (c : Bool) → Follow (outcome (cond c [] (x ∷ [])) (after st nothing)) (cond c (Ok t) (Err x))
    go true = listed st t d [] [] t.marks t.entries (d.marks_are ∙ sym (append-nil st.marks)) (d.entries_are ∙ sym (append-nil st.entries))
    go false = refl
act_follows st t (mark n p) d = subst (λ ms. Follow (outcome (cond (is_among n st.marks) (one_failure (DuplicateIndex n) p) []) (after st (fact_of (mark n p)))) (cond (is_among n ms) (refused (DuplicateIndex n) (Some p)) (Ok (record t { marks = t.marks ++ n ∷ [] })))) (sym d.marks_are) (go (is_among n st.marks))
  where
    go : (c : Bool) → Follow (outcome (cond c (one_failure (DuplicateIndex n) p) []) (after st (fact_of (mark n p)))) (cond c (refused (DuplicateIndex n) (Some p)) (Ok (record t { marks = t.marks ++ n ∷ [] })))
    go true = refl
    go false = listed st t d (n ∷ []) [] (t.marks ++ n ∷ []) t.entries (ap (λ z. z ++ n ∷ []) d.marks_are) (d.entries_are ∙ sym (append-nil st.entries))
act_follows st t (entry n p) d =
    subst (λ ms. Follow (outcome (cond (is_among n st.marks && not (is_among n st.entries)) [] (one_failure (UnknownIndex n) p)) (after st (fact_of (entry n p)))) (cond (is_among n ms && not (is_among n t.entries)) (Ok (record t { entries = t.entries ++ n ∷ [] })) (refused (UnknownIndex n) (Some p)))) (sym d.marks_are)
    (subst (λ es. Follow (outcome (cond (is_among n st.marks && not (is_among n st.entries)) [] (one_failure (UnknownIndex n) p)) (after st (fact_of (entry n p)))) (cond (is_among n st.marks && not (is_among n es)) (Ok (record t { entries = t.entries ++ n ∷ [] })) (refused (UnknownIndex n) (Some p)))) (sym d.entries_are)
    (go (is_among n st.marks && not (is_among n st.entries))))
  where
    go : (c : Bool) → Follow (outcome (cond c [] (one_failure (UnknownIndex n) p)) (after st (fact_of (entry n p)))) (cond c (Ok (record t { entries = t.entries ++ n ∷ [] })) (refused (UnknownIndex n) (Some p)))
    go false = refl
    go true = listed st t d [] (n ∷ []) t.marks (t.entries ++ n ∷ []) (d.marks_are ∙ sym (append-nil st.marks)) (ap (λ z. z ++ n ∷ []) d.entries_are)

-- a scope more of no facts
more_scope : (fresh : ℕ) (gs : List Scope) (fs : List (List Fact)) → facts_in gs ≡ fs → facts_in (empty_scope fresh ∷ gs) ≡ [] ∷ fs
more_scope fresh gs fs e = ap (λ z. z ∷ facts_in gs) (empty-facts fresh) ∙ ap (λ z. [] ∷ z) e

entered_shared : (st : State) (t : Tracker) → Tied st t → Tied (entered false st) (record t { labels = enter_scope t.labels })
entered_shared st t d =
    tied st (entered false st) t (record t { labels = enter_scope t.labels }) d d.values (empty_scope t.labels.fresh ∷ d.labels) d.values_are (more_scope t.labels.fresh d.labels st.labels d.labels_are) d.marks_are d.entries_are refl
    d.values_linked (enter_follows d.labels d.of_labels t.labels d.labels_linked)

enter_event : (st : State) (t : Tracker) (iso : Bool) → Tied st t → Follow (step st (enter iso)) (do_event t (enter iso))
enter_event st t true d =
    tied st (entered true st) t (record t { values = enter_scope t.values; labels = enter_scope t.labels }) d (empty_scope t.values.fresh ∷ d.values) (empty_scope t.labels.fresh ∷ d.labels)
    (more_scope t.values.fresh d.values st.values d.values_are) (more_scope t.labels.fresh d.labels st.labels d.labels_are) d.marks_are d.entries_are refl
    (enter_follows d.values d.of_values t.values d.values_linked) (enter_follows d.labels d.of_labels t.labels d.labels_linked)
enter_event st t false d = go d.values d.values_are d.values_linked.scopes_are
  where
    T' : Tracker
    T' = record t { labels = enter_scope t.labels }

    go : (gs : List Scope) → facts_in gs ≡ st.values → t.values.scopes ≡ maps_of gs → Follow (outcome (not_isolated false (top st.values)) (entered false st)) (cond (has_scope t.values.scopes) (Ok (record t { labels = enter_scope t.labels })) (refused NotIsolated None))
    go [] e k = subst (λ z. Follow (outcome (not_isolated false (top z)) (entered false st)) (cond (has_scope t.values.scopes) (Ok (record t { labels = enter_scope t.labels })) (refused NotIsolated None))) e
        (subst (λ z. Follow (outcome (not_isolated false None) (entered false st)) (cond (has_scope z) (Ok (record t { labels = enter_scope t.labels })) (refused NotIsolated None))) (sym k) refl)
    go (g ∷ gs) e k = subst (λ z. Follow (outcome (not_isolated false (top z)) (entered false st)) (cond (has_scope t.values.scopes) (Ok (record t { labels = enter_scope t.labels })) (refused NotIsolated None))) e
        (subst (λ z. Follow (going (entered false st)) (cond (has_scope z) (Ok (record t { labels = enter_scope t.labels })) (refused NotIsolated None))) (sym k) (entered_shared st t d))

under-facts : (gs : List Scope) → facts_in (under_scopes gs) ≡ outer_scopes (facts_in gs)
under-facts [] = refl
under-facts (g ∷ gs) = refl

mixed : {A : Type 0} (B V L X Y : List A) → Same B (V ++ L) → Same (B ++ (X ++ Y)) ((V ++ X) ++ (L ++ Y))
mixed B V L X Y p =
    same_then (same_both p (same_refl (X ++ Y)))
    (same_then (same_path ((V ++ L) ++ (X ++ Y)) (V ++ ((L ++ X) ++ Y)) (append_assoc V L (X ++ Y) ∙ ap (λ z. V ++ z) (sym (append_assoc L X Y))))
    (same_then (same_both (same_refl V) (same_both (same_swap L X) (same_refl Y)))
    (same_path (V ++ ((X ++ L) ++ Y)) ((V ++ X) ++ (L ++ Y)) (ap (λ z. V ++ z) (append_assoc X L Y) ∙ sym (append_assoc V X (L ++ Y))))))

mixed_right : {A : Type 0} (B V L Y : List A) → Same B (V ++ L) → Same (B ++ Y) (V ++ (L ++ Y))
mixed_right B V L Y p = same_then (same_both p (same_refl Y)) (same_path ((V ++ L) ++ Y) (V ++ (L ++ Y)) (append_assoc V L Y))

leave_event : (st : State) (t : Tracker) (iso : Bool) (a : ℕ) → Tied st t → Follow (step st (leave iso a)) (do_event t (leave iso a))
leave_event st t true a d =
    go (unresolved a V V) (leave_scope t.values a) (subst (λ z. Agrees (unresolved a (top_facts z) (top_facts z)) (under_scopes d.values) (d.of_values ++ bound_in (top_facts z) (top_facts z)) (leave_scope t.values a)) d.values_are (leave_follows d.values d.of_values t.values a d.values_linked))
    (unresolved a L L) (leave_scope t.labels a) (subst (λ z. Agrees (unresolved a (top_facts z) (top_facts z)) (under_scopes d.labels) (d.of_labels ++ bound_in (top_facts z) (top_facts z)) (leave_scope t.labels a)) d.labels_are (leave_follows d.labels d.of_labels t.labels a d.labels_linked)) refl
  where
    V : List Fact
    V = top_facts st.values

    L : List Fact
    L = top_facts st.labels

    go : (U : List Failure) (r : Result Names Failure) → Agrees U (under_scopes d.values) (d.of_values ++ bound_in V V) r → (W : List Failure) (q : Result Names Failure) → Agrees W (under_scopes d.labels) (d.of_labels ++ bound_in L L) q → q ≡ leave_scope t.labels a → Follow (outcome (U ++ W) (left true st)) (then_labels a (with_values t r))
    go [] (Ok s) f W q h e = subst (λ z. Follow (outcome W (left true st)) (with_labels (record t { values = s }) z)) e (last W q h)
      where
        last : (W : List Failure) (q : Result Names Failure) → Agrees W (under_scopes d.labels) (d.of_labels ++ bound_in L L) q → Follow (outcome W (left true st)) (with_labels (record t { values = s }) q)
        last [] (Ok k) h =
            record { values = under_scopes d.values; labels = under_scopes d.labels; of_values = d.of_values ++ bound_in V V; of_labels = d.of_labels ++ bound_in L L; values_are = under-facts d.values ∙ ap outer_scopes d.values_are; labels_are = under-facts d.labels ∙ ap outer_scopes d.labels_are; marks_are = d.marks_are; entries_are = d.entries_are; bound_are = mixed st.bound d.of_values d.of_labels (bound_in V V) (bound_in L L) d.bound_are; values_linked = f; labels_linked = h }
        last [] (Err y) h = h
        last (x ∷ W) (Ok k) h = h
        last (x ∷ W) (Err y) h = h
    go [] (Err y) f W q h e = absurd f
    go (x ∷ U) (Ok s) f W q h e = absurd f
    go (x ∷ U) (Err y) f W q h e = f
leave_event st t false a d =
    go (unresolved a L L) (leave_scope t.labels a) (subst (λ z. Agrees (unresolved a (top_facts z) (top_facts z)) (under_scopes d.labels) (d.of_labels ++ bound_in (top_facts z) (top_facts z)) (leave_scope t.labels a)) d.labels_are (leave_follows d.labels d.of_labels t.labels a d.labels_linked))
  where
    L : List Fact
    L = top_facts st.labels

    go : (W : List Failure) (q : Result Names Failure) → Agrees W (under_scopes d.labels) (d.of_labels ++ bound_in L L) q → Follow (outcome W (left false st)) (with_labels t q)
    go [] (Ok k) h =
        record { values = d.values; labels = under_scopes d.labels; of_values = d.of_values; of_labels = d.of_labels ++ bound_in L L; values_are = d.values_are; labels_are = under-facts d.labels ∙ ap outer_scopes d.labels_are; marks_are = d.marks_are; entries_are = d.entries_are; bound_are = mixed_right st.bound d.of_values d.of_labels (bound_in L L) d.bound_are; values_linked = d.values_linked; labels_linked = h }
    go [] (Err y) h = h
    go (x ∷ W) (Ok k) h = h
    go (x ∷ W) (Err y) h = h

event_follows : (st : State) (t : Tracker) (e : Event) → Tied st t → Follow (step st e) (do_event t e)
event_follows st t (act x) d = act_follows st t x d
event_follows st t (enter iso) d = enter_event st t iso d
event_follows st t (leave iso a) d = leave_event st t iso a d

next_follows : (o : Outcome) (r : Result Tracker Failure) (e : Event) → Follow o r → Follow (next o e) (do_next r e)
next_follows (going st) (Ok t) e d = event_follows st t e d
next_follows (going st) (Err f) e d = absurd d
next_follows (failed x) (Ok t) e d = absurd d
next_follows (failed x) (Err f) e d = d

run_follows : (es : List Event) (o : Outcome) (r : Result Tracker Failure) → Follow o r → Follow (run o es) (read r es)
run_follows [] o r d = d
run_follows (e ∷ es) o r d = run_follows es (next o e) (do_next r e) (next_follows o r e d)

begun : Tied start fresh_tracker
begun =
    let linked : Linked [] [] no_names = record { scopes_are = refl; stacked = tt; slots_are = same_refl [] } in
    record { values = []; labels = []; of_values = []; of_labels = []; values_are = refl; labels_are = refl; marks_are = refl; entries_are = refl; bound_are = same_refl []; values_linked = linked; labels_linked = linked }

in_final : (u : User) (h : Held) (b : List (User × Place)) → In (u, h) (final b) → (p : Place) × (h ≡ bound p) × In (u, p) b
in_final u h [] k = absurd k
in_final u h ((v, q) ∷ b) (inl e) = (q, ap (λ z. z.1) e, inl (ap (λ z. (z.0, q)) e))
in_final u h ((v, q) ∷ b) (inr k) = let i = in_final u h b k in (i.0, i.1, inr i.2)

final_in : (u : User) (p : Place) (b : List (User × Place)) → In (u, p) b → In (u, bound p) (final b)
final_in u p [] k = absurd k
final_in u p ((v, q) ∷ b) (inl e) = inl (ap (λ z. (z.0, bound z.1)) e)
final_in u p ((v, q) ∷ b) (inr k) = inr (final_in u p b k)

final-both : (b c : List (User × Place)) → final (b ++ c) ≡ final b ++ final c
final-both [] c = refl
final-both ((u, p) ∷ b) c = ap (λ z. (u, bound p) ∷ z) (final-both b c)

no_scopes : (gs : List Scope) → facts_in gs ≡ [] → gs ≡ []
no_scopes [] e = refl
no_scopes (g ∷ gs) e = cc

tied_end : (f : Facts) (t : Tracker) → Tied (ended f) t → Resolved f.bound t
tied_end f t d =
    let nv = no_scopes d.values d.values_are in
    let nl = no_scopes d.labels d.labels_are in
    let v = subst (λ gs. Linked gs d.of_values t.values) nv d.values_linked in
    let l = subst (λ gs. Linked gs d.of_labels t.labels) nl d.labels_linked in
    let all : Same (t.values.slots ++ t.labels.slots) (final (d.of_values ++ d.of_labels)) = same_then (same_both v.slots_are l.slots_are) (same_path _ _ (sym (final-both d.of_values d.of_labels))) in
    record {
      no_scope_open = (v.scopes_are, l.scopes_are);
      each = λ u h. (
        (λ k. let i = in_final u h (d.of_values ++ d.of_labels) (all.into (u, h) k) in (i.0, i.1, d.bound_are.back (u, i.0) i.2)),
        (λ k. all.back (u, h) (subst (λ z. In (u, z) (final (d.of_values ++ d.of_labels))) (sym k.1) (final_in u k.0 (d.of_values ++ d.of_labels) (d.bound_are.into (u, k.0) k.2)))),
      );
    }

ends : (F : List Failure) (f : Facts) (r : Result Tracker Failure) → Follow (outcome F (ended f)) r → AgreesWith F f.bound r
ends [] f (Ok t) d = tied_end f t d
ends [] f (Err x) d = d
ends (x ∷ F) f (Ok t) d = d
ends (x ∷ F) f (Err y) d = d

-- the parser's machine ends with the first failure, or with what the two passes bind
pub reads : (x : Script) → AgreesWith (failures no_scope x) (facts x).bound (read (Ok fresh_tracker) (events x))
reads x = ends (failures no_scope x) (facts x) (read (Ok fresh_tracker) (events x)) (subst (λ o. Follow o (read (Ok fresh_tracker) (events x))) (one_pass x) (run_follows (events x) (going start) (Ok fresh_tracker) begun))

rebound : (F : List Failure) (b c : List (User × Place)) (r : Result Tracker Failure) → Same b c → AgreesWith F b r → AgreesWith F c r
rebound [] b c (Ok t) s d = record {
  no_scope_open = d.no_scope_open;
  each = λ u h. ((λ k. let i = (d.each u h).0 k in (i.0, i.1, s.into (u, i.0) i.2)), (λ k. (d.each u h).1 (k.0, k.1, s.back (u, k.0) k.2)));
}
rebound [] b c (Err x) s d = d
rebound (x ∷ F) b c (Ok t) s d = d
rebound (x ∷ F) b c (Err y) s d = d

-- the same, with what is still open at the end
pub reads_bound : (x : Script) → AgreesWith (failures no_scope x) (bound_all x) (read (Ok fresh_tracker) (events x))
reads_bound x = rebound (failures no_scope x) (facts x).bound (bound_all x) (read (Ok fresh_tracker) (events x)) (same_flip (bound_same x)) (reads x)
