-- A script without entries that comes through where some indices are marked comes through where they are not, to the same but for these.
use Rattle.std.proofs.Common.{◌≡◌, ◌∙◌, ℕ, Bool, true, false, cond, true≢false, List, [], ◌∷◌, ◌++◌, Some, refl, sym, ap, subst, append_assoc}
use Rattle.std.specs.Prelude.{⊤}
use Rattle.irtext_grammar.specs.Names.Script.{use_value, use_label, define_value, define_label, mark, entry, claim, done, does, within, DuplicateIndex}
use Rattle.irtext_grammar.specs.Names.Scopes.{is_among, fact_of, not_isolated}
use Rattle.irtext_grammar.specs.Names.TextScopes.{Facts, Failure, Script, act_failures, left_open}
use Rattle.irtext_grammar.specs.Names.History.{Event, act, enter, leave, events, State, top, scopes_of, after, entered, ending, left, Outcome, going, failed, outcome, step, next, run}
use Rattle.irtext_grammar.proofs.Lists.Numbers.{among_right}
use Rattle.irtext_grammar.proofs.Names.ResolvedScript.{Entryless}

-- ---- events without entries
abbrev IsQuiet : Event → Type 0
IsQuiet (act (entry i p)) = ⊥
IsQuiet _ = ⊤

abbrev AreQuiet : List Event → Type 0
AreQuiet [] = ⊤
AreQuiet (e ∷ es) = IsQuiet e × AreQuiet es

quiet_both : (es fs : List Event) → AreQuiet es → AreQuiet fs → AreQuiet (es ++ fs)
quiet_both [] fs a b = b
quiet_both (e ∷ es) fs a b = (a.0, quiet_both es fs a.1 b)

quiet_events : (x : Script) → Entryless x → AreQuiet (events x)
quiet_events done h = tt
quiet_events (does (entry i p) k) h = absurd h
quiet_events (does (use_value w u) k) h = (tt, quiet_events k h)
quiet_events (does (use_label w u) k) h = (tt, quiet_events k h)
quiet_events (does (define_value w p) k) h = (tt, quiet_events k h)
quiet_events (does (define_label w p) k) h = (tt, quiet_events k h)
quiet_events (does (mark i p) k) h = (tt, quiet_events k h)
quiet_events (does (claim b x) k) h = (tt, quiet_events k h)
quiet_events (within iso p body k) h =
    (tt, quiet_both (events body ++ leave iso p ∷ []) (events k) (quiet_both (events body) (leave iso p ∷ []) (quiet_events body h.0) (tt, tt)) (quiet_events k h.1))

-- ---- what has the same outcome but for marks
module _ (ms : List ℕ) where
  -- these are marked, too
  abbrev with_marks : State → State
  with_marks st = record st { marks = ms ++ st.marks }

  -- if the one goes on, so does the other, and the one has these marks in addition
  abbrev Alike : Outcome → Outcome → Type 0
  Alike (failed f) o = ⊤
  Alike (going z) (going st) = z ≡ with_marks st
  Alike (going z) (failed f) = ⊥

  alike_by : (fs : List Failure) (z st : State) → z ≡ with_marks st → Alike (outcome fs z) (outcome fs st)
  alike_by [] z st e = e
  alike_by (f ∷ fs) z st e = tt

  after_alike : (st : State) (f : Facts) → after (with_marks st) f ≡ with_marks (after st f)
  after_alike st f = ap (λ ns. record (after st f) { marks = ns }) (append_assoc ms st.marks f.marks)

  -- a mark fails where it was there before
  mark_alike : (b c : Bool) (f : Failure) (z st : State) → (c ≡ true → b ≡ true) → z ≡ with_marks st → Alike (outcome (cond b (f ∷ []) []) z) (outcome (cond c (f ∷ []) []) st)
  mark_alike true c f z st h e = tt
  mark_alike false false f z st h e = e
  mark_alike false true f z st h e = absurd (true≢false (sym (h refl)))

  step_alike : (e : Event) (st : State) → IsQuiet e → Alike (step (with_marks st) e) (step st e)
  step_alike (act (use_value w u)) st q = alike_by (act_failures (scopes_of st) (use_value w u)) (after (with_marks st) (fact_of (use_value w u))) (after st (fact_of (use_value w u))) (after_alike st (fact_of (use_value w u)))
  step_alike (act (use_label w u)) st q = alike_by (act_failures (scopes_of st) (use_label w u)) (after (with_marks st) (fact_of (use_label w u))) (after st (fact_of (use_label w u))) (after_alike st (fact_of (use_label w u)))
  step_alike (act (define_value w p)) st q = alike_by (act_failures (scopes_of st) (define_value w p)) (after (with_marks st) (fact_of (define_value w p))) (after st (fact_of (define_value w p))) (after_alike st (fact_of (define_value w p)))
  step_alike (act (define_label w p)) st q = alike_by (act_failures (scopes_of st) (define_label w p)) (after (with_marks st) (fact_of (define_label w p))) (after st (fact_of (define_label w p))) (after_alike st (fact_of (define_label w p)))
  step_alike (act (mark i p)) st q =
      mark_alike (is_among i (ms ++ st.marks)) (is_among i st.marks) (record { cause = DuplicateIndex i; at = Some p }) (after (with_marks st) (fact_of (mark i p))) (after st (fact_of (mark i p)))
      (among_right i ms st.marks) (after_alike st (fact_of (mark i p)))
  step_alike (act (entry i p)) st q = absurd q
  step_alike (act (claim b x)) st q = alike_by (act_failures (scopes_of st) (claim b x)) (after (with_marks st) (fact_of (claim b x))) (after st (fact_of (claim b x))) (after_alike st (fact_of (claim b x)))
  step_alike (enter true) st q = alike_by (not_isolated true (top st.values)) (entered true (with_marks st)) (entered true st) refl
  step_alike (enter false) st q = alike_by (not_isolated false (top st.values)) (entered false (with_marks st)) (entered false st) refl
  step_alike (leave true a) st q = alike_by (left_open a true (ending st)) (left true (with_marks st)) (left true st) refl
  step_alike (leave false a) st q = alike_by (left_open a false (ending st)) (left false (with_marks st)) (left false st) refl

  next_alike : (x y : Outcome) (e : Event) → IsQuiet e → Alike x y → Alike (next x e) (next y e)
  next_alike (failed f) y e q a = tt
  next_alike (going z) (going st) e q a = subst (λ w. Alike (step w e) (step st e)) (sym a) (step_alike e st q)
  next_alike (going z) (failed f) e q a = absurd a

  run_alike : (es : List Event) (x y : Outcome) → AreQuiet es → Alike x y → Alike (run x es) (run y es)
  run_alike [] x y q a = a
  run_alike (e ∷ es) x y q a = run_alike es (next x e) (next y e) q.1 (next_alike x y e q.0 a)

  went_alike : (x y : Outcome) (z : State) → Alike x y → x ≡ going z → (st : State) × (y ≡ going st) × (z ≡ with_marks st)
  went_alike (failed f) y z a e = absurd (cc e)
  went_alike (going w) (going st) z a e = let same : w ≡ z = cc e in (st, refl, sym same ∙ a)
  went_alike (going w) (failed f) z a e = absurd a

  pub ran_without : (x : Script) (start z : State) → Entryless x → run (going (with_marks start)) (events x) ≡ going z → (st : State) × (run (going start) (events x) ≡ going st) × (z ≡ with_marks st)
  ran_without x start z h e = went_alike (run (going (with_marks start)) (events x)) (run (going start) (events x)) z (run_alike (events x) (going (with_marks start)) (going start) (quiet_events x h) refl) e
