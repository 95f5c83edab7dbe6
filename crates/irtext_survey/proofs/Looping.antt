-- The loop over the open frames.
use Rattle.std.proofs.Common.{◌≡◌, ◌∙◌, ◌<◌, ◌+◌, ◌*◌, ◌⊎◌, ℕ, suc, true, false, List, [], ◌∷◌, map, length, drop, Option, Some, None, Result, Ok, Err, refl, sym, ap, subst, arith, inl, inr}
use Rattle.irtext_base.specs.Text.{Text}
use Rattle.irtext_base.specs.Format.{Id}
use Rattle.irtext_base.specs.Answers.{Read}
use Rattle.irtext_base.specs.Faults.{Fault}
use Rattle.irtext_base.specs.Stream.{StreamView}
use Rattle.irtext_base.specs.Locations.{AttrView}
use Rattle.irtext_base.specs.declared.parsable.fault.ParseFault.{ParseFault}
use Rattle.irtext_context.specs.Dialects.{Table}
use Rattle.irtext_tokens.specs.AttrTexts.{attr_at}
use Rattle.irtext_tokens.specs.Infix.{Reader}
use Rattle.irtext_scopes.specs.Names.{KeepsNames}
use Rattle.irtext_grammar.specs.Contexts.Held.{whole}
use Rattle.irtext_grammar.specs.Promises.Root.{UnlessMemory}
use Rattle.irtext_grammar.specs.Promises.Section.{Moves}
use Rattle.irtext_grammar.specs.Grammar.Tree.{Name}
use Rattle.irtext_grammar.specs.Heads.{front_steps, led_at, setting}
use Rattle.irtext_grammar.specs.Reached.{Advanced, steps_in}
use Rattle.irtext_grammar.specs.Resume as theory
use Rattle.irtext_grammar.specs.Resume.{OpenOperation, Open, front_at, begun, to_come, an_operation, a_region, a_block, Goes, StoppedAt, weight, weights, to_do, work, by_character}
use Rattle.irtext_grammar.specs.Parsed.{Each}
use Rattle.irtext_grammar.proofs.Joins.Answers.{Splits}
use Rattle.irtext_grammar.proofs.Readers.Answered.{moves_none, moves_more}
use Rattle.irtext_grammar.proofs.Resume.Frames.{goes_trans, stuck_at}
use Rattle.irtext_grammar.proofs.Resume.Front.{splits_inside, front_reads, front_misses}
use Rattle.irtext_grammar.proofs.Resume.Turns.{operation_begins, no_lead, no_front}
use Rattle.irtext_survey.specs.Notes.{Noted, nothing_noted, noter}
use Rattle.irtext_survey.specs.Walk.{IsNote, IsNoted, IsOpen, IsNext, IsHere, IsReady, IsMissed, Begun, NotBegun, Arrives, Nearer, Proceeds, Stops}
use Rattle.irtext_survey.specs.Root.{task_of, left_to_do, Rested, Rests, TreeNoted, PartNoted, Trees}
use Rattle.irtext_survey.specs.declared.frames.Frame.{Frame}
use Rattle.irtext_survey.specs.declared.frames.Frame.TheVariants as framed
use Rattle.irtext_survey.specs.declared.frames.OpenOperation.{OpenOperation as Held}
use Rattle.irtext_survey.specs.declared.opening.Notebook.{Notebook}
use Rattle.irtext_survey.proofs.Stepping.{moved_whole, same_names}

-- ---- how much is left to do
module _ {T A : Type 0} (dialects : List (Text × Table)) (names : List Text) (text : Text) where
  weight_same : (f : Frame) (o : Open T A) → IsOpen dialects names text f o → weight (task_of {T = T} {A = A} dialects f) ≡ weight o
  weight_same (framed.Operation b) (an_operation o) h = ap suc (ap length (ap (λ i. drop b.step (steps_in dialects i)) h.id ∙ sym h.steps))
  weight_same (framed.Operation b) (to_come i) h = absurd h
  weight_same (framed.Operation b) (a_region i p) h = absurd h
  weight_same (framed.Operation b) (a_block i) h = absurd h
  weight_same (framed.Region r) (a_region i p) h = refl
  weight_same (framed.Region r) (to_come i) h = absurd h
  weight_same (framed.Region r) (an_operation o) h = absurd h
  weight_same (framed.Region r) (a_block i) h = absurd h
  weight_same (framed.Block i) (a_block j) h = ap (λ z. let o : Open T A = a_block z in weight o) h
  weight_same (framed.Block i) (to_come j) h = absurd h
  weight_same (framed.Block i) (an_operation o) h = absurd h
  weight_same (framed.Block i) (a_region j p) h = absurd h

  weights_same : (fs : List Frame) (os : List (Open T A)) → Each (IsOpen {T = T} {A = A} dialects names text) fs os → weights (map (task_of {T = T} {A = A} dialects) fs) ≡ weights os
  weights_same [] [] e = refl
  weights_same [] (o ∷ os) e = absurd e
  weights_same (f ∷ fs) [] e = absurd e
  weights_same (f ∷ fs) (o ∷ os) e = let m = weight_same f o e.0 in let n = weights_same fs os e.1 in omega (arith, m, n)

  pub work_same : (next : Option Frame) (fs : List Frame) (f : Option (Open T A)) (os : List (Open T A)) (t : Text) → IsNext dialects names text next f → Each (IsOpen {T = T} {A = A} dialects names text) fs os
      → left_to_do T A dialects next fs t ≡ work (by_character dialects) f os t
  work_same None fs None os t h e = refl
  work_same None fs (Some o) os t h e = absurd h
  work_same (Some g) fs None os t h e = absurd h
  work_same (Some g) fs (Some o) os t h e = let m = weight_same g o h in let n = weights_same fs os e in ap (λ k. by_character dialects * length t + k) (let q : weight (task_of {T = T} {A = A} dialects g) + weights (map (task_of {T = T} {A = A} dialects) fs) ≡ weight o + weights os = omega (arith, m, n) in q)

-- ---- the loop
module _ {T A : Type 0} (types_at : Reader T) (attr : Reader (AttrView A)) (dialects : List (Text × Table)) (name : Text) (before : List Text) (book : Notebook) (first : Frame) (old : StreamView) where
  -- how far the loop has come
  pub record Came (names : List Text) (now : Notebook) (next : Option Frame) (waits : List Frame) (mid : StreamView) : Type 0 where
    pub moves : Moves old mid
    pub keeps : KeepsNames before names
    pub arrives : (f : Option (Open T A)) (fs : List (Open T A)) (s : Noted) → IsHere dialects before (whole old) book (Some first) [] f fs s
        → Arrives types_at attr dialects name before book (Some first) [] old names now next waits mid f fs s

  pub came_first : (waits : List Frame) → waits ≡ [] → Came before book (Some first) waits old
  came_first waits none = record {
    moves = moves_none old;
    keeps = same_names before;
    arrives = λ f fs s at. record { f' = f; fs' = fs; s' = s; here = subst (λ w. IsHere dialects before (whole old) book (Some first) w f fs s) (sym none) at; goes = record { so = refl } };
  }

  module _ (names : List Text) (now : Notebook) (frame : Frame) (waits : List Frame) (mid : StreamView) (c : Came names now (Some frame) waits mid) where
    here_on : (a b : StreamView) → whole a ≡ whole b → (ns : List Text) (k : Notebook) (n : Option Frame) (w : List Frame) (f : Option (Open T A)) (fs : List (Open T A)) (s : Noted) → IsHere dialects ns (whole a) k n w f fs s → IsHere dialects ns (whole b) k n w f fs s
    here_on a b same ns k n w f fs s h = subst (λ t. IsHere dialects ns t k n w f fs s) same h

    pub came_ready : IsReady T A dialects before (whole old) book (Some first) [] → IsReady T A dialects names (whole mid) now (Some frame) waits
    came_ready r =
        let a = c.arrives r.f r.fs r.s r.here in
        record { f = a.f'; fs = a.fs'; s = a.s'; here = here_on old mid (sym (moved_whole old mid c.moves)) names now (Some frame) waits a.f' a.fs' a.s' a.here }

    module _ (names' : List Text) (later : Notebook) (next : Option Frame) (waits' : List Frame) (new : StreamView) (p : Proceeds types_at attr dialects name names now (Some frame) waits mid names' later next waits' new) where
      nearer_by : (f : Option (Open T A)) (fs : List (Open T A)) (s : Noted) → (a : Arrives types_at attr dialects name before book (Some first) [] old names now (Some frame) waits mid f fs s)
          → Nearer types_at attr dialects name names now (Some frame) waits mid names' later next waits' new a.f' a.fs' a.s'
      nearer_by f fs s a = p.nearer a.f' a.fs' a.s' (here_on old mid (sym (moved_whole old mid c.moves)) names now (Some frame) waits a.f' a.fs' a.s' a.here)

      pub came_on : Came names' later next waits' new
      came_on = record {
        moves = moves_more c.moves p.moves;
        keeps = λ i t e. p.keeps i t (c.keeps i t e);
        arrives = λ f fs s at.
            let a = c.arrives f fs s at in
            let b = (nearer_by f fs s a).arrives in
            record { f' = b.f'; fs' = b.fs'; s' = b.s'; here = here_on mid old (moved_whole old mid c.moves) names' later next waits' b.f' b.fs' b.s' b.here; goes = goes_trans a.goes b.goes };
      }

      pub less_on : IsReady T A dialects before (whole old) book (Some first) [] → left_to_do T A dialects next waits' new.rest < left_to_do T A dialects (Some frame) waits mid.rest
      less_on r =
          let a = c.arrives r.f r.fs r.s r.here in
          let n = nearer_by r.f r.fs r.s a in
          let x = work_same dialects names (whole old) (Some frame) waits a.f' a.fs' mid.rest a.here.next_is a.here.others in
          let y = work_same dialects names' (whole mid) next waits' n.arrives.f' n.arrives.fs' new.rest n.arrives.here.next_is n.arrives.here.others in
          let l = n.less in
          omega (arith, x, y, l)

    pub stops_on : (later : Notebook) (new : StreamView) {fault : ParseFault A} → UnlessMemory (λ _. Stops types_at attr dialects name names now (Some frame) waits mid later new) fault → UnlessMemory (λ _. Stops types_at attr dialects name before book (Some first) [] old later new) fault
    stops_on later new (inl m) = inl m
    stops_on later new (inr p) = inr (record {
      same = p.same ∙ moved_whole old mid c.moves;
      stops = λ f fs s at.
          let a = c.arrives f fs s at in
          let q = p.stops a.f' a.fs' a.s' (here_on old mid (sym (moved_whole old mid c.moves)) names now (Some frame) waits a.f' a.fs' a.s' a.here) in
          (q.0, q.1, q.2, stuck_at a.goes q.3, subst (λ t. IsNoted t later q.0) (moved_whole old mid c.moves) q.4);
    })

  pub came_last : (names : List Text) (now : Notebook) (waits : List Frame) (mid : StreamView) → Came names now None waits mid → Rested types_at attr dialects name before book first old now mid
  came_last names now waits mid c = record {
    moves = c.moves;
    done = λ f s at.
        let a = c.arrives f [] s at in
        (a.s', a.goes.so ∙ none a.f' a.fs' a.s' a.here.next_is, a.here.noted);
  }
    where
      none : (f : Option (Open T A)) (fs : List (Open T A)) (s : Noted) → IsNext dialects names (whole old) None f → theory.whole dialects types_at attr (noter name) f fs s mid.rest ≡ Advanced tt s mid.rest
      none None fs s h = refl
      none (Some o) fs s h = absurd h

-- ---- a root
module _ {T A : Type 0} (types_at : Reader T) (reading : Reader A) (h : Splits types_at) (k : Splits reading) (dialects : List (Text × Table)) (name : Text) (before : List Text) (book : Notebook) (old : StreamView) (notes : book.notes.items ≡ []) (marked : book.marked ≡ false) where
  abbrev attr : Reader (AttrView A)
  attr = attr_at reading

  empty : IsNoted (whole old) book nothing_noted
  empty = record { notes = subst (λ l. Each (IsNote (whole old)) l []) (sym notes) tt; marked = marked }

  -- its beginning is at fault
  pub root_unbegun : (later : Notebook) (new : StreamView) {fault : ParseFault A} → UnlessMemory (λ _. NotBegun types_at attr dialects name book old later new) fault → UnlessMemory (λ _. PartNoted types_at attr dialects name old later new) fault
  root_unbegun later new (inl m) = inl m
  root_unbegun later new (inr u) = inr (stuck u.missed)
    where
      still : IsNoted (whole old) later nothing_noted
      still = subst (λ z. IsNoted (whole old) z nothing_noted) (sym u.still) empty

      part : {cause : Fault} {place : ℕ} → StoppedAt dialects types_at attr (noter name) (Some (let o : Open T A = to_come true in o)) [] nothing_noted old.rest nothing_noted cause place → PartNoted types_at attr dialects name old later new
      part {cause} {place} x = record { s = nothing_noted; cause = cause; place = place; read = x.so; noted = still; same = u.same }

      stuck : IsMissed (led_at dialects old.rest) ⊎ ((lead : (List (Name ℕ) × Id) × Text × Text) × (led_at dialects old.rest ≡ Read lead.0 lead.1 lead.2)
          × IsMissed (front_at types_at attr (setting true true) (front_steps (steps_in dialects lead.0.1)) [] lead.2)) → PartNoted types_at attr dialects name old later new
      stuck (inl m) = part (no_lead dialects types_at attr (noter name) [] true nothing_noted old.rest m.cause m.upto m.bad)
      stuck (inr (lead, led, m)) = part (no_front dialects types_at attr (noter name) [] true nothing_noted old.rest lead.0.0 lead.0.1 lead.1 lead.2 led nothing_noted m.cause _
          (front_misses dialects types_at attr (noter name) (setting true true) (splits_inside types_at reading h k true) (front_steps (steps_in dialects lead.0.1)) [] lead.2 nothing_noted m.cause m.upto m.bad))

  module _ (b : Held) (names : List Text) (mid : Notebook) (v : StreamView) (e : Begun types_at attr dialects name before book old b names mid v) where
    abbrev o : OpenOperation T A
    o = begun dialects (length old.rest) e.results e.id e.parts

    abbrev s : Noted
    s = (noter {T = T} {A = A} name).uses (length old.rest) e.id e.parts nothing_noted

    begins : Goes dialects types_at attr (noter name) (Some (to_come true)) [] nothing_noted old.rest (Some (an_operation o)) [] s v.rest
    begins = operation_begins dialects types_at attr (noter name) [] true nothing_noted old.rest e.results e.id e.lead e.middle e.led e.parts v.rest
        (front_reads dialects types_at attr (noter name) (setting true true) (splits_inside types_at reading h k true) (front_steps (steps_in dialects e.id)) [] e.parts e.middle e.taken v.rest nothing_noted e.front)

    here : IsHere dialects names (whole v) mid (Some (framed.Operation b)) [] (Some (an_operation o)) [] s
    here = subst (λ t. IsHere dialects names t mid (Some (framed.Operation b)) [] (Some (an_operation o)) [] s) (sym (moved_whole old v e.moves))
        (record { next_is = e.held; others = tt; noted = e.noted nothing_noted empty })

    pub root_ready : IsReady T A dialects names (whole v) mid (Some (framed.Operation b)) []
    root_ready = record { f = Some (an_operation o); fs = []; s = s; here = here }

    pub root_read : (later : Notebook) (new : StreamView) → Rested types_at attr dialects name names mid (framed.Operation b) v later new → TreeNoted types_at attr dialects name old later new
    root_read later new r =
        let q = r.done (Some (an_operation o)) s here in
        record { s = q.0; read = begins.so ∙ q.1; noted = subst (λ t. IsNoted t later q.0) (moved_whole old v e.moves) q.2; moves = moves_more e.moves r.moves }

    pub root_stops : (later : Notebook) (new : StreamView) {fault : ParseFault A} → UnlessMemory (λ _. Stops types_at attr dialects name names mid (Some (framed.Operation b)) [] v later new) fault → UnlessMemory (λ _. PartNoted types_at attr dialects name old later new) fault
    root_stops later new (inl m) = inl m
    root_stops later new (inr p) =
        let q = p.stops (Some (an_operation o)) [] s here in
        inr (record { s = q.0; cause = q.1; place = q.2; read = begins.so ∙ q.3.so; noted = subst (λ t. IsNoted t later q.0) (moved_whole old v e.moves) q.4; same = p.same ∙ moved_whole old v e.moves })

    pub root_rests : (later : Notebook) (new : StreamView) (result : Result (Unit {0}) (ParseFault A)) → Rests types_at attr dialects name names mid (framed.Operation b) v result later new → Trees types_at attr dialects name old result later new
    root_rests later new (Ok done) r = root_read later new r
    root_rests later new (Err fault) r = root_stops later new r
