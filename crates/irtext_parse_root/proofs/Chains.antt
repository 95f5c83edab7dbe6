-- Turns one after another, and a fault after them.
use Rattle.std.proofs.Common.{◌≡◌, ◌∙◌, ℕ, Bool, true, false, List, [], ◌∷◌, ◌++◌, length, refl, sym, ap, subst, append-nil, append_assoc, inl, inr, arith, le_refl}
use Rattle.irtext_base.specs.Text.{Text}
use Rattle.irtext_base.specs.Locations.{AttrView}
use Rattle.irtext_base.specs.Stream.{StreamView}
use Rattle.irtext_base.specs.declared.parsable.fault.ParseFault.{ParseFault}
use Rattle.irtext_base.specs.declared.location.Source.{Source}
use Rattle.irtext_context.specs.Dialects.{Table}
use Rattle.irtext_tokens.specs.Infix.{Reader}
use Rattle.irtext_tokens.proofs.Steps.{alone}
use Rattle.irtext_parse_state.specs.States.{KeepsRest, marks_of}
use Rattle.irtext_parse_state.specs.declared.parsable.state.State as code
use Rattle.irtext_parse_state.specs.declared.parsable.state.StateStream.{StateStream}
use Rattle.irtext_grammar.specs.Contexts.Formats.{format_of}
use Rattle.irtext_grammar.specs.Contexts.Held.{whole}
use Rattle.irtext_grammar.specs.Names.History.{Outcome, failed}
use Rattle.irtext_grammar.specs.Names.Script.{Path}
use Rattle.irtext_grammar.specs.Promises.Root.{UnlessMemory}
use Rattle.irtext_grammar.specs.Promises.Section.{Moves}
use Rattle.irtext_grammar.proofs.Readers.Answered.{moves_none, moves_more}
use Rattle.irtext_grammar.specs.Resume.{EndsIn}
use Rattle.irtext_grammar.proofs.Resume.Frames.{goes_trans, stuck_at}
use Rattle.irtext_parse_pieces.proofs.Meanings.{takes_whole}
use Rattle.irtext_parse_nested.proofs.Marking.{gains_nothing}
use Rattle.irtext_parse_nested.specs.Ends.{GainsMarks}
use Rattle.irtext_names.specs.Items.{Names, Made, Pledge, MachineAgrees, Acts, ActsWith, ActFails, IsFailure, IsTextFault, doing}
use Rattle.irtext_names.specs.Located.{IsLocated}
use Rattle.irtext_parse_root.specs.Built.{Built}
use Rattle.irtext_parse_root.specs.Here.{Base}
use Rattle.irtext_parse_root.specs.Levels.{Level, pledges_of}
use Rattle.irtext_parse_root.specs.Recorded.{all_done}
use Rattle.irtext_parse_root.specs.Turned.{Carries, Remains, Turned, Faulted, at_text, by_names}
use Rattle.irtext_parse_root.proofs.Carrying.{falls_both}
use Rattle.irtext_parse_root.proofs.Staying.{stay_still, stay_both}
use Rattle.irtext_parse_root.proofs.Telling.{done_both, goes_recorded, goes_after, stuck_after}
use Rattle.irtext_names.proofs.Lasting.{lasts_then, lasts_itself}

-- ---- acts
module _ {T A U : Type 0} where
  -- nothing is done
  pub acts_none : (names : Names) (s : code.State T A U) (pledges : List Pledge) → Acts (λ path o. o) names s pledges names s pledges
  acts_none names s pledges = record { so = λ path items more o h. h }

  module _ (made : Made) (act : (ℕ → Path) → Outcome → Outcome) (before names : Names) (s z : code.State T A U) where
    -- besides operations that are open further out
    pub acts_besides : (others held opened : List Pledge) → ActsWith made act before s held names z opened → ActsWith made act before s (others ++ held) names z (others ++ opened)
    acts_besides others held opened a = record {
      so = λ path items more o h. subst (λ ps. MachineAgrees path (made ++ items) ps names z (act path o)) (append_assoc more others opened)
          (a.so path items (more ++ others) o (subst (λ ps. MachineAgrees path items ps before s o) (sym (append_assoc more others held)) h));
    }

    -- if no operation is opened
    pub acts_within : (others : List Pledge) → ActsWith made act before s [] names z [] → ActsWith made act before s others names z others
    acts_within others a =
        let b = acts_besides others [] [] a in
        record {
          so = λ path items more o h. subst (λ ps. MachineAgrees path (made ++ items) (more ++ ps) names z (act path o)) (append-nil others)
              (b.so path items more o (subst (λ ps. MachineAgrees path items (more ++ ps) before s o) (sym (append-nil others)) h));
        }

    -- where one is opened
    pub acts_open : (others : List Pledge) (pledge : Pledge) → ActsWith made act before s [] names z (pledge ∷ []) → ActsWith made act before s others names z (others ++ pledge ∷ [])
    acts_open others pledge a =
        let b = acts_besides others [] (pledge ∷ []) a in
        record { so = λ path items more o h. b.so path items more o (subst (λ ps. MachineAgrees path items (more ++ ps) before s o) (sym (append-nil others)) h) }

    -- where one is closed
    pub acts_close : (others : List Pledge) (pledge : Pledge) → ActsWith made act before s (pledge ∷ []) names z [] → ActsWith made act before s (others ++ pledge ∷ []) names z others
    acts_close others pledge a =
        let b = acts_besides others (pledge ∷ []) [] a in
        record { so = λ path items more o h. subst (λ ps. MachineAgrees path (made ++ items) (more ++ ps) names z (act path o)) (append-nil others) (b.so path items more o h) }

  -- an act that fails besides open operations
  pub fails_besides : {text : Text} {act : (ℕ → Path) → Outcome → Outcome} {before : Names} {s : code.State T A U} {held : List Pledge} {fault : ParseFault A} (others : List Pledge) (h : ActFails text act before s held fault)
      → (path : ℕ → Path) (items : Made) (more : List Pledge) (o : Outcome) → MachineAgrees path items (more ++ (others ++ held)) before s o → act path o ≡ failed h.failure
  fails_besides {before = before} {s = s} {held = held} others h path items more o k = h.so path items (more ++ others) o (subst (λ ps. MachineAgrees path items ps before s o) (sym (append_assoc more others held)) k)

-- ---- streams
-- what is parsed leaves the whole text
pub moved_whole : (old new : StreamView) → Moves old new → whole new ≡ whole old
moved_whole old new m = takes_whole alone old new m.taken new.rest m.takes

-- a committed fault is no other
pub never_open : {X : Type 0} (b : Bool) → b ≡ true → b ≡ false → X
never_open b c e = let z : true ≡ false = sym c ∙ e in absurd (cc z)

-- ---- what is carried
-- the source and the caller's data are unchanged by one and by the next
pub rest_both : {T A U : Type 0} {a b c : code.State T A U} → KeepsRest a b → KeepsRest b c → KeepsRest a c
rest_both h k = record { src = k.src ∙ h.src; aux_data = k.aux_data ∙ h.aux_data }

-- marks that were added after others
pub gains_both : {X : Type 0} (a b c : List (ℕ × X)) → GainsMarks a b → GainsMarks b c → GainsMarks a c
gains_both a b c h k = (h.0 ++ k.0, k.1 ∙ (ap (λ z. z ++ k.0) h.1 ∙ append_assoc a h.0 k.0))

module _ {T A U : Type 0} where
  pub carries_still : (names : Names) (s : StateStream T A U) → Carries names s names s
  carries_still names s = record {
    rest = record { src = refl; aux_data = refl };
    moves = moves_none s.stream;
    keeps = λ i text e. e;
    lasts = lasts_itself s.state.ctx.now;
    sound = λ m le h. h;
    gains = gains_nothing refl;
  }

  pub carries_both : {n0 n1 n2 : Names} {s0 s1 s2 : StateStream T A U} → Carries n0 s0 n1 s1 → Carries n1 s1 n2 s2 → Carries n0 s0 n2 s2
  carries_both {s0 = s0} {s1 = s1} {s2 = s2} h k = record {
    rest = rest_both h.rest k.rest;
    moves = moves_more h.moves k.moves;
    keeps = λ i text e. k.keeps i text (h.keeps i text e);
    lasts = lasts_then s0.state.ctx.now s1.state.ctx.now s2.state.ctx.now h.lasts k.lasts;
    sound = λ m le z. let up = h.lasts.made in k.sound m (omega (arith, le, up)) (h.sound m le z);
    gains = gains_both (marks_of s0.state) (marks_of s1.state) (marks_of s2.state) h.gains k.gains;
  }

  -- the same after the stream alone advanced over some text
  pub carries_passed : {n0 n1 : Names} {s0 s1 : StateStream T A U} (v : StreamView) → Moves s0.stream v → Carries n0 (record { stream = v; state = s0.state }) n1 s1 → Carries n0 s0 n1 s1
  carries_passed v m h = record { rest = record { src = h.rest.src; aux_data = h.rest.aux_data }; moves = moves_more m h.moves; keeps = h.keeps; lasts = h.lasts; sound = λ m le z. h.sound m le z; gains = (h.gains.0, h.gains.1) }

  pub carries_pass : (names : Names) (s : StateStream T A U) (v : StreamView) → Moves s.stream v → Carries names s names (record { stream = v; state = s.state })
  carries_pass names s v m = record { rest = record { src = refl; aux_data = refl }; moves = m; keeps = λ i text e. e; lasts = lasts_itself s.state.ctx.now; sound = λ m le h. h; gains = gains_nothing refl }

  -- what remains if a turn fails after others
  pub remains_on : {n0 n1 : Names} {s0 s1 : StateStream T A U} {z : code.State T A U} → Carries n0 s0 n1 s1 → Remains s1.state z → Remains s0.state z
  remains_on {s0 = s0} {s1 = s1} {z = z} h k = record { rest = rest_both h.rest k.rest; gains = gains_both (marks_of s0.state) (marks_of s1.state) (marks_of z) h.gains k.gains }

  -- or if it is out of memory after them
  pub remains_so : {n0 n1 : Names} {s0 s1 : StateStream T A U} → Carries n0 s0 n1 s1 → Remains s0.state s1.state
  remains_so h = record { rest = h.rest; gains = h.gains }

-- ---- turns
module _ {T A U : Type 0} {types_at : Reader T} {attr : Reader (AttrView A)} {dialects : List (Text × Table)} {source : Source} {text : Text} {base : Base} where
  pub turned_none : (ls : List (Level T A)) (names : Names) (s : StateStream T A U) → Turned types_at attr dialects source text base ls names s ls names s
  turned_none ls names s = record {
    did = [];
    made = [];
    goes = record { so = refl };
    acts = acts_none names s.state (pledges_of ls);
    stays = stay_still s.state.ctx.now;
    falls = le_refl (length s.stream.rest);
    marks = [];
    noted = sym (append-nil (marks_of s.state));
    builds = λ start items more ds b. subst (λ z. Built (format_of dialects) (IsLocated source text) base start s.state.ctx.now items z ls ds) (sym (append-nil more)) b;
  }

  pub turned_both : {ls ms ks : List (Level T A)} {n0 n1 n2 : Names} {s0 s1 s2 : StateStream T A U} → Turned types_at attr dialects source text base ls n0 s0 ms n1 s1 → Turned types_at attr dialects source text base ms n1 s1 ks n2 s2
      → Turned types_at attr dialects source text base ls n0 s0 ks n2 s2
  turned_both {ks = ks} {n2 = n2} {s0 = s0} {s1 = s1} {s2 = s2} h k = record {
    did = k.did ++ h.did;
    made = k.made ++ h.made;
    goes = goes_trans h.goes (goes_after k.goes h.did);
    acts = record {
      so = λ path items more o z. subst (λ y. MachineAgrees path ((k.made ++ h.made) ++ items) (more ++ pledges_of ks) n2 s2.state y) (sym (done_both (doing dialects path) k.did h.did o))
          (subst (λ made. MachineAgrees path made (more ++ pledges_of ks) n2 s2.state (all_done (doing dialects path) k.did (all_done (doing dialects path) h.did o))) (sym (append_assoc k.made h.made items))
          (k.acts.so path (h.made ++ items) more (all_done (doing dialects path) h.did o) (h.acts.so path items more o z)));
    };
    stays = stay_both s0.state.ctx.now s1.state.ctx.now s2.state.ctx.now h.stays k.stays;
    falls = falls_both (length s0.stream.rest) h.made k.made (length s1.stream.rest) (length s2.stream.rest) h.falls k.falls;
    marks = h.marks ++ k.marks;
    noted = k.noted ∙ (ap (λ z. z ++ k.marks) h.noted ∙ append_assoc (marks_of s0.state) h.marks k.marks);
    builds = λ start items more ds b. subst (λ es. Built (format_of dialects) (IsLocated source text) base start s2.state.ctx.now ((k.made ++ h.made) ++ items) (more ++ (h.marks ++ k.marks)) ks es) (sym (append_assoc k.did h.did ds))
        (subst (λ made. Built (format_of dialects) (IsLocated source text) base start s2.state.ctx.now made (more ++ (h.marks ++ k.marks)) ks (k.did ++ (h.did ++ ds))) (sym (append_assoc k.made h.made items))
        (subst (λ ms. Built (format_of dialects) (IsLocated source text) base start s2.state.ctx.now (k.made ++ (h.made ++ items)) ms ks (k.did ++ (h.did ++ ds))) (append_assoc more h.marks k.marks)
        (k.builds start (h.made ++ items) (more ++ h.marks) (h.did ++ ds) (h.builds start items more ds b))));
  }

-- the same over what is equal
pub turned_over : {T A U : Type 0} {types_at : Reader T} {attr : Reader (AttrView A)} {base : Base} {ls ks : List (Level T A)} {n0 n1 : Names} {s0 s1 : StateStream T A U} (d e : List (Text × Table)) (source other : Source) (text more : Text)
    → d ≡ e → source ≡ other → text ≡ more → Turned types_at attr d source text base ls n0 s0 ks n1 s1 → Turned types_at attr e other more base ls n0 s0 ks n1 s1
turned_over {types_at = types_at} {attr = attr} {base = base} {ls = ls} {ks = ks} {n0 = n0} {n1 = n1} {s0 = s0} {s1 = s1} d e source other text more p q r h =
    subst (λ z. Turned types_at attr e other z base ls n0 s0 ks n1 s1) r (subst (λ z. Turned types_at attr e z text base ls n0 s0 ks n1 s1) q (subst (λ z. Turned types_at attr z source text base ls n0 s0 ks n1 s1) p h))

-- ---- faults
module _ {T A U : Type 0} {types_at : Reader T} {attr : Reader (AttrView A)} {dialects : List (Text × Table)} {source : Source} {text : Text} {base : Base} where
  -- a fault after a turn
  pub faulted_after : {ls ms : List (Level T A)} {n0 n1 : Names} {s0 s1 : StateStream T A U} {fault : ParseFault A} → Turned types_at attr dialects source text base ls n0 s0 ms n1 s1 → whole s1.stream ≡ whole s0.stream
      → UnlessMemory (Faulted types_at attr dialects ms n1 s1) fault → UnlessMemory (Faulted types_at attr dialects ls n0 s0) fault
  faulted_after h e (inl ran_out) = inl ran_out
  faulted_after {fault = fault} h e (inr (at_text did made names mid still cause place g a f)) =
      inr (at_text (did ++ h.did) (made ++ h.made) names mid still cause place (stuck_at h.goes (stuck_after g h.did))
      (record {
        so = λ path items more o z. subst (λ y. MachineAgrees path ((made ++ h.made) ++ items) (more ++ still) names mid y) (sym (done_both (doing dialects path) did h.did o))
            (subst (λ y. MachineAgrees path y (more ++ still) names mid (all_done (doing dialects path) did (all_done (doing dialects path) h.did o))) (sym (append_assoc made h.made items))
            (a.so path (h.made ++ items) more (all_done (doing dialects path) h.did o) (h.acts.so path items more o z)));
      }) (subst (λ t. IsTextFault t cause place fault) e f))
  faulted_after {fault = fault} h e (inr (by_names failure f ends)) =
      inr (by_names failure (subst (λ t. IsFailure t failure fault) e f)
      (λ path items more o z. subst (EndsIn (failed failure)) (sym (goes_recorded (doing dialects path) refl h.goes o).so) (ends path (h.made ++ items) more (all_done (doing dialects path) h.did o) (h.acts.so path items more o z))))

-- the same over what is equal
pub faulted_over : {T A U : Type 0} {types_at : Reader T} {attr : Reader (AttrView A)} {ls : List (Level T A)} {n0 : Names} {s0 : StateStream T A U} {fault : ParseFault A} (d e : List (Text × Table)) → d ≡ e
    → UnlessMemory (Faulted types_at attr d ls n0 s0) fault → UnlessMemory (Faulted types_at attr e ls n0 s0) fault
faulted_over {types_at = types_at} {attr = attr} {ls = ls} {n0 = n0} {s0 = s0} {fault = fault} d e p h = subst (λ z. UnlessMemory (Faulted types_at attr z ls n0 s0) fault) p h
