-- The effect of an operation's end: its names and its results agree in number, its results are defined, and its mark is recorded.
use Rattle.std.proofs.Common.{◌≡◌, ◌<◌, ◌==◌, ◌∙◌, inl, ℕ, suc, Bool, true, false, List, [], ◌∷◌, ◌++◌, length, map, Some, refl, sym, ap, subst, arith, append-nil, slice_get, eq-eqb, eqb-true}
use Rattle.std.proofs.lemmas.List.{length-map}
use Rattle.irtext_base.specs.Faults as causes
use Rattle.irtext_base.specs.Faults.{fault_of}
use Rattle.irtext_base.specs.Stream.{IsAt}
use Rattle.irtext_stream.specs.Places.{AtOffset}
use Rattle.irtext_base.specs.Text.{Text}
use Rattle.irtext_base.specs.declared.parsable.fault.ParseFault.{ParseFault}
use Rattle.irtext_graph.specs.declared.object.Value.TheVariants.{Result}
use Rattle.irtext_graph.specs.Chained.{Among}
use Rattle.irtext_graph.proofs.Preorders.{among_left, among_right}
use Rattle.irtext_parse_state.specs.States.{marks_of}
use Rattle.irtext_parse_state.specs.declared.parsable.state.State as code
use Rattle.irtext_grammar.specs.Contexts.Formats.{format_of}
use Rattle.irtext_grammar.specs.Grammar.Tree.{Name}
use Rattle.irtext_grammar.specs.Names.Acts.{result_types, result_definitions, word_of}
use Rattle.irtext_grammar.specs.Names.History.{act, Event, State, Outcome, going, failed, outcome, scopes_of, run, after}
use Rattle.irtext_grammar.specs.Names.Scopes.{fact_of}
use Rattle.irtext_grammar.specs.Names.Script as script
use Rattle.irtext_grammar.specs.Names.Script.{Path, Place, result, claim, define_value}
use Rattle.irtext_grammar.specs.Names.TextScopes.{Act, Failure, act_failures}
use Rattle.irtext_names.specs.Linked.{Known, NamesAgree}
use Rattle.irtext_names.proofs.Linked.Outside.{value_definition_outside}
use Rattle.irtext_grammar.specs.Promises.Section.{indices_of}
use Rattle.irtext_scopes.specs.Scopes.{is_open}
use Rattle.irtext_grammar.specs.Naming.{body_of}
use Rattle.irtext_grammar.specs.Resume.{OpenOperation}
use Rattle.irtext_names.specs.Rows.{AreNamed, definitions_from, AreMadeAs, DefinesRow, FailsRow}
use Rattle.irtext_names.proofs.NamesInRow.{rest_fails}
use Rattle.irtext_grammar.specs.declared.parsed.ReadName.{ReadName}
use Rattle.irtext_grammar.specs.Parsed.{Represents}
use Rattle.irtext_parse_nested.specs.declared.frame.BegunOperation.{BegunOperation}
use Rattle.irtext_parse_nested.specs.OpenOperation.{IsBegun, pledge_of}
use Rattle.irtext_names.specs.Definitions.{IsFaultOf}
use Rattle.irtext_parse_nested.specs.Ends.{RefusesResults, uncounted, no_scope, defined_twice}
use Rattle.irtext_names.specs.Items.{Made, Names, Pledge, MachineAgrees, Acts, ActFails, doing}
use Rattle.irtext_parse_nested.proofs.Faults.{place_is_there, named_each, each_length, each_there, some_same, name_failure}
use Rattle.irtext_names.proofs.Gathers.{after_nothing}

-- ---- the machine
-- a state that is reached is the only one
pub same_going : {st next : State} → going st ≡ going next → st ≡ next
same_going e = cc

-- the names of results are defined in their places
pub results_are : (p : Path) (i : ℕ) (ws : List (Name ℕ)) → result_definitions p i ws ≡ definitions_from (result p) i ws
results_are p i [] = refl
results_are p i (w ∷ ws) = ap (λ acts. define_value (word_of w) (result p i) ∷ acts) (results_are p (suc i) ws)

-- definitions note no mark
pub definitions_unmarked : (place : ℕ → Place) (i : ℕ) (ws : List (Name ℕ)) (st next : State) → run (going st) (map act (definitions_from place i ws)) ≡ going next → next.marks ≡ st.marks
definitions_unmarked place i [] st next e = ap (λ s. s.marks) (sym (same_going e))
definitions_unmarked place i (w ∷ ws) st next e =
    let then : State = after st (fact_of (define_value (word_of w) (place i))) in
    let rest : List Event = map act (definitions_from place (suc i) ws) in
    go then rest (act_failures (scopes_of st) (define_value (word_of w) (place i))) e (λ h. definitions_unmarked place (suc i) ws then next h) ∙ append-nil st.marks
  where
    go : (then : State) (rest : List Event) (fs : List Failure) → run (outcome fs then) rest ≡ going next → (run (going then) rest ≡ going next → next.marks ≡ then.marks) → next.marks ≡ then.marks
    go then rest [] h ih = ih h
    go then rest (f ∷ fs) h ih = let s = sym (rest_fails f rest) ∙ h in absurd (cc)

-- names and results do not agree in number
abbrev pub count_failure : ℕ → ℕ → List (Name ℕ) → Failure
count_failure place types ws = record { cause = script.ResultCount types (length ws); at = Some place }

-- the acts at an operation's end, up to its mark
abbrev pub end_acts : Path → ℕ → ℕ → List (Name ℕ) → List Act
end_acts p place types ws = claim (types == length ws) (count_failure place types ws) ∷ (result_definitions p 0 ws ++ [])

pub ends_counted : (p : Path) (place types : ℕ) (ws : List (Name ℕ)) (st : State) → (types == length ws) ≡ true → run (going st) (map act (end_acts p place types ws)) ≡ run (going st) (map act (definitions_from (result p) 0 ws))
ends_counted p place types ws st e = ap (λ b. run (going st) (act (claim b (count_failure place types ws)) ∷ map act (result_definitions p 0 ws ++ []))) e
    ∙ (ap (λ s. run (going s) (map act (result_definitions p 0 ws ++ []))) (after_nothing st)
    ∙ ap (λ acts. run (going st) (map act acts)) (append-nil (result_definitions p 0 ws) ∙ results_are p 0 ws))

pub ends_uncounted : (p : Path) (place types : ℕ) (ws : List (Name ℕ)) (st : State) → (types == length ws) ≡ false → run (going st) (map act (end_acts p place types ws)) ≡ failed (count_failure place types ws)
ends_uncounted p place types ws st e = ap (λ b. run (going st) (act (claim b (count_failure place types ws)) ∷ map act (result_definitions p 0 ws ++ []))) e
    ∙ rest_fails (count_failure place types ws) (map act (result_definitions p 0 ws ++ []))

-- ---- pledges
among_front : {X : Type 0} (x y : X) (xs : List X) → Among x (xs ++ []) → Among x (xs ++ y ∷ [])
among_front x y xs a = among_left x xs (y ∷ []) (subst (λ ys. Among x ys) (append-nil xs) a)

module _ {T A U : Type 0} (names : Names) (text : Text) (s : code.State T A U) (b : BegunOperation) (o : OpenOperation T A) (is : IsBegun names.names text s.ctx.now b o) where
  -- how many types its results have
  abbrev types : ℕ
  types = length (result_types (body_of (format_of s.ctx.now.dialects o.id) o.parts))

  types_are : types ≡ b.results
  types_are = ap (λ ps. length (result_types (body_of (format_of s.ctx.now.dialects o.id) ps))) (sym (append-nil o.parts)) ∙ is.typed [] (λ k d l. absurd (omega (arith, l)))

  names_are : length b.names ≡ length o.names
  names_are = each_length (Represents names.names text) b.names o.names is.names_are

  are_named : AreNamed names.names (map (λ n. n.name) b.names) o.names
  are_named = named_each names.names text b.names o.names is.names_are

  -- what its end does, up to its mark
  abbrev pub closes : (ℕ → Path) → Outcome → Outcome
  closes path = (doing {T = T} {A = A} s.ctx.now.dialects path).closes o.place o.names o.id o.parts

  counted : length b.names ≡ b.results → (types == length o.names) ≡ true
  counted e = let n = types_are in let m = names_are in eq-eqb types (length o.names) (n ∙ (sym e ∙ m))

  made : (path : ℕ → Path) (items : Made) (more : List Pledge) {x : Outcome} (h : MachineAgrees path items (more ++ pledge_of b o.place ∷ []) names s x) → length b.names ≡ b.results → AreMadeAs (result (path o.place)) (Result b.op) (map (λ n. n.name) b.names) h.known
  made path items more h e = λ i l. h.results (pledge_of b o.place) (among_right (pledge_of b o.place) more (pledge_of b o.place ∷ []) (inl refl)) i (subst (λ n. i < n) (length-map b.names (λ n. n.name) ∙ e) l)

  -- the results are defined
  pub closes_acts : (new : Names) (z : code.State T A U) → length b.names ≡ b.results → DefinesRow (Result b.op) (map (λ n. n.name) b.names) names new s.ctx.now.graph z.ctx.now.graph → marks_of z ≡ marks_of s
      → Acts closes names s (pledge_of b o.place ∷ []) new z []
  closes_acts new z e d same = record { so = so }
    where
      so : (path : ℕ → Path) (items : Made) (more : List Pledge) (x : Outcome) → MachineAgrees path items (more ++ pledge_of b o.place ∷ []) names s x → MachineAgrees path items (more ++ []) new z (closes path x)
      so path items more x h =
          let r = d.so o.names are_named (result (path o.place)) h.known h.state (made path items more h e) h.agreed in
          record {
            known = h.known;
            of_items = h.of_items;
            state = r.0;
            going = ap (closes path) h.going ∙ (ends_counted (path o.place) o.place types o.names h.state (counted e) ∙ r.1);
            agreed = r.2;
            marks = definitions_unmarked (result (path o.place)) 0 o.names h.state r.0 r.1 ∙ (h.marks ∙ ap indices_of (sym same));
            results = λ w a. h.results w (among_front w (pledge_of b o.place) more a);
          }

  -- names and results do not agree in number
  pub count_fails : (fault : ParseFault A) → (length b.names ≡ b.results → ⊥) → fault_of fault.cause ≡ causes.ResultCount b.results (length b.names) → fault.committed ≡ true
      → AtOffset b.at.offset text (λ passed rest. IsAt fault.pos.line fault.pos.column passed) → ActFails text closes names s (pledge_of b o.place ∷ []) fault
  count_fails fault ne because flag at = record {
    failure = count_failure o.place types o.names;
    is = record { cause = because ∙ (λ i. causes.ResultCount (sym types_are i) (names_are i)); place = place_is_there is.place at; committed = flag };
    so = so;
  }
    where
      go : (t : Bool) → (types == length o.names) ≡ t → t ≡ false
      go false e = refl
      go true e = absurd (ne (names_are ∙ (sym (eqb-true types (length o.names) e) ∙ types_are)))

      so : (path : ℕ → Path) (items : Made) (more : List Pledge) (x : Outcome) → MachineAgrees path items (more ++ pledge_of b o.place ∷ []) names s x → closes path x ≡ failed (count_failure o.place types o.names)
      so path items more x h = ap (closes path) h.going ∙ ends_uncounted (path o.place) o.place types o.names h.state (go (types == length o.names) refl)

  -- no scope of values is open
  pub outside_fails : (fault : ParseFault A) (first : ReadName) → slice_get b.names 0 ≡ Some first → length b.names ≡ b.results → is_open names.values ≡ false → IsFaultOf names.names text causes.NoActiveScope first fault
      → ActFails text closes names s (pledge_of b o.place ∷ []) fault
  outside_fails fault first f e shut at =
      let t = each_there (Represents names.names text) b.names o.names 0 first is.names_are f in
      record {
        failure = record { cause = script.NoActiveScope t.0.text; at = Some t.0.place };
        is = name_failure causes.NoActiveScope script.NoActiveScope (λ t c e. e) t.2 at;
        so = λ path items more x h. ap (closes path) h.going ∙ (ends_counted (path o.place) o.place types o.names h.state (counted e) ∙ go (path o.place) h.known h.state t.0 o.names t.1 h.agreed);
      }
    where
      go : (p : Path) (known : Known) (st : State) (w : Name ℕ) (ws : List (Name ℕ)) → slice_get ws 0 ≡ Some w → NamesAgree names s.ctx.now.graph known [] st
          → run (going st) (map act (definitions_from (result p) 0 ws)) ≡ failed (record { cause = script.NoActiveScope w.text; at = Some w.place })
      go p known st w [] i h = absurd (cc)
      go p known st w (v ∷ ws) i h =
          let x : Failure = record { cause = script.NoActiveScope v.text; at = Some v.place } in
          ap (λ o. run o (map act (definitions_from (result p) 1 ws))) ((value_definition_outside names s.ctx.now.graph (word_of v) (result p 0) shut).so known [] st h)
          ∙ (rest_fails x (map act (definitions_from (result p) 1 ws)) ∙ ap (λ w. failed (record { cause = script.NoActiveScope w.text; at = Some w.place })) (some_same i))

  -- a name is defined already
  pub twice_fails : (fault : ParseFault A) (index : ℕ) (read : ReadName) → slice_get b.names index ≡ Some read → length b.names ≡ b.results → FailsRow (Result b.op) (map (λ n. n.name) b.names) index names s.ctx.now.graph
      → IsFaultOf names.names text causes.MultipleDefinitions read fault → ActFails text closes names s (pledge_of b o.place ∷ []) fault
  twice_fails fault index read f e d at =
      let t = each_there (Represents names.names text) b.names o.names index read is.names_are f in
      record {
        failure = record { cause = script.MultipleDefinitions t.0.text; at = Some t.0.place };
        is = name_failure causes.MultipleDefinitions script.MultipleDefinitions (λ t c e. e) t.2 at;
        so = λ path items more x h.
            let r = d.so o.names are_named (result (path o.place)) h.known h.state (made path items more h e) h.agreed in
            ap (closes path) h.going ∙ (ends_counted (path o.place) o.place types o.names h.state (counted e)
            ∙ (r.2 ∙ ap (λ w. failed (record { cause = script.MultipleDefinitions w.text; at = Some w.place })) (some_same (sym r.1 ∙ t.1))));
      }

  -- its results are not defined
  pub results_fail : (fault : ParseFault A) → RefusesResults b names s.ctx.now.graph text fault → ActFails text closes names s (pledge_of b o.place ∷ []) fault
  results_fail fault (uncounted ne because flag at) = count_fails fault ne because flag at
  results_fail fault (no_scope first f e shut at) = outside_fails fault first f e shut at
  results_fail fault (defined_twice index read f e d at) = twice_fails fault index read f e d at
