-- Names, graph and marks that agree with the state of the machine, after acts and edits.
use Rattle.std.proofs.Common.{◌≡◌, ◌∙◌, ℕ, List, [], sym, ap, subst}
use Rattle.irtext_graph.specs.declared.object.Defined.{Defined}
use Rattle.irtext_graph.specs.declared.object.Site.{Site}
use Rattle.irtext_graph.specs.Used.{IsDefined}
use Rattle.irtext_parse_state.specs.States.{marks_of}
use Rattle.irtext_parse_state.specs.declared.parsable.state.State as code
use Rattle.irtext_grammar.specs.Names.History.{State, Event, Outcome, failed, next}
use Rattle.irtext_grammar.specs.Names.Script.{Path}
use Rattle.irtext_grammar.specs.Names.TextScopes.{Failure}
use Rattle.irtext_names.specs.Linked.{IsInPlace, NamesAgree, Takes, FailsBy}
use Rattle.irtext_names.specs.Tied.{MatchesGraph}
use Rattle.irtext_names.proofs.Linked.Steps.{agrees_kept}
use Rattle.irtext_grammar.specs.Promises.Section.{indices_of}
use Rattle.irtext_names.specs.Items.{Made, Names, Pledge, MachineAgrees}

module _ {T A U : Type 0} {path : ℕ → Path} {items : Made} {pledges : List Pledge} {o : Outcome} where
  -- an edit that keeps what is defined and what is in place
  pub agrees_edited : (names : Names) (s z : code.State T A U) → ((d : Defined) → IsDefined s.ctx.now.graph d → IsDefined z.ctx.now.graph d)
      → ((u : Site) (d : Defined) → IsInPlace s.ctx.now.graph d u → IsInPlace z.ctx.now.graph d u) → MatchesGraph names.values names.labels z.ctx.now.graph
      → marks_of z ≡ marks_of s → MachineAgrees path items pledges names s o → MachineAgrees path items pledges names z o
  agrees_edited names s z there in_place tied same h = record {
    known = h.known;
    of_items = h.of_items;
    state = h.state;
    going = h.going;
    agreed = agrees_kept s.ctx.now.graph z.ctx.now.graph names h.known [] h.state there in_place tied h.agreed;
    marks = h.marks ∙ ap indices_of (sym same);
    results = h.results;
  }

  -- an event that takes the machine on, and no mark is recorded
  pub agrees_next : (old new : Names) (s z : code.State T A U) (event : Event) (then : State → State) → Takes event then old new s.ctx.now.graph → ((st : State) → (then st).marks ≡ st.marks)
      → z.ctx.now.graph ≡ s.ctx.now.graph → marks_of z ≡ marks_of s → MachineAgrees path items pledges old s o → MachineAgrees path items pledges new z (next o event)
  agrees_next old new s z event then takes same graph marks h =
      let r = takes.so h.known h.state h.agreed in
      record {
        known = h.known;
        of_items = h.of_items;
        state = then h.state;
        going = ap (λ x. next x event) h.going ∙ r.0;
        agreed = subst (λ g. NamesAgree new g h.known [] (then h.state)) (sym graph) r.1;
        marks = same h.state ∙ (h.marks ∙ ap indices_of (sym marks));
        results = h.results;
      }

  -- an event that fails
  pub agrees_fails : (names : Names) (s : code.State T A U) (event : Event) (failure : Failure) → FailsBy event names s.ctx.now.graph failure → MachineAgrees path items pledges names s o → next o event ≡ failed failure
  agrees_fails names s event failure fails h = ap (λ x. next x event) h.going ∙ fails.so h.known [] h.state h.agreed
