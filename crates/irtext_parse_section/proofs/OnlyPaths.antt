-- What parsing a section does to the state of the parse, one parser after another.
use Rattle.std.proofs.Common.{◌∙◌, refl}
use Rattle.irtext_parse_state.specs.declared.parsable.state.State.{State}
use Rattle.irtext_grammar.proofs.Readers.NewPaths.{adds_none, adds_more}
use Rattle.irtext_parse_section.specs.OnlyPaths.{AddsOnlyPaths}

module _ {T A U : Type 0} where
  -- nothing is added to the context of a state
  pub only_none : (s : State T A U) → AddsOnlyPaths s s
  only_none s = record { lent = refl; rest = record { src = refl; aux_data = refl }; marks = refl; adds = adds_none s.ctx.now }

  -- the paths of one reading and then of another
  pub only_more : {a b c : State T A U} → AddsOnlyPaths a b → AddsOnlyPaths b c → AddsOnlyPaths a c
  only_more h k = record {
    lent = k.lent ∙ h.lent;
    rest = record { src = k.rest.src ∙ h.rest.src; aux_data = k.rest.aux_data ∙ h.rest.aux_data };
    marks = k.marks ∙ h.marks;
    adds = adds_more h.adds k.adds;
  }
