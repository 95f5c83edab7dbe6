use Rattle.std.proofs.Common.{inl, refl, subst}
use Rattle.irtext_grammar.specs.Contexts.Held.{whole}
use Rattle.irtext_parse_nested.specs.Ends.{GivesNames}
use Rattle.irtext_names.specs.Located.{IsLocated}
use Rattle.irtext_parse_nested.proofs.OperationClosed.{close_acts, close_sound, close_lasts, close_spares, close_keeps, close_own}
use Rattle.irtext_names.proofs.Outcomes.{on_ok, if_err}
use Rattle.irtext_parse_nested.proofs.Marking.{always_ok, on_ok_handed}
use Rattle.irtext_parse_nested.proofs.operation_end.close.Goals as goal

pub returns-clause-closes : goal.returns-clause-closes
returns-clause-closes g c = always_ok c.or_memory.result
    (λ o is. close_acts c.args.names.now c.results_defined.new.names c.args.s.now.state c.results_defined.new.s.state _ c.args.begun.now o (c.in_default.ensures.closes o is) c.given_kept-stored.ensures.writes refl c.in_default.ensures.tied)

pub returns-clause-refused : goal.returns-clause-refused
returns-clause-refused g c = if_err c.or_memory.result (λ f ran_out. inl ran_out) c.or_memory.ensures.ran_out

pub returns-clause-lasts : goal.returns-clause-lasts
returns-clause-lasts g c = close_lasts c.args.s.now.state.ctx.now c.results_defined.new.s.state.ctx.now c.given_kept-stored.new.ctx c.args.begun.now.op c.in_default.ensures.lasts c.given_kept-stored.ensures.writes

pub returns-clause-own : goal.returns-clause-own
returns-clause-own g c = on_ok c.or_memory.result
    (λ gives. close_own c.args.s.now.state.ctx.now c.results_defined.new.s.state.ctx.now c.given_kept-stored.new.ctx c.args.begun.now.op c.in_default.ensures.spares (IsLocated c.args.s.now.state.src (whole c.args.s.now.stream)) c.args.names.now.names (whole c.args.s.now.stream) c.args.begun.now.names
    (subst (λ ns. GivesNames ns c.args.begun.now.names c.results_defined.new.s.state.ctx.now c.given_kept-stored.new.ctx c.args.begun.now.op) c.in_default.ensures.names gives)) (on_ok_handed _ c.given_kept-stored.result c.or_memory.result c.or_memory.ensures.value c.given_kept-stored.ensures.gives)

pub returns-clause-spares : goal.returns-clause-spares
returns-clause-spares g c = close_spares c.args.s.now.state.ctx.now c.results_defined.new.s.state.ctx.now c.given_kept-stored.new.ctx c.args.begun.now.op c.in_default.ensures.spares c.given_kept-stored.ensures.writes

pub returns-clause-sound : goal.returns-clause-sound
returns-clause-sound g c = λ m h. close_sound c.results_defined.new.names c.results_defined.new.s.state _ c.args.begun.now.op c.given_kept-stored.ensures.writes m (c.in_default.ensures.sound m h)

pub returns-clause-kept : goal.returns-clause-kept
returns-clause-kept g c = λ m closed h new. close_keeps c.args.s.now.state.ctx.now c.results_defined.new.s.state.ctx.now c.given_kept-stored.new.ctx c.args.begun.now.op c.in_default.ensures.spares m (c.in_default.ensures.kept m closed h) c.given_kept-stored.ensures.writes (c.in_default.ensures.newer m new)
