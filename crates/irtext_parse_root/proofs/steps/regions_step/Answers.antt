use Rattle.std.proofs.Common.{◌≡◌, ◌∙◌, None, sym, ap, subst, true, false}
use Rattle.irtext_grammar.specs.Reached.{begins_region}
use Rattle.irtext_parse_root.proofs.Chains.{carries_passed}
use Rattle.irtext_parse_root.proofs.Proceeding.{another_proceeds, over_proceeds}
use Rattle.irtext_parse_root.proofs.Sparing.{fine_after, step_made, step_failed, step_ran_out, step_passed}
use Rattle.irtext_parse_root.proofs.Stopping.{another_stops}
use Rattle.irtext_parse_root.proofs.steps.regions_step.Goals as goal

pub returns-then-not-next_is-clause-steps : goal.returns-then-not-next_is-clause-steps
returns-then-not-next_is-clause-steps g c =
    let none = subst (λ t. begins_region t ≡ false) c.space_parse.ensures.rest (sym c.next_is.ensures ∙ c.if-not-next_is.true) in
    let next = c.at_step.ensures ∙ ap (λ z. record c.args.begun { coming = None; step = z }) c.requires.following in
    step_passed (over_proceeds g.T.IrText.reading g.A.IrText.reading g.met.T.IrText.sincere.reads g.met.A.IrText.sincere.reads c.args.names.now c.args.s.now c.space_parse.new.stream c.space_parse.ensures c.args.begun c.at_step.result c.args.frames.now c.requires.next none next c.requires.ready.here)

pub enter-requires-clause-steady : goal.enter-requires-clause-steady
enter-requires-clause-steady g c = record { fine = fine_after c.requires.ready.steady.fine c.space_parse.ensures.moves; sound = c.requires.ready.steady.sound }

pub returns-in-Err-clause-steps : goal.returns-in-Err-clause-steps
returns-in-Err-clause-steps g c =
    let follows_on = subst (λ t. begins_region t ≡ true) c.space_parse.ensures.rest (sym c.next_is.ensures ∙ c.if-not-next_is.false) in
    rw c.ended.ensures
    (step_failed (another_stops g.T.IrText.reading g.A.IrText.reading g.met.T.IrText.sincere.reads g.met.A.IrText.sincere.reads c.args.names.now c.args.s.now c.args.frames.now _ c.args.begun c.in-Err.ensures.committed c.space_parse.new.stream c.space_parse.ensures c.args.isolated c.requires.isolated c.in-Err.ensures.refused c.requires.next follows_on) c.in-Err.ensures.spares)

pub returns-in_default-clause-steps : goal.returns-in_default-clause-steps
returns-in_default-clause-steps g c = step_ran_out c.out_of_memory.ensures (carries_passed c.space_parse.new.stream c.space_parse.ensures.moves c.in-Ok.ensures.enters.carries) c.in-Ok.ensures.spares

pub returns-clause-steps : goal.returns-clause-steps
returns-clause-steps g c =
    let follows_on = subst (λ t. begins_region t ≡ true) c.space_parse.ensures.rest (sym c.next_is.ensures ∙ c.if-not-next_is.false) in
    step_made (another_proceeds g.T.IrText.reading g.A.IrText.reading g.met.T.IrText.sincere.reads g.met.A.IrText.sincere.reads c.args.names.now c.args.s.now c.space_parse.new.stream c.space_parse.ensures c.args.begun c.args.frames.now c.push.new.self c.in-Ok.region c.enter.new.names c.enter.new.s c.args.isolated
    c.in-Ok.ensures.enters c.requires.isolated c.requires.next follows_on c.in-Ok-push.ensures c.requires.ready.here) c.in-Ok.ensures.spares
