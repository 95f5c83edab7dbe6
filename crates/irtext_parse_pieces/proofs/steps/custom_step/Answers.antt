use Rattle.std.proofs.Common.{refl}
use Rattle.irtext_parse_pieces.proofs.FormatSteps.{custom_there, custom_none}
use Rattle.irtext_parse_pieces.proofs.steps.custom_step.Goals as goal

pub returns-in-Some-clause-step : goal.returns-in-Some-clause-step
returns-in-Some-clause-step c =
    let h = c.in-Some.ensures.lookup in
    let directives = c.args.directives.now in
    custom_there directives directives c.args.index c.in-Some.directive.now refl h.3.0 (h.3.1 c.in-Some.directive.now)

pub returns-in-None-clause-step : goal.returns-in-None-clause-step
returns-in-None-clause-step c = custom_none c.args.directives.now c.args.directives.now c.args.index refl c.in-None.ensures.lookup.3
