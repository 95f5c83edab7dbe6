use Rattle.std.proofs.Common.{◌∙◌, ap, slice_get}
use Rattle.irtext_parse_pieces.specs.Steps.{custom_steps}
use Rattle.irtext_parse_pieces.proofs.steps.step_at.Goals as goal

pub returns-in-Custom : goal.returns-in-Custom
returns-in-Custom c = rw c.in-Custom.is (c.custom_step.ensures.step ∙ ap (λ ds. slice_get (custom_steps ds) c.args.index) c.deref.ensures.value)
