use Rattle.irtext_context.specs.Context.{ContextView}
use Rattle.irtext_parse_locations.specs.Together.{FinishesAll}
use Rattle.irtext_parse_locations.proofs.together.steps_finished.Given as goal

-- what is left is finished after what was finished
abbrev pub invariant-loop-step : goal.invariant-loop-step
invariant-loop-step g l = (new : ContextView g.row.T.Denot g.row.A.Denot) → FinishesAll l.step-iterator.rest.items l.ctx new → FinishesAll l.fn.steps.items l.fn.ctx new
