use Rattle.std.proofs.Common.{ℕ, length}
use Rattle.irtext_context.specs.Context.{ContextView}
use Rattle.irtext_parse_locations.specs.Together.{TakesAll}
use Rattle.irtext_parse_locations.proofs.together.steps_undone.Given as goal

abbrev pub decreases-loop-step : goal.decreases-loop-step
decreases-loop-step g l = length l.steps.items

-- what is older is as the steps that are left made it
abbrev pub invariant-loop-step : goal.invariant-loop-step
invariant-loop-step g l = (mark : ℕ) (first : ContextView g.row.T.Denot g.row.A.Denot) → TakesAll mark l.fn.steps.items first l.fn.ctx → TakesAll mark l.steps.items first l.ctx
