use Rattle.irtext_parse_locations.specs.Together.{TakenSoFar}
use Rattle.irtext_parse_locations.proofs.together.steps_taken.Given as goal

-- the first entries were applied, and the others are left
abbrev pub invariant-loop-entry : goal.invariant-loop-entry
invariant-loop-entry g l = TakenSoFar l.fn.once.entries l.fn.items.items l.entry-iterator.rest.items l.steps.items l.fn.ctx l.ctx
