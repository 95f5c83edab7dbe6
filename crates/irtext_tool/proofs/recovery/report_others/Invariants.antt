-- What was written so far.
use Rattle.irtext_tool.specs.Told.{WritesMore}
use Rattle.irtext_tool.proofs.recovery.report_others.Given as goal

abbrev pub invariant-loop-turn : goal.invariant-loop-turn
invariant-loop-turn g l = WritesMore (g.E.Write.contents l.fn.errors) (g.E.Write.contents l.errors)
