use Rattle.std.proofs.Common.{take}
use Rattle.irtext_survey.specs.Walk.{Notes, arguments_read}
use Rattle.irtext_survey.proofs.opening.arguments_noted.Given as goal

-- the names so far were noted
abbrev pub invariant-loop-index : goal.invariant-loop-index
invariant-loop-index g l = Notes l.names.names l.name (arguments_read (take l.index l.arguments)) l.fn.book l.book
