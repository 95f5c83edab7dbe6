use Rattle.std.proofs.Common.{take}
use Rattle.irtext_survey.specs.Walk.{Notes, read_as}
use Rattle.irtext_survey.proofs.opening.names_noted.Given as goal

-- the names so far were noted
abbrev pub invariant-loop-index : goal.invariant-loop-index
invariant-loop-index l = Notes l.names.names l.name (read_as l.mention (take l.index l.read)) l.fn.book l.book
