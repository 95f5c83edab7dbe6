use Rattle.std.proofs.Common.{take, map}
use Rattle.irtext_survey.specs.Walk.{Notes, all_read}
use Rattle.irtext_survey.proofs.opening.found_noted.Given as goal

-- the pieces so far were noted
abbrev pub invariant-loop-index : goal.invariant-loop-index
invariant-loop-index g l = Notes l.names.names l.name (all_read (map (λ f. f.1) (take l.index l.pieces))) l.fn.book l.book
