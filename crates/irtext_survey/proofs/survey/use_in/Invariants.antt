use Rattle.irtext_grammar.specs.Contexts.Held.{whole}
use Rattle.irtext_survey.specs.Notes.{ended_at, is_at, first_unresolved}
use Rattle.irtext_survey.proofs.Related.{Looked}
use Rattle.irtext_survey.proofs.survey.use_in.Given as goal

-- nothing was found in the notes so far
abbrev pub invariant-loop-index : goal.invariant-loop-index
invariant-loop-index l = Looked (whole l.stream) l.notes (ended_at (is_at (whole l.stream) l.region)) (λ seen iso n. first_unresolved iso n seen) l.index
