use Rattle.irtext_grammar.specs.Contexts.Held.{whole}
use Rattle.irtext_survey.specs.Notes.{defined_at, is_at, first_in_scope}
use Rattle.irtext_survey.proofs.Related.{Looked}
use Rattle.irtext_survey.proofs.survey.definition_in.Given as goal

-- nothing was found in the notes so far
abbrev pub invariant-loop-index : goal.invariant-loop-index
invariant-loop-index l = Looked (whole l.stream) l.notes (defined_at (is_at (whole l.stream) l.second)) (λ seen m n. first_in_scope m n seen) l.index
