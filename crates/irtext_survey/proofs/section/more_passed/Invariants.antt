use Rattle.std.proofs.Common.{◌≡◌, ℕ, false, [], ◌∷◌, length}
use Rattle.irtext_tokens.specs.AttrTexts.{attr_at}
use Rattle.irtext_grammar.specs.Grammar.Section.{Item}
use Rattle.irtext_grammar.specs.Grammar.Tree.{Name}
use Rattle.irtext_survey.specs.Section.{pair_in}
use Rattle.irtext_survey.proofs.Passing.{Passing}
use Rattle.irtext_survey.proofs.section.more_passed.Given as goal

-- after any first pair, pairs of the text were passed
abbrev pub invariant-loop-stream : goal.invariant-loop-stream
invariant-loop-stream g l = (first : Name ℕ × Item ℕ g.row.A.Denot) → l.fn.stream.failed ≡ false → Passing (pair_in (attr_at g.A.IrText.reading)) (first ∷ []) l.fn.stream l.stream

abbrev pub decreases-loop-stream : goal.decreases-loop-stream
decreases-loop-stream g l = length l.stream.rest
