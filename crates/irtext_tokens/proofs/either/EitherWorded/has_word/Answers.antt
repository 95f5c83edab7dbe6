use Rattle.std.proofs.Common.{sym, ◌∙◌}
use Rattle.irtext_base.proofs.Characters.{or_left}
use Rattle.irtext_tokens.specs.EitherWords.{one_of_both, or_false}
use Rattle.irtext_tokens.proofs.either.EitherWorded.has_word.Goals as goal

pub returns-then-has_word : goal.returns-then-has_word
returns-then-has_word g c = c.if-has_word.true ∙ sym (one_of_both g.L.Worded.words g.R.Worded.words c.args.word.now ∙ or_left _ _ (sym c.has_word.ensures ∙ c.if-has_word.true))

pub returns-else-has_word : goal.returns-else-has_word
returns-else-has_word g c = c.has_word-else-has_word.ensures ∙ sym (one_of_both g.L.Worded.words g.R.Worded.words c.args.word.now ∙ or_false _ _ (sym c.has_word.ensures ∙ c.if-has_word.false))
