use Rattle.std.proofs.Common.{◌∙◌, ap}
use Rattle.std.specs.Str.{chars}
use Rattle.irtext_syntax.specs.ScalarTexts.{scalar_text}
use Rattle.irtext_syntax.proofs.characters.Characters.try_clone.Goals as goal

pub returns : goal.returns
returns c = ap (λ bytes. scalar_text (chars bytes)) c.in_ok-text.ensures.cases ∙ c.self.view_is
