use Rattle.std.proofs.Common.{◌∙◌, ap}
use Rattle.irtext_syntax.specs.NameTexts.{word_text}
use Rattle.irtext_syntax.proofs.name.NameTryClone.try_clone.Goals as goal

pub returns : goal.returns
returns c = ap word_text c.in_ok-identifier.ensures.cases ∙ c.self.view_is
