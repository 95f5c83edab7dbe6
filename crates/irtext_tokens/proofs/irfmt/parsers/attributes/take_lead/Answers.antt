use Rattle.std.proofs.Common.{◌∙◌}
use Rattle.irtext_tokens.proofs.irfmt.parsers.attributes.take_lead.Goals as goal

pub returns-then-take_word-2 : goal.returns-then-take_word-2
returns-then-take_word-2 g c =
    let second = rw c.if-take_word.ensures.1 at c.if-take_word-2.ensures in
    (c.if-take_word.ensures.0, second.0, second.1)

pub returns : goal.returns
returns g c = (c.if-take_word.ensures.0, rw c.if-take_word.ensures.1 at c.if-take_word-2.ensures.0, c.if-take_word-2.ensures.1 ∙ c.if-take_word.ensures.1)
