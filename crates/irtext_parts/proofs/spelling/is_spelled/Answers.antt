use Rattle.std.proofs.Common.{◌≡◌, ◌∙◌, true, sym, ap}
use Rattle.std.specs.List.{list_all}
use Rattle.std.specs.Str.{chars}
use Rattle.irtext_base.specs.Text.{begins}
use Rattle.irtext_parts.proofs.SpelledRead.{made_bytes}
use Rattle.irtext_parts.proofs.spelling.is_spelled.Goals as goal

pub returns : goal.returns
returns g c =
    let text = c.args.text.now in
    let rules = g.K.Spelling.rules in
    let first : begins rules.first (chars text) ≡ true = sym c.can_begin.ensures ∙ c.if-not-can_begin.false in
    let made : list_all rules.later (chars text) ≡ true = sym c.is_made.ensures ∙ c.if-not-is_made.false in
    rw (first, made) (c.accepts.ensures ∙ ap rules.test (made_bytes rules g.met.K.Spelling.law text c.utf8.text made))
