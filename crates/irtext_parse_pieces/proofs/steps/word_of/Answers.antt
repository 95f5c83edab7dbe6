use Rattle.std.proofs.Common.{◌∙◌, ap, sym}
use Rattle.std.proofs.lemmas.Str.{chars_from_encodes}
use Rattle.std.specs.Str.{chars}
use Rattle.irtext_base.specs.Faults.{characters}
use Rattle.irtext_base.specs.Format.{word}
use Rattle.irtext_grammar.specs.Heads.{flat}
use Rattle.irtext_tokens.proofs.Characters.{encodes-characters}
use Rattle.irtext_parse_pieces.proofs.steps.word_of.Goals as goal

pub returns-in-Literal : goal.returns-in-Literal
returns-in-Literal c =
    let bytes = c.as_str.result.now in
    let e = chars_from_encodes (characters bytes) bytes c.as_str.utf8 (encodes-characters bytes c.as_str.utf8) ∙ ap chars c.as_str.ensures.value in
    rw c.in-Directive.is (rw c.in-Literal.is (ap (λ w. flat (word w)) (sym e)))
