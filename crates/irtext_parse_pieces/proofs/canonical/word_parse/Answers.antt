use Rattle.std.proofs.lemmas.Str.{chars_from_encodes}
use Rattle.irtext_base.specs.Faults.{characters}
use Rattle.irtext_tokens.proofs.Characters.{encodes-characters}
use Rattle.irtext_tokens.proofs.Steps.{lens}
use Rattle.irtext_parse_pieces.proofs.CanonicalSteps.{spaced_word}
use Rattle.irtext_parse_pieces.proofs.canonical.word_parse.Goals as goal

pub returns-then-accept_spaced : goal.returns-then-accept_spaced
returns-then-accept_spaced g c = λ fine.
    let m = g.met.S in
    let l = lens g.S.CharStream.view g.S.CharStream.at m.CharStream.view_at m.CharStream.at_view m.CharStream.at_at in
    let bytes = c.args.text.now in
    let h = rw (← chars_from_encodes (characters bytes) bytes c.utf8.text (encodes-characters bytes c.utf8.text)) at c.if-accept_spaced.ensures in
    spaced_word l (characters bytes) h.0 fine h.1 h.2
