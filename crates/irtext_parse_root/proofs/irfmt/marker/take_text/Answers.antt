use Rattle.std.proofs.lemmas.Str.{chars_from_encodes}
use Rattle.irtext_base.specs.Faults.{characters}
use Rattle.irtext_tokens.proofs.Characters.{encodes-characters}
use Rattle.irtext_grammar.proofs.Readers.MarkerSteps.{word_accepted}
use Rattle.irtext_parse_root.proofs.irfmt.marker.take_text.Goals as goal

pub returns : goal.returns
returns g c =
    let m = g.met.S.CharStream in
    let bytes = c.args.text.now in
    word_accepted g.S.CharStream.view g.S.CharStream.at m.view_at m.at_view m.at_at (characters bytes) c.args.stream.now c.accept_spaced.new.self c.accept_spaced.result (rw (← chars_from_encodes (characters bytes) bytes c.utf8.text (encodes-characters bytes c.utf8.text)) at c.accept_spaced.ensures)
