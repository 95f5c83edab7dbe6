use Rattle.std.proofs.lemmas.Str.{chars_from_encodes}
use Rattle.irtext_base.specs.Faults.{characters}
use Rattle.irtext_tokens.proofs.Characters.{encodes-characters}
use Rattle.irtext_parse_pieces.proofs.pieces.accepts.Goals as goal

pub returns : goal.returns
returns g c =
    let bytes = c.args.text.now in
    rw (← chars_from_encodes (characters bytes) bytes c.utf8.text (encodes-characters bytes c.utf8.text)) at c.accept.ensures
