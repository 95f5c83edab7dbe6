use Rattle.std.proofs.Common.{sym, ap}
use Rattle.std.proofs.lemmas.Str.{chars_from_encodes}
use Rattle.irtext_base.specs.Faults.{Word, characters}
use Rattle.irtext_tokens.proofs.Characters.{encodes-characters}
use Rattle.irtext_tokens.proofs.irfmt.parsers.fixed_text.held.Goals as goal

pub returns-in-Ok-from_str : goal.returns-in-Ok-from_str
returns-in-Ok-from_str c =
    let text = c.args.text.now in
    rw c.in-Ok-from_str.ensures.ok (ap Word (sym (chars_from_encodes (characters text) text c.utf8.text (encodes-characters text c.utf8.text))))
