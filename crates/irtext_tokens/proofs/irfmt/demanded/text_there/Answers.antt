use Rattle.std.proofs.Common.{sym, ◌∙◌}
use Rattle.std.proofs.lemmas.Str.{chars_from_encodes}
use Rattle.irtext_base.specs.Faults.{characters}
use Rattle.irtext_tokens.proofs.Characters.{encodes-characters}
use Rattle.irtext_tokens.proofs.Spelling.{whole_gives}
use Rattle.irtext_tokens.proofs.irfmt.demanded.text_there.Goals as goal

pub returns : goal.returns
returns g c =
    let m = g.met.S.CharStream in
    let bytes = c.args.text.now in
    let h = rw (← chars_from_encodes (characters bytes) bytes c.utf8.text (encodes-characters bytes c.utf8.text)) at c.if-not-accept.ensures in
    rw (sym c.has_failed.ensures ∙ c.if-has_failed.false) (whole_gives g.S.CharStream.view g.S.CharStream.at m.view_at m.at_view m.at_at (characters bytes) h.0 c.args.stream.now c.accept.new.self h.1 h.2)
