use Rattle.std.proofs.Common.{[], ◌∷◌, ◌++◌, ◌∙◌, ap, sym, refl, string_bytes}
use Rattle.irtext_base.specs.Faults.{characters}
use Rattle.irtext_tokens.proofs.Characters.{encodes-characters}
use Rattle.irtext_syntax.proofs.Written.{ascii_piece, pieces}
use Rattle.irtext_syntax.proofs.table.write_row.Goals as goal

pub returns-clause-text : goal.returns-clause-text
returns-clause-text g c =
    pieces (string_bytes c.args.f.now) (characters c.args.word.now) (32 ∷ []) (g.P.Part.text.written c.args.part.now) (string_bytes c.push_str.new.text) (string_bytes c.push_str-2.new.text) (string_bytes c.write_text.new.f)
    (c.in_ok-push_str.ensures.bytes ∙ ap (λ z. string_bytes c.args.f.now ++ z) (sym (encodes-characters c.args.word.now c.utf8.word)))
    (ascii_piece (string_bytes c.push_str.new.text) (32 ∷ []) (32 ∷ []) (string_bytes c.push_str-2.new.text) refl refl c.in_ok-push_str-2.ensures.bytes)
    c.in_ok-write_text.ensures.text
