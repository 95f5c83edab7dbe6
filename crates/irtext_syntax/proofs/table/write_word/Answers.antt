use Rattle.std.proofs.Common.{◌++◌, ◌∙◌, ap, sym, string_bytes}
use Rattle.irtext_tokens.proofs.Characters.{encodes-characters}
use Rattle.irtext_syntax.proofs.table.write_word.Goals as goal

pub returns-clause-text : goal.returns-clause-text
returns-clause-text c = c.in_ok-push_str.ensures.bytes ∙ ap (λ z. string_bytes c.args.f.now ++ z) (sym (encodes-characters c.args.word.now c.utf8.word))
