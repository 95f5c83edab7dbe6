use Rattle.std.proofs.Common.{◌++◌, ◌∙◌, sym, ap, string_bytes}
use Rattle.irtext_syntax.specs.KeywordLaws.{encodes_word}
use Rattle.irtext_syntax.proofs.keyword.write_word.Goals as goal

pub returns-clause-text : goal.returns-clause-text
returns-clause-text g c = c.in_ok-push_str.ensures.bytes ∙ ap (λ z. string_bytes c.args.f.now ++ z) (c.word.ensures ∙ sym (encodes_word g.W.Word.word.characters g.W.Word.word.passes))
