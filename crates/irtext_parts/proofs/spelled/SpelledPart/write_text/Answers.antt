use Rattle.std.proofs.Common.{◌∙◌, ◌++◌, sym, ap, string_bytes}
use Rattle.irtext_parts.specs.SpelledLaws.{encodes-spelled}
use Rattle.irtext_parts.proofs.spelled.SpelledPart.write_text.Goals as goal

pub returns-clause-text : goal.returns-clause-text
returns-clause-text g c = c.in_ok-push_str.ensures.bytes ∙ ap (λ z. string_bytes c.args.f.now ++ z) (c.as_str.ensures ∙ sym (encodes-spelled g.K.Spelling g.met.K.Spelling.law c.args.self.now))
