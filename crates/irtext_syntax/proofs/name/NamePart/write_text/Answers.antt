use Rattle.std.proofs.Common.{◌++◌, ◌∙◌, sym, ap, string_bytes}
use Rattle.irtext_syntax.specs.NameLaws.{encodes_name}
use Rattle.irtext_syntax.proofs.name.NamePart.write_text.Goals as goal

pub returns-clause-text : goal.returns-clause-text
returns-clause-text g c = c.in_ok-push_str.ensures.bytes ∙ ap (λ z. string_bytes c.args.f.now ++ z) (c.as_str.ensures.text ∙ (c.as_identifier.ensures ∙ sym (encodes_name c.args.self.now)))
