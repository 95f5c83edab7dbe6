use Rattle.std.proofs.Common.{◌≡◌, ◌∙◌, ap, sym}
use Rattle.std.proofs.lemmas.Str.{encodes-chars, scalars-chars, IsUtf8-string_bytes}
use Rattle.std.specs.Prelude.{string_bytes}
use Rattle.std.specs.Str.{chars, encode_utf8_all}
use Rattle.irtext_syntax.specs.ScalarTexts.{ScalarText, scalar_text_is}
use Rattle.irtext_syntax.proofs.characters.Characters.as_str.Goals as goal

pub returns-clause-characters : goal.returns-clause-characters
returns-clause-characters c =
    let text = c.self.inside.text in
    ap chars c.as_str.ensures.value ∙ (sym (scalar_text_is _ (scalars-chars _ (IsUtf8-string_bytes text))) ∙ ap (λ (s : ScalarText). s.characters) c.self.view_is)

pub returns-clause-bytes : goal.returns-clause-bytes
returns-clause-bytes c =
    let text = c.self.inside.text in
    let shown : chars (string_bytes text) ≡ c.args.self.now.characters = sym (scalar_text_is _ (scalars-chars _ (IsUtf8-string_bytes text))) ∙ ap (λ (s : ScalarText). s.characters) c.self.view_is in
    c.as_str.ensures.value ∙ (sym (encodes-chars _ (IsUtf8-string_bytes text)) ∙ ap encode_utf8_all shown)
