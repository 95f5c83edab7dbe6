use Rattle.std.proofs.Common.{◌≡◌, ◌∙◌, Bool, true, false, refl, sym, ap, subst, string_bytes}
use Rattle.std.proofs.lemmas.Str.{chars_from_encodes, IsUtf8-string_bytes}
use Rattle.irtext_base.specs.Answers.{Read, Gives, unless_failed}
use Rattle.irtext_base.specs.Text.{Text, begins, front, after, begins_word, in_word}
use Rattle.irtext_tokens.specs.Tokens.{word_at}
use Rattle.irtext_tokens.proofs.Words.{taken_since}
use Rattle.irtext_syntax.specs.ScalarTexts.{scalar_text, scalar_text_found}
use Rattle.irtext_parts.specs.SymbolTexts.{bare_at}
use Rattle.irtext_parts.proofs.symbol.bare_parse.Goals as goal

-- the word that comes next is parsed
read_is : (text : Text) (b : Bool) → b ≡ false → begins begins_word text ≡ true → unless_failed b (bare_at text) ≡ Read (scalar_text (front in_word text)) (front in_word text) (after in_word text)
unfolding word_at
read_is text b f e = rw (f, e) refl

pub returns-in-Ok : goal.returns-in-Ok
returns-in-Ok g c =
    let old = c.args.stream.now in
    let text = old.rest in
    let f : old.failed ≡ false = sym c.has_failed.ensures ∙ c.if-has_failed.false in
    let b : begins begins_word text ≡ true = sym c.begins.ensures ∙ c.if-not-begins.false in
    let w = taken_since (λ s. s) (λ s v. v) (λ s v. refl) (λ s v w. refl) old c.skip_class.new.stream c.position-place.result c.text_since.result.now (front in_word text) (after in_word text) c.skip_class.ensures c.position-place.ensures c.text_since.ensures in
    let q = chars_from_encodes (front in_word text) (string_bytes c.in-Ok.text) (IsUtf8-string_bytes c.in-Ok.text) (sym (c.in-Ok.ensures.ok ∙ w)) in
    let value : c.new.result ≡ scalar_text (front in_word text) = sym (scalar_text_found c.new.result) ∙ ap scalar_text (c.new.ensures ∙ sym q) in
    record { answers = subst (λ o. Gives (λ s. s) (λ s v. v) o old c.new.result c.skip_class.new.stream) (sym (read_is text old.failed f b)) (value, c.skip_class.ensures) }
