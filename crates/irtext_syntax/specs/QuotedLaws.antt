-- The law of quoted texts, as parts of a text.
use Rattle.std.proofs.Common.{◌≡◌, ◌∙◌, ℕ, true, [], ◌∷◌, ◌++◌, refl, sym, ap, codes}
use Rattle.std.proofs.lemmas.Str.{chars-encodes}
use Rattle.std.specs.Cmp.Lexicographic.{bytes_decides}
use Rattle.std.specs.Prelude.{◌↔◌, IsTrue}
use Rattle.std.specs.Str.{chars, encode_utf8_all, bytes_eq}
use Rattle.irtext_base.specs.Text.{Text}
use Rattle.irtext_base.specs.Answers.{Outcome, Read, mapped}
use Rattle.irtext_base.specs.Own.{missing, verdict}
use Rattle.irtext_base.proofs.Scalars.{scalars_quoted}
use Rattle.irtext_base.proofs.Sincere.{of_mapped, sincere_of}
use Rattle.irtext_tokens.specs.Tokens.{text_at}
use Rattle.irtext_tokens.specs.QuotedTexts.{quoted_at, units_at}
use Rattle.irtext_tokens.proofs.QuotedBack.{quoted_back}
use Rattle.irtext_tokens.proofs.SincereTokens.{of_quoted}
use Rattle.irtext_syntax.specs.PartLaws.{PartLaw, MissesClosers, EndsAnywhere, is_closer}
use Rattle.irtext_syntax.specs.PartSteps.{mapped_missing, then_missing, word_misses}
use Rattle.irtext_syntax.specs.ReadHere.{read_here}
use Rattle.irtext_syntax.specs.QuotedParts.{characters_at, characters_text}
use Rattle.irtext_syntax.specs.ScalarTexts.{ScalarText, scalar_text, scalar_text_found, scalar_text_same}

-- a quoted text is parsed back, whatever comes after it
pub characters-here : (s : ScalarText) (rest : Text) → characters_at (characters_text s ++ rest) ≡ Read s (characters_text s) rest
characters-here s rest = ap (mapped scalar_text) (quoted_back s.characters rest) ∙ ap (λ t. let o : Outcome ScalarText = Read t (characters_text s) rest in o) (scalar_text_found s)

pub characters_law : PartLaw characters_at characters_text (λ rest. true)
characters_law = record {
  back = λ s rest e. read_here characters_at s (characters_text s ++ rest) (characters_text s) rest refl (characters-here s rest);
  closed = λ rest e. refl;
  scalars = λ s. scalars_quoted s.characters s.passes;
  sincere = sincere_of characters_at (λ text. of_mapped text scalar_text (quoted_at text) (of_quoted text));
}

quoted_missed : (c : ℕ) (rest : Text) → is_closer c ≡ true → verdict (characters_at (c ∷ rest)) ≡ missing
unfolding quoted_at
quoted_missed c rest e = mapped_missing scalar_text _ (then_missing (text_at (codes "\"") (c ∷ rest)) (λ _ t. units_at [] t) (word_misses (codes "\"") refl c rest e))

pub characters_misses : MissesClosers characters_at
characters_misses = record { misses = quoted_missed }

pub characters_last : EndsAnywhere (λ rest. true)
characters_last = record { anywhere = λ rest e. refl }

characters_same : (s t : ScalarText) → bytes_eq (encode_utf8_all s.characters) (encode_utf8_all t.characters) ≡ true → s ≡ t
characters_same s t e =
    let f = (bytes_decides (encode_utf8_all s.characters) (encode_utf8_all t.characters)).0 e in
    scalar_text_same s t (sym (chars-encodes s.characters s.passes) ∙ (ap chars f ∙ chars-encodes t.characters t.passes))

pub characters_decides : (s t : ScalarText) → IsTrue (bytes_eq (encode_utf8_all s.characters) (encode_utf8_all t.characters)) ↔ (s ≡ t)
characters_decides s t = (characters_same s t, λ e. (bytes_decides (encode_utf8_all s.characters) (encode_utf8_all t.characters)).1 (ap (λ (u : ScalarText). encode_utf8_all u.characters) e))
