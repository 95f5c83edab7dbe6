-- The law of symbols.
use Rattle.std.proofs.Common.{◌≡◌, ◌∙◌, ℕ, Bool, true, false, cond, [], ◌∷◌, ◌++◌, refl, ap, ap₂, arith, codes}
use Rattle.std.proofs.lemmas.Bool.Decides.{nat_tests}
use Rattle.std.specs.Prelude.{◌↔◌, IsTrue, not}
use Rattle.std.specs.Str.{all_scalars, bytes_eq, encode_utf8_all}
use Rattle.irtext_base.specs.Text.{Text, begins, front, after, begins_word, in_word, is_identifier}
use Rattle.irtext_base.specs.Answers.{Outcome, Read, Missing, prefixed, mapped}
use Rattle.irtext_base.specs.Faults.{Unexpected, AnIdentifier}
use Rattle.irtext_base.specs.Own.{can_follow}
use Rattle.irtext_base.specs.Quoted.{quoted}
use Rattle.irtext_base.specs.Reading.{the}
use Rattle.irtext_base.specs.Stream.{first_of}
use Rattle.irtext_base.proofs.Along.{front_after}
use Rattle.irtext_base.proofs.Characters.{and_left, front_all, after_all, identifier_begins, identifier_every}
use Rattle.irtext_base.proofs.Scalars.{scalars_quoted}
use Rattle.irtext_base.proofs.Sincere.{Of, of_either, of_followed, of_mapped, of_missing, of_read, sincere_of}
use Rattle.irtext_tokens.specs.QuotedTexts.{quoted_at}
use Rattle.irtext_tokens.specs.Tokens.{text_at, identifier_at, word_at}
use Rattle.irtext_tokens.proofs.SincereTokens.{of_text, of_quoted}
use Rattle.irtext_syntax.specs.MappedLaws.{mapped_law, mapped_misses}
use Rattle.irtext_syntax.specs.NameLaws.{follows_word}
use Rattle.irtext_syntax.specs.NameTexts.{ends_word}
use Rattle.irtext_syntax.specs.PartLaws.{PartLaw, MissesClosers}
use Rattle.irtext_syntax.specs.PartSteps.{not_true, then_missing, word_misses}
use Rattle.irtext_syntax.specs.QuotedLaws.{characters-here, characters_decides}
use Rattle.irtext_syntax.specs.QuotedParts.{characters_at}
use Rattle.irtext_syntax.specs.ReadHere.{read_here}
use Rattle.irtext_syntax.specs.ScalarTexts.{ScalarText, scalar_text, scalar_text_found}
use Rattle.irtext_parts.specs.SymbolTexts.{bare_at, symbol_name_at, symbol_text_at, symbol_name, symbol_name_text}
use Rattle.irtext_parts.specs.Symbols.{symbol_of, symbol_at, symbol_text}
use Rattle.irtext_parts.specs.declared.symbol.Symbol.{Symbol}

not_quote : (c : ℕ) → begins_word c ≡ true → the 34 c ≡ false
not_quote c e = grind (arith, nat_tests)

no_quote : (text : Text) → begins begins_word text ≡ true → begins (the 34) text ≡ false
no_quote [] e = refl
no_quote (c ∷ text) e = not_quote c e

module _ (s : ScalarText) (rest : Text) where
  -- an identifier is parsed back as it is
  bare-here : is_identifier s.characters ≡ true → begins in_word rest ≡ false → symbol_name_at (s.characters ++ rest) ≡ Read s s.characters rest
  unfolding word_at
  bare-here is stop =
      let t = s.characters ++ rest in
      let b = identifier_begins s.characters rest is in
      let every = identifier_every s.characters is in
      ap (λ q. cond q (characters_at t) (bare_at t)) (no_quote t b)
      ∙ (ap (λ q. let o : Outcome Text = cond q (Read (front in_word t) (front in_word t) (after in_word t)) (Missing (Unexpected (first_of t) AnIdentifier)) in mapped scalar_text o) b
      ∙ (ap₂ (λ f a. let o : Outcome ScalarText = Read (scalar_text f) f a in o) (front_all in_word s.characters rest every stop) (after_all in_word s.characters rest every stop)
      ∙ ap (λ x. let o : Outcome ScalarText = Read x s.characters rest in o) (scalar_text_found s)))

  by : (b : Bool) → is_identifier s.characters ≡ b → begins in_word rest ≡ false → symbol_name_at (cond b s.characters (quoted s.characters) ++ rest) ≡ Read s (cond b s.characters (quoted s.characters)) rest
  by true is stop = bare-here is stop
  by false is stop = characters-here s rest

  name-here : begins in_word rest ≡ false → symbol_name_at (symbol_name s.characters ++ rest) ≡ Read s (symbol_name s.characters) rest
  name-here stop = by (is_identifier s.characters) refl stop

  text-here : begins in_word rest ≡ false → symbol_text_at (symbol_name_text s ++ rest) ≡ Read s (symbol_name_text s) rest
  text-here stop = ap (prefixed (codes "@")) (name-here stop)

scalars : (s : ScalarText) → all_scalars (symbol_name_text s) ≡ true
scalars s = by (is_identifier s.characters)
  where
    by : (b : Bool) → all_scalars (64 ∷ cond b s.characters (quoted s.characters)) ≡ true
    by true = s.passes
    by false = scalars_quoted s.characters s.passes

of_word : (text : Text) → Of text (identifier_at text)
unfolding word_at
of_word text = of_either text (begins begins_word text) _ _ (of_read text (front in_word text) (front in_word text) (after in_word text) (front_after in_word text)) (of_missing text _ refl)

of_name : (text : Text) → Of text (symbol_name_at text)
of_name text = of_either text (begins (the 34) text) _ _ (of_mapped text scalar_text (quoted_at text) (of_quoted text)) (of_mapped text scalar_text (identifier_at text) (of_word text))

text_law : PartLaw symbol_text_at symbol_name_text ends_word
text_law = record {
  back = λ s rest e. read_here symbol_text_at s (symbol_name_text s ++ rest) (symbol_name_text s) rest refl (text-here s rest (not_true (begins in_word rest) e));
  closed = λ rest e. ap not (follows_word rest (and_left (begins can_follow rest) _ e));
  scalars = scalars;
  sincere = sincere_of symbol_text_at (λ text. of_followed text _ _ (of_text (codes "@") text) (λ _ t. of_name t));
}

pub symbol_law : PartLaw symbol_at symbol_text ends_word
symbol_law = mapped_law symbol_of (λ s. s.name) (λ s. refl) text_law

pub symbol_misses : MissesClosers symbol_at
symbol_misses = mapped_misses symbol_of (record { misses = λ c rest e. then_missing (text_at (codes "@") (c ∷ rest)) (λ _ t. symbol_name_at t) (word_misses (codes "@") refl c rest e) })

pub symbol_decides : (x y : Symbol) → IsTrue (bytes_eq (encode_utf8_all x.name.characters) (encode_utf8_all y.name.characters)) ↔ (x ≡ y)
symbol_decides x y = (λ e. ap symbol_of ((characters_decides x.name y.name).0 e), λ e. (characters_decides x.name y.name).1 (ap (λ s. s.name) e))
