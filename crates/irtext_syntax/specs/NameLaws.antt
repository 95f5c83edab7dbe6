-- The law of identifiers, as parts of a text.
use Rattle.std.proofs.Common.{◌≡◌, ◌∙◌, ◌<◌, ℕ, zero, suc, true, false, cond, [], ◌∷◌, ◌++◌, refl, sym, ap, ap₂, true≢false}
use Rattle.std.specs.Cmp.Lexicographic.{pointwise, bytes_decides}
use Rattle.std.specs.Char.{is_whitespace}
use Rattle.std.specs.List.{list_all}
use Rattle.std.specs.Prelude.{◌↔◌, IsTrue, not, Some, nat_eq}
use Rattle.std.specs.Str.{IsAscii, encode_utf8_all}
use Rattle.std.proofs.lemmas.Str.{encodes-IsAscii}
use Rattle.std.proofs.lemmas.Str.Ascii.{IsAscii-nil}
use Rattle.irtext_base.specs.Text.{Text, begins, front, after, begins_word, in_word}
use Rattle.irtext_base.specs.Answers.{Outcome, Read, Missing, mapped}
use Rattle.irtext_base.specs.Faults.{AnIdentifier, Unexpected}
use Rattle.irtext_base.specs.Own.{missing, verdict, can_follow}
use Rattle.irtext_base.specs.Stream.{first_of}
use Rattle.irtext_base.proofs.Characters.{and_left, and_right, is_false, begins_in, follow_no_word, front_all, after_all, identifier_every, identifier_begins, word_no_space, in_word_small, ends_word as no_word_ends}
use Rattle.irtext_base.proofs.Scalars.{scalars_ascii}
use Rattle.irtext_base.proofs.Along.{front_after}
use Rattle.irtext_base.proofs.Sincere.{Of, of_either, of_mapped, of_missing, of_read, sincere_of}
use Rattle.irtext_tokens.specs.Tokens.{identifier_at, word_at}
use Rattle.irtext_syntax.specs.CloserTests.{closer_follows}
use Rattle.irtext_syntax.specs.PartLaws.{PartLaw, MissesClosers, EndsAnywhere}
use Rattle.irtext_syntax.specs.PartSteps.{not_true}
use Rattle.irtext_syntax.specs.ReadHere.{read_here}
use Rattle.irtext_syntax.specs.NameTexts.{WordText, word_text, word_text_found, name_at, name_text, ends_word}

-- a text that begins as a word does not begin with white space
pub no_space_in_word : (text : Text) → begins begins_word text ≡ true → begins is_whitespace text ≡ false
no_space_in_word [] e = refl
no_space_in_word (c ∷ text) e = word_no_space c (begins_in c e)

-- a text that can follow a value's text does not begin with a character of a word
pub follows_word : (rest : Text) → begins can_follow rest ≡ true → begins in_word rest ≡ false
follows_word [] e = refl
follows_word (c ∷ rest) e = follow_no_word c e

ascii_more : (c : ℕ) (text : Text) → c < 128 → IsAscii text → IsAscii (c ∷ text)
ascii_more c text small rest zero = small
ascii_more c text small rest (suc i) = rest i

-- the characters of a word are ASCII
pub ascii_word : (text : Text) → list_all in_word text ≡ true → IsAscii text
ascii_word [] e = IsAscii-nil
ascii_word (c ∷ text) e = ascii_more c text (in_word_small c (and_left (in_word c) (list_all in_word text) e)) (ascii_word text (and_right (in_word c) (list_all in_word text) e))

module _ (w : WordText) (rest : Text) (stop : begins in_word rest ≡ false) where
  every : list_all in_word w.characters ≡ true
  every = identifier_every w.characters w.passes

  word-here : identifier_at (w.characters ++ rest) ≡ Read w.characters w.characters rest
  unfolding word_at
  word-here =
      ap (λ b. let o : Outcome Text = cond b (Read (front in_word (w.characters ++ rest)) (front in_word (w.characters ++ rest)) (after in_word (w.characters ++ rest))) (Missing (Unexpected (first_of (w.characters ++ rest)) AnIdentifier)) in o) (identifier_begins w.characters rest w.passes)
      ∙ ap₂ (λ f a. let o : Outcome Text = Read f f a in o) (front_all in_word w.characters rest every stop) (after_all in_word w.characters rest every stop)

  name-here : name_at (name_text w ++ rest) ≡ Read w (name_text w) rest
  name-here = ap (mapped word_text) word-here ∙ ap (λ t. let o : Outcome WordText = Read t (name_text w) rest in o) (word_text_found w)

of_word : (text : Text) → Of text (identifier_at text)
unfolding word_at
of_word text = of_either text (begins begins_word text) _ _ (of_read text (front in_word text) (front in_word text) (after in_word text) (front_after in_word text)) (of_missing text _ refl)

pub name_law : PartLaw name_at name_text ends_word
name_law = record {
  back = λ w rest e. read_here name_at w (name_text w ++ rest) (name_text w) rest (no_space_in_word (w.characters ++ rest) (identifier_begins w.characters rest w.passes)) (name-here w rest (not_true (begins in_word rest) e));
  closed = λ rest e. ap not (follows_word rest (and_left (begins can_follow rest) _ e));
  scalars = λ w. scalars_ascii w.characters (ascii_word w.characters (identifier_every w.characters w.passes));
  sincere = sincere_of name_at (λ text. of_mapped text word_text (identifier_at text) (of_word text));
}

-- the bytes of an identifier are its characters
pub encodes_name : (w : WordText) → encode_utf8_all w.characters ≡ w.characters
encodes_name w = encodes-IsAscii w.characters (ascii_word w.characters (identifier_every w.characters w.passes))

no_beginning : (c : ℕ) → in_word c ≡ false → begins_word c ≡ false
no_beginning c e = is_false (begins_word c) (λ f. true≢false (sym (begins_in c f) ∙ e))

missed : (c : ℕ) (rest : Text) → begins_word c ≡ false → verdict (name_at (c ∷ rest)) ≡ missing
unfolding word_at
missed c rest e = ap (λ b. verdict (mapped word_text (cond b (Read (front in_word (c ∷ rest)) (front in_word (c ∷ rest)) (after in_word (c ∷ rest))) (Missing (Unexpected (Some c) AnIdentifier))))) e

pub name_misses : MissesClosers name_at
name_misses = record { misses = λ c rest e. missed c rest (no_beginning c (follow_no_word c (closer_follows c e))) }

-- whatever can follow a value's text can follow a word
pub word_last : EndsAnywhere ends_word
word_last = record { anywhere = λ rest e. ap not (no_word_ends rest e) }

pub name_decides : (x y : WordText) → IsTrue (pointwise nat_eq x.characters y.characters) ↔ (x ≡ y)
name_decides x y = (
  λ e. sym (word_text_found x) ∙ (ap word_text ((bytes_decides x.characters y.characters).0 e) ∙ word_text_found y),
  λ e. (bytes_decides x.characters y.characters).1 (ap (λ (w : WordText). w.characters) e),
)
