-- Fixed words, as parts of a text.
use Rattle.std.specs.Prelude.{◌≡◌, Bool, true, false, cond, not, ◌&&◌, [], ⊤, refl}
use Rattle.std.specs.Cmp.{IsEquivalence}
use Rattle.std.specs.Str.{bytes_eq}
use Rattle.irtext_base.specs.Text.{Text, front, after, after_space, in_word, is_identifier}
use Rattle.irtext_base.specs.Stream.{first_of}
use Rattle.irtext_base.specs.Faults.{Word, Unexpected, characters}
use Rattle.irtext_base.specs.Answers.{Read, Missing}
use Rattle.irtext_tokens.specs.Infix.{Reader}
use Rattle.irtext_syntax.specs.NameTexts.{WordText, ends_word}

-- the word with these characters
abbrev pub fixed_word : (characters : Text) → is_identifier characters ≡ true → WordText
fixed_word characters is_word = record { characters = characters; passes = is_word }

-- whether the word that comes next, as long as possible, is this one
abbrev pub is_next : Text → Text → Bool
is_next word text = bytes_eq (front in_word text) word

-- a fixed word
abbrev pub keyword_at : Text → Reader Unit
keyword_at word text = cond (is_next word text) (Read tt (front in_word text) (after in_word text)) (Missing (Unexpected (first_of text) (Word (characters word))))

-- whether a fixed word comes next
abbrev pub flag_at : Text → Reader Bool
flag_at word text = cond (is_next word text) (Read true (front in_word text) (after in_word text)) (Read false [] text)

-- the word, if it is to be there
abbrev pub flag_text : Text → Bool → Text
flag_text word b = cond b word []

-- neither a character of a word comes next, nor the word after white space
abbrev pub ends_flag : Text → Text → Bool
ends_flag word text = ends_word text && not (is_next word (after_space text))

-- all values of a type with one value are equal
pub unit_equiv : IsEquivalence {K = ⊤} (λ x y. true)
unit_equiv = record { refl = λ x. refl; symm = λ x y. refl; congr = λ x y z e. refl }
