-- The laws of fixed words, as parts of a text.
use Rattle.std.proofs.Common.{◌≡◌, ◌∙◌, Bool, true, false, cond, [], ◌∷◌, ◌++◌, refl, sym, ap, ap₂, true≢false}
use Rattle.std.specs.Char.{is_whitespace}
use Rattle.std.specs.Cmp.Lexicographic.{bytes_decides}
use Rattle.std.specs.Prelude.{◌↔◌, IsTrue, not, ⊤}
use Rattle.std.specs.Str.{all_scalars, bytes_eq, encode_utf8_all}
use Rattle.std.proofs.lemmas.Str.{encodes-IsAscii}
use Rattle.irtext_base.specs.Text.{Text, begins, front, after, after_space, in_word, is_identifier}
use Rattle.irtext_base.specs.Answers.{Outcome, Read, Missing}
use Rattle.irtext_base.specs.Faults.{Unexpected, Word, characters}
use Rattle.irtext_base.specs.Own.{verdict, can_follow}
use Rattle.irtext_base.specs.Stream.{first_of}
use Rattle.irtext_base.proofs.Along.{front_after}
use Rattle.irtext_base.proofs.Characters.{and_left, and_right, after_twice, front_all, after_all, identifier_every, identifier_begins, follow_no_word}
use Rattle.irtext_base.proofs.Scalars.{scalars_ascii}
use Rattle.irtext_base.proofs.Sincere.{of_either, of_missing, of_read, sincere_of}
use Rattle.irtext_syntax.specs.CloserTests.{both, closer_follows}
use Rattle.irtext_syntax.specs.KeywordTexts.{is_next, keyword_at, flag_at, flag_text, ends_flag}
use Rattle.irtext_syntax.specs.NameTexts.{ends_word}
use Rattle.irtext_syntax.specs.NameLaws.{no_space_in_word, follows_word, ascii_word}
use Rattle.irtext_syntax.specs.PartLaws.{IsRead, PartLaw, MissesClosers, is_closer}
use Rattle.irtext_syntax.specs.PartSteps.{not_true}
use Rattle.irtext_syntax.specs.ReadHere.{read_here}

same_bytes : (text : Text) → bytes_eq text text ≡ true
same_bytes text = (bytes_decides text text).1 refl

-- no word is empty
not_empty : (word : Text) → is_identifier word ≡ true → bytes_eq [] word ≡ false
not_empty [] e = absurd (true≢false (sym e))
not_empty (c ∷ word) e = refl

no_front : (text : Text) → begins in_word text ≡ false → front in_word text ≡ []
no_front [] e = refl
no_front (c ∷ text) e = ap (λ b. let t : Text = cond b (c ∷ front in_word text) [] in t) e

closer_no_word : (text : Text) → begins is_closer text ≡ true → begins in_word text ≡ false
closer_no_word [] e = refl
closer_no_word (c ∷ text) e = follow_no_word c (closer_follows c e)

module _ (word : Text) (is_word : is_identifier word ≡ true) where
  -- where no word comes, this one does not
  other_next : (text : Text) → begins in_word text ≡ false → is_next word text ≡ false
  other_next text e = ap (λ t. bytes_eq t word) (no_front text e) ∙ not_empty word is_word

  module _ (rest : Text) (stop : begins in_word rest ≡ false) where
    word_front : front in_word (word ++ rest) ≡ word
    word_front = front_all in_word word rest (identifier_every word is_word) stop

    word_after : after in_word (word ++ rest) ≡ rest
    word_after = after_all in_word word rest (identifier_every word is_word) stop

    word_next : is_next word (word ++ rest) ≡ true
    word_next = ap (λ t. bytes_eq t word) word_front ∙ same_bytes word

    word_no_space : begins is_whitespace (word ++ rest) ≡ false
    word_no_space = no_space_in_word (word ++ rest) (identifier_begins word rest is_word)

    keyword-here : keyword_at word (word ++ rest) ≡ Read tt word rest
    keyword-here =
        ap (λ b. let o : Outcome ⊤ = cond b (Read tt (front in_word (word ++ rest)) (after in_word (word ++ rest))) (Missing (Unexpected (first_of (word ++ rest)) (Word (characters word)))) in o) word_next
        ∙ ap₂ (λ f a. let o : Outcome ⊤ = Read tt f a in o) word_front word_after

    flag-here : flag_at word (word ++ rest) ≡ Read true word rest
    flag-here =
        ap (λ b. let o : Outcome Bool = cond b (Read true (front in_word (word ++ rest)) (after in_word (word ++ rest))) (Read false [] (word ++ rest)) in o) word_next
        ∙ ap₂ (λ f a. let o : Outcome Bool = Read true f a in o) word_front word_after

  pub keyword_law : PartLaw (keyword_at word) (λ (u : ⊤). word) ends_word
  keyword_law = record {
    back = λ u rest e. let stop = not_true (begins in_word rest) e in read_here (keyword_at word) tt (word ++ rest) word rest (word_no_space rest stop) (keyword-here rest stop);
    closed = λ rest e. ap not (follows_word rest (and_left (begins can_follow rest) _ e));
    scalars = λ u. scalars_ascii word (ascii_word word (identifier_every word is_word));
    sincere = sincere_of (keyword_at word) (λ text. of_either text (is_next word text) _ _ (of_read text tt (front in_word text) (after in_word text) (front_after in_word text)) (of_missing text _ refl));
  }

  pub keyword_misses : MissesClosers (keyword_at word)
  keyword_misses = record { misses = λ c rest e. ap (λ b. verdict (cond b (Read tt (front in_word (c ∷ rest)) (after in_word (c ∷ rest))) (Missing (Unexpected (first_of (c ∷ rest)) (Word (characters word)))))) (other_next (c ∷ rest) (follow_no_word c (closer_follows c e))) }

  flag_back : (b : Bool) (rest : Text) → ends_flag word rest ≡ true → IsRead (flag_at word) b (flag_text word b ++ rest) rest
  flag_back true rest e = let stop = not_true (begins in_word rest) (and_left (ends_word rest) _ e) in read_here (flag_at word) true (word ++ rest) word rest (word_no_space rest stop) (flag-here rest stop)
  flag_back false rest e =
      let t = after_space rest in
      (t, ap (λ b. verdict (cond b (Read true (front in_word t) (after in_word t)) (Read false [] t))) (not_true (is_next word t) (and_right (ends_word rest) _ e)), after_twice is_whitespace rest)

  flag_scalars : (b : Bool) → all_scalars (flag_text word b) ≡ true
  flag_scalars true = scalars_ascii word (ascii_word word (identifier_every word is_word))
  flag_scalars false = refl

  pub flag_law : PartLaw (flag_at word) (flag_text word) (ends_flag word)
  flag_law = record {
    back = flag_back;
    closed = λ rest e. both (ends_word rest) _ (ap not (follows_word rest (and_left (begins can_follow rest) _ e))) (ap not (other_next (after_space rest) (closer_no_word (after_space rest) (and_right (begins can_follow rest) _ e))));
    scalars = flag_scalars;
    sincere = sincere_of (flag_at word) (λ text. of_either text (is_next word text) _ _ (of_read text true (front in_word text) (after in_word text) (front_after in_word text)) (of_read text false [] text refl));
  }

-- the bytes of a word are its characters
pub encodes_word : (word : Text) → is_identifier word ≡ true → encode_utf8_all word ≡ word
encodes_word word e = encodes-IsAscii word (ascii_word word (identifier_every word e))

-- a keyword has one value
pub keyword_decides : (x y : ⊤) → IsTrue true ↔ (x ≡ y)
keyword_decides x y = (λ e. refl, λ e. refl)
