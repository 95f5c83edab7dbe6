-- Steps of the parser of keys: a word that is accepted at once, or in two parts.
use Rattle.std.proofs.Common.{◌≡◌, ◌∙◌, ℕ, Bool, true, false, cond, List, [], ◌∷◌, ◌++◌, Option, Some, None, refl, sym, ap, subst}
use Rattle.std.proofs.lemmas.Str.{chars_from_encodes}
use Rattle.std.specs.List.{list_all}
use Rattle.std.specs.Prelude.{IfSome}
use Rattle.std.specs.Str.{chars, encode_utf8_all, IsUtf8}
use Rattle.irtext_base.specs.Answers.{Takes}
use Rattle.irtext_base.specs.Places.{IsPlaceAfter}
use Rattle.irtext_base.specs.Stream.{after_taken}
use Rattle.irtext_base.specs.Text.{Text, begins, front, after, in_word, is_identifier}
use Rattle.irtext_base.proofs.Characters.{and_left, and_right, front_all, after_all, identifier_every}
use Rattle.irtext_base.proofs.Compose.{takes_none, takes_more}
use Rattle.irtext_stream.specs.Stream.{Comes}
use Rattle.irtext_stream.specs.declared.position.Place.{Place}
use Rattle.irtext_tokens.proofs.Steps.{Lens}
use Rattle.irtext_tokens.proofs.Words.{encodes-front_word, taken_since}
use Rattle.irtext_parse_pieces.specs.Entries.{TakesWord}

-- the longest front continues what passes
front_more : (test : ℕ → Bool) (s f : Text) → list_all test s ≡ true → front test (s ++ f) ≡ s ++ front test f
front_more test [] f e = refl
front_more test (c ∷ s) f e = ap (λ b. cond b (c ∷ front test (s ++ f)) []) (and_left (test c) (list_all test s) e) ∙ ap (λ t. c ∷ t) (front_more test s f (and_right (test c) (list_all test s) e))

after_more : (test : ℕ → Bool) (s f : Text) → list_all test s ≡ true → after test (s ++ f) ≡ after test f
after_more test [] f e = refl
after_more test (c ∷ s) f e = ap (λ b. cond b (after test (s ++ f)) (c ∷ (s ++ f))) (and_left (test c) (list_all test s) e) ∙ after_more test s f (and_right (test c) (list_all test s) e)

-- a word is its bytes
word_chars : (word : List ℕ) → IsUtf8 word → list_all in_word word ≡ true → chars word ≡ word
word_chars word u e =
    let whole : front in_word (word ++ []) ≡ word = front_all in_word word [] e refl in
    sym (chars_from_encodes word word u (subst (λ z. encode_utf8_all z ≡ z) whole (encodes-front_word (word ++ []))))

module _ {S : Type 0} (l : Lens S) where
  -- nothing was consumed
  pub nothing_taken : {old new : S} → new ≡ old → TakesWord l.view l.at old None new
  nothing_taken {old = old} e =
      subst (TakesWord l.view l.at old None) (sym e) (record { word = []; in_words = refl; takes = takes_none l.view l.at l.view_at l.at_at l.at_view old; ends = tt })

  -- the text of an identifier was consumed
  pub word_taken : {old new : S} {word : List ℕ} (text : List ℕ) → IsUtf8 text → text ≡ word → is_identifier word ≡ true → Comes (chars text) (l.view old) (λ v. new ≡ l.at old v)
      → (key : Option Text) → IfSome key (λ k. (k ≡ word) × (begins in_word (l.view new).rest ≡ false)) → TakesWord l.view l.at old key new
  word_taken {old = old} {new = new} {word = word} text u same is h key ends =
      let every = identifier_every word is in
      let utf8 : IsUtf8 word = subst IsUtf8 same u in
      let k : Comes word (l.view old) (λ v. new ≡ l.at old v) = subst (λ t. Comes t (l.view old) (λ v. new ≡ l.at old v)) (ap chars same ∙ word_chars word utf8 every) h in
      let left : k.0 ≡ (l.view new).rest = sym (ap (λ v. v.rest) (ap l.view k.2 ∙ l.view_at old (after_taken (l.view old) word k.0))) in
      record { word = word; in_words = every; takes = subst (λ r. Takes l.view l.at word r old new) left (record { is = k.2; same = sym k.1 }); ends = ends }

  -- the rest of the word was consumed after it
  pub word_after : {old mid new : S} {key : Option Text} → TakesWord l.view l.at old key mid → Takes l.view l.at (front in_word (l.view mid).rest) (after in_word (l.view mid).rest) mid new
      → Takes l.view l.at (front in_word (l.view old).rest) (after in_word (l.view old).rest) old new
  word_after {old = old} {mid = mid} {new = new} w k =
      let rest = (l.view mid).rest in
      let f : front in_word (l.view old).rest ≡ w.word ++ front in_word rest = ap (front in_word) (sym w.takes.same) ∙ front_more in_word w.word rest w.in_words in
      let a : after in_word (l.view old).rest ≡ after in_word rest = ap (after in_word) (sym w.takes.same) ∙ after_more in_word w.word rest w.in_words in
      subst (λ t. Takes l.view l.at t (after in_word (l.view old).rest) old new) (sym f)
      (subst (λ r. Takes l.view l.at (w.word ++ front in_word rest) r old new) (sym a) (takes_more l.view l.at l.view_at l.at_at old mid new w.word rest (front in_word rest) (after in_word rest) w.takes k))

  -- the bytes since the place of a word that was consumed are the word
  pub word_since : {old new : S} (place : Place) (bytes : List ℕ) → Takes l.view l.at (front in_word (l.view old).rest) (after in_word (l.view old).rest) old new → IsPlaceAfter place (l.view old).passed
      → ((passed taken : Text) → passed ++ taken ≡ (l.view new).passed → IsPlaceAfter place passed → bytes ≡ encode_utf8_all taken) → bytes ≡ front in_word (l.view old).rest
  word_since {old = old} {new = new} place bytes t at since =
      let rest = (l.view old).rest in
      taken_since l.view l.at l.view_at l.at_at old new place bytes (front in_word rest) (after in_word rest) t at since ∙ encodes-front_word rest

  module _ {old new : S} {key : Text} (w : TakesWord l.view l.at old (Some key) new) where
    whole_front : front in_word (l.view old).rest ≡ w.word
    whole_front = ap (front in_word) (sym w.takes.same) ∙ front_all in_word w.word (l.view new).rest w.in_words w.ends.1

    -- it was the whole word
    pub whole_taken : Takes l.view l.at (front in_word (l.view old).rest) (after in_word (l.view old).rest) old new
    whole_taken =
        let a : after in_word (l.view old).rest ≡ (l.view new).rest = ap (after in_word) (sym w.takes.same) ∙ after_all in_word w.word (l.view new).rest w.in_words w.ends.1 in
        subst (λ t. Takes l.view l.at t (after in_word (l.view old).rest) old new) (sym whole_front) (subst (λ r. Takes l.view l.at w.word r old new) (sym a) w.takes)

    pub whole_key : key ≡ front in_word (l.view old).rest
    whole_key = w.ends.0 ∙ sym whole_front
