-- Pieces of which those that are words are only counted: what one piece more is.
use Rattle.std.proofs.Common.{◌≡◌, ℕ, zero, suc, ◌+◌, ◌≤◌, List, [], ◌∷◌, ◌++◌, length, length-append, refl, sym, ◌∙◌, ap, arith}
use Rattle.std.proofs.lemmas.List.{append_assoc}
use Rattle.irtext_grammar.specs.declared.parsed.ReadPiece.{ReadPiece}
use Rattle.irtext_grammar.specs.declared.parsed.ReadPiece.TheVariants as read
use Rattle.irtext_grammar.specs.Found.{only_words, with_words}

-- the number after another
pub next_number : (n : ℕ) → n + 1 ≡ suc n
next_number n = omega (arith)

count_words : (T A : Type 0) (n : ℕ) → length (only_words {T = T} {A = A} n) ≡ n
count_words T A zero = refl
count_words T A (suc n) = ap suc (count_words T A n)

module _ {T A : Type 0} where
  word_at_end : (n : ℕ) → only_words {T = T} {A = A} (suc n) ≡ only_words n ++ (read.Word ∷ [])
  word_at_end zero = refl
  word_at_end (suc n) = ap (λ l. read.Word ∷ l) (word_at_end n)

  -- one more word is one more of those after the last piece
  pub word_more : (found : List (ℕ × ReadPiece T A)) (n : ℕ) → with_words found (suc n) ≡ with_words found n ++ (read.Word ∷ [])
  word_more [] n = word_at_end n
  word_more (f ∷ found) n = ap (λ l. only_words f.0 ++ f.1 ∷ l) (word_more found n) ∙ sym (append_assoc (only_words f.0) (f.1 ∷ with_words found n) (read.Word ∷ []))

  -- any other piece is after these words
  pub piece_more : (found : List (ℕ × ReadPiece T A)) (n : ℕ) (p : ReadPiece T A) → with_words (found ++ ((n, p) ∷ [])) 0 ≡ with_words found n ++ (p ∷ [])
  piece_more [] n p = refl
  piece_more (f ∷ found) n p = ap (λ l. only_words f.0 ++ f.1 ∷ l) (piece_more found n p) ∙ sym (append_assoc (only_words f.0) (f.1 ∷ with_words found n) (p ∷ []))

  -- the words after the last piece are among all
  pub words_within : (found : List (ℕ × ReadPiece T A)) (n : ℕ) → n ≤ length (with_words found n)
  words_within [] n = omega (arith, count_words T A n)
  words_within (f ∷ found) n = let h = words_within found n in omega (arith, h, length-append (only_words f.0) (f.1 ∷ with_words found n))

  -- there is one piece more
  pub one_longer : (all more : List (ReadPiece T A)) (p : ReadPiece T A) → more ≡ all ++ (p ∷ []) → length more ≡ length all + 1
  one_longer all more p e = ap length e ∙ length-append all (p ∷ [])
