-- Between functions: lists of pieces in which words are only counted.
use Rattle.std.specs.Prelude.{ℕ, zero, suc, List, [], ◌∷◌, ◌++◌}
use Rattle.irtext_grammar.specs.declared.parsed.ReadPiece.{ReadPiece}
use Rattle.irtext_grammar.specs.declared.parsed.ReadPiece.TheVariants as read

module _ {T A : Type 0} where
  -- this many words
  abbrev pub only_words : ℕ → List (ReadPiece T A)
  only_words zero = []
  only_words (suc n) = read.Word ∷ only_words n

  -- the pieces, each after its number of words, and then this many words
  abbrev pub with_words : List (ℕ × ReadPiece T A) → ℕ → List (ReadPiece T A)
  with_words [] n = only_words n
  with_words (f ∷ found) n = only_words f.0 ++ f.1 ∷ with_words found n
