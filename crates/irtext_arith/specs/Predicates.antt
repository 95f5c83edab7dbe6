-- For callers: the texts of the choice `Predicate`, each a word.
use Rattle.std.specs.Prelude.{cond, Option, Some, None, List, [], ◌∷◌, codes}
use Rattle.std.specs.Str.{bytes_eq}
use Rattle.irtext_base.specs.Text.{Text}
use Rattle.irtext_base.specs.Faults.{AnAttribute}
use Rattle.irtext_tokens.specs.Infix.{Reader, nothing}
use Rattle.irtext_syntax.specs.Owns.{ends_text}
use Rattle.irtext_syntax.specs.Shapes.{Shape}
use Rattle.irtext_syntax.specs.Tables.{table_at}
use Rattle.irtext_arith.specs.declared.predicate.Predicate.{Predicate}
use Rattle.irtext_arith.specs.declared.predicate.Predicate.TheVariants as word
use Rattle.irtext_arith.specs.contracts.predicate.PredicatePartialEq.TheImpl as test

-- the words
abbrev pub predicate_words : List Text
predicate_words = codes "eq" ∷ codes "ne" ∷ codes "lt" ∷ codes "le" ∷ []

-- the value of which a text is the word, if there is one
abbrev pub predicate_word : Text → Option Predicate
predicate_word text = cond (bytes_eq text (codes "eq")) (Some word.Equal) (cond (bytes_eq text (codes "ne")) (Some word.Different) (cond (bytes_eq text (codes "lt")) (Some word.Less) (cond (bytes_eq text (codes "le")) (Some word.LessOrEqual) None)))

-- the text that is printed for a value
abbrev pub predicate_text : Predicate → Text
predicate_text word.Equal = codes "eq"
predicate_text word.Different = codes "ne"
predicate_text word.Less = codes "lt"
predicate_text word.LessOrEqual = codes "le"

-- the word of a value, with nothing after it; any other word is an error
abbrev pub predicate_at : Reader Predicate
predicate_at = table_at predicate_word nothing (codes "Unknown predicate ") AnAttribute

-- as a part of other texts
abbrev pub predicate : Shape Predicate
predicate = record { reading = predicate_at; written = predicate_text; ends = ends_text; test = test.ghosts.eq }
