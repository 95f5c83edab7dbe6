-- For callers: the texts of the choice `FloatPredicate`, each a word.
use Rattle.std.specs.Prelude.{cond, Option, Some, None, List, [], ◌∷◌, codes}
use Rattle.std.specs.Str.{bytes_eq}
use Rattle.irtext_base.specs.Text.{Text}
use Rattle.irtext_base.specs.Faults.{AnAttribute}
use Rattle.irtext_tokens.specs.Infix.{Reader, nothing}
use Rattle.irtext_syntax.specs.Owns.{ends_text}
use Rattle.irtext_syntax.specs.Shapes.{Shape}
use Rattle.irtext_syntax.specs.Tables.{table_at}
use Rattle.irtext_llvm.specs.declared.float_predicate.FloatPredicate.{FloatPredicate}
use Rattle.irtext_llvm.specs.declared.float_predicate.FloatPredicate.TheVariants as word
use Rattle.irtext_llvm.specs.contracts.float_predicate.FloatPredicatePartialEq.TheImpl as test

-- the words
abbrev pub float_predicate_words : List Text
float_predicate_words = codes "false" ∷ codes "oeq" ∷ codes "ogt" ∷ codes "oge" ∷ codes "olt" ∷ codes "ole" ∷ codes "one" ∷ codes "ord" ∷ codes "ueq" ∷ codes "ugt" ∷ codes "uge" ∷ codes "ult" ∷ codes "ule" ∷ codes "une" ∷ codes "uno" ∷ codes "true" ∷ []

-- the value of which a text is the word, if there is one
abbrev pub float_predicate_word : Text → Option FloatPredicate
float_predicate_word text = cond (bytes_eq text (codes "false")) (Some word.False) (cond (bytes_eq text (codes "oeq")) (Some word.Oeq) (cond (bytes_eq text (codes "ogt")) (Some word.Ogt) (cond (bytes_eq text (codes "oge")) (Some word.Oge) (cond (bytes_eq text (codes "olt")) (Some word.Olt) (cond (bytes_eq text (codes "ole")) (Some word.Ole) (cond (bytes_eq text (codes "one")) (Some word.One) (cond (bytes_eq text (codes "ord")) (Some word.Ord) (cond (bytes_eq text (codes "ueq")) (Some word.Ueq) (cond (bytes_eq text (codes "ugt")) (Some word.Ugt) (cond (bytes_eq text (codes "uge")) (Some word.Uge) (cond (bytes_eq text (codes "ult")) (Some word.Ult) (cond (bytes_eq text (codes "ule")) (Some word.Ule) (cond (bytes_eq text (codes "une")) (Some word.Une) (cond (bytes_eq text (codes "uno")) (Some word.Uno) (cond (bytes_eq text (codes "true")) (Some word.True) None)))))))))))))))

-- the text that is printed for a value
abbrev pub float_predicate_text : FloatPredicate → Text
float_predicate_text word.False = codes "false"
float_predicate_text word.Oeq = codes "oeq"
float_predicate_text word.Ogt = codes "ogt"
float_predicate_text word.Oge = codes "oge"
float_predicate_text word.Olt = codes "olt"
float_predicate_text word.Ole = codes "ole"
float_predicate_text word.One = codes "one"
float_predicate_text word.Ord = codes "ord"
float_predicate_text word.Ueq = codes "ueq"
float_predicate_text word.Ugt = codes "ugt"
float_predicate_text word.Uge = codes "uge"
float_predicate_text word.Ult = codes "ult"
float_predicate_text word.Ule = codes "ule"
float_predicate_text word.Une = codes "une"
float_predicate_text word.Uno = codes "uno"
float_predicate_text word.True = codes "true"

-- the word of a value, with nothing after it; any other word is an error
abbrev pub float_predicate_at : Reader FloatPredicate
float_predicate_at = table_at float_predicate_word nothing (codes "Unknown float predicate ") AnAttribute

-- as a part of other texts
abbrev pub float_predicate : Shape FloatPredicate
float_predicate = record { reading = float_predicate_at; written = float_predicate_text; ends = ends_text; test = test.ghosts.eq }
