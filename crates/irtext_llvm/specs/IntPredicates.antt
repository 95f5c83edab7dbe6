-- For callers: the texts of the choice `IntPredicate`, each a word.
use Rattle.std.specs.Prelude.{cond, Option, Some, None, List, [], ◌∷◌, codes}
use Rattle.std.specs.Str.{bytes_eq}
use Rattle.irtext_base.specs.Text.{Text}
use Rattle.irtext_base.specs.Faults.{AnAttribute}
use Rattle.irtext_tokens.specs.Infix.{Reader, nothing}
use Rattle.irtext_syntax.specs.Owns.{ends_text}
use Rattle.irtext_syntax.specs.Shapes.{Shape}
use Rattle.irtext_syntax.specs.Tables.{table_at}
use Rattle.irtext_llvm.specs.declared.int_predicate.IntPredicate.{IntPredicate}
use Rattle.irtext_llvm.specs.declared.int_predicate.IntPredicate.TheVariants as word
use Rattle.irtext_llvm.specs.contracts.int_predicate.IntPredicatePartialEq.TheImpl as test

-- the words
abbrev pub int_predicate_words : List Text
int_predicate_words = codes "eq" ∷ codes "ne" ∷ codes "ugt" ∷ codes "uge" ∷ codes "ult" ∷ codes "ule" ∷ codes "sgt" ∷ codes "sge" ∷ codes "slt" ∷ codes "sle" ∷ []

-- the value of which a text is the word, if there is one
abbrev pub int_predicate_word : Text → Option IntPredicate
int_predicate_word text = cond (bytes_eq text (codes "eq")) (Some word.Eq) (cond (bytes_eq text (codes "ne")) (Some word.Ne) (cond (bytes_eq text (codes "ugt")) (Some word.Ugt) (cond (bytes_eq text (codes "uge")) (Some word.Uge) (cond (bytes_eq text (codes "ult")) (Some word.Ult) (cond (bytes_eq text (codes "ule")) (Some word.Ule) (cond (bytes_eq text (codes "sgt")) (Some word.Sgt) (cond (bytes_eq text (codes "sge")) (Some word.Sge) (cond (bytes_eq text (codes "slt")) (Some word.Slt) (cond (bytes_eq text (codes "sle")) (Some word.Sle) None)))))))))

-- the text that is printed for a value
abbrev pub int_predicate_text : IntPredicate → Text
int_predicate_text word.Eq = codes "eq"
int_predicate_text word.Ne = codes "ne"
int_predicate_text word.Ugt = codes "ugt"
int_predicate_text word.Uge = codes "uge"
int_predicate_text word.Ult = codes "ult"
int_predicate_text word.Ule = codes "ule"
int_predicate_text word.Sgt = codes "sgt"
int_predicate_text word.Sge = codes "sge"
int_predicate_text word.Slt = codes "slt"
int_predicate_text word.Sle = codes "sle"

-- the word of a value, with nothing after it; any other word is an error
abbrev pub int_predicate_at : Reader IntPredicate
int_predicate_at = table_at int_predicate_word nothing (codes "Unknown int predicate ") AnAttribute

-- as a part of other texts
abbrev pub int_predicate : Shape IntPredicate
int_predicate = record { reading = int_predicate_at; written = int_predicate_text; ends = ends_text; test = test.ghosts.eq }
