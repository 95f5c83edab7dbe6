-- For callers: the texts of the choice `Clause`, each a word.
use Rattle.std.specs.Prelude.{cond, Option, Some, None, List, [], ◌∷◌, codes}
use Rattle.std.specs.Str.{bytes_eq}
use Rattle.irtext_base.specs.Text.{Text}
use Rattle.irtext_base.specs.Faults.{AnAttribute}
use Rattle.irtext_tokens.specs.Infix.{Reader, nothing}
use Rattle.irtext_syntax.specs.Owns.{ends_text}
use Rattle.irtext_syntax.specs.Shapes.{Shape}
use Rattle.irtext_syntax.specs.Tables.{table_at}
use Rattle.irtext_llvm.specs.declared.clause.Clause.{Clause}
use Rattle.irtext_llvm.specs.declared.clause.Clause.TheVariants as word
use Rattle.irtext_llvm.specs.contracts.clause.ClausePartialEq.TheImpl as test

-- the words
abbrev pub clause_words : List Text
clause_words = codes "cleanup" ∷ codes "catch" ∷ codes "filter" ∷ []

-- the value of which a text is the word, if there is one
abbrev pub clause_word : Text → Option Clause
clause_word text = cond (bytes_eq text (codes "cleanup")) (Some word.Cleanup) (cond (bytes_eq text (codes "catch")) (Some word.Catch) (cond (bytes_eq text (codes "filter")) (Some word.Filter) None))

-- the text that is printed for a value
abbrev pub clause_text : Clause → Text
clause_text word.Cleanup = codes "cleanup"
clause_text word.Catch = codes "catch"
clause_text word.Filter = codes "filter"

-- the word of a value, with nothing after it; any other word is an error
abbrev pub clause_at : Reader Clause
clause_at = table_at clause_word nothing (codes "Unknown clause ") AnAttribute

-- as a part of other texts
abbrev pub clause : Shape Clause
clause = record { reading = clause_at; written = clause_text; ends = ends_text; test = test.ghosts.eq }
