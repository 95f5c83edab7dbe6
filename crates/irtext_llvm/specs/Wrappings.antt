-- For callers: the texts of the choice `Wrapping`, each a word.
use Rattle.std.specs.Prelude.{cond, Option, Some, None, List, [], ◌∷◌, codes}
use Rattle.std.specs.Str.{bytes_eq}
use Rattle.irtext_base.specs.Text.{Text}
use Rattle.irtext_base.specs.Faults.{AnAttribute}
use Rattle.irtext_tokens.specs.Infix.{Reader, nothing}
use Rattle.irtext_syntax.specs.Owns.{ends_text}
use Rattle.irtext_syntax.specs.Shapes.{Shape}
use Rattle.irtext_syntax.specs.Tables.{table_at}
use Rattle.irtext_llvm.specs.declared.wrapping.Wrapping.{Wrapping}
use Rattle.irtext_llvm.specs.declared.wrapping.Wrapping.TheVariants as word
use Rattle.irtext_llvm.specs.contracts.wrapping.WrappingPartialEq.TheImpl as test

-- the words
abbrev pub wrapping_words : List Text
wrapping_words = codes "wraps" ∷ codes "nsw" ∷ codes "nuw" ∷ codes "nuw_nsw" ∷ []

-- the value of which a text is the word, if there is one
abbrev pub wrapping_word : Text → Option Wrapping
wrapping_word text = cond (bytes_eq text (codes "wraps")) (Some word.Wraps) (cond (bytes_eq text (codes "nsw")) (Some word.Nsw) (cond (bytes_eq text (codes "nuw")) (Some word.Nuw) (cond (bytes_eq text (codes "nuw_nsw")) (Some word.NuwNsw) None)))

-- the text that is printed for a value
abbrev pub wrapping_text : Wrapping → Text
wrapping_text word.Wraps = codes "wraps"
wrapping_text word.Nsw = codes "nsw"
wrapping_text word.Nuw = codes "nuw"
wrapping_text word.NuwNsw = codes "nuw_nsw"

-- the word of a value, with nothing after it; any other word is an error
abbrev pub wrapping_at : Reader Wrapping
wrapping_at = table_at wrapping_word nothing (codes "Unknown wrapping ") AnAttribute

-- as a part of other texts
abbrev pub wrapping : Shape Wrapping
wrapping = record { reading = wrapping_at; written = wrapping_text; ends = ends_text; test = test.ghosts.eq }
