-- For callers: the texts of the choice `Update`, each a word.
use Rattle.std.specs.Prelude.{cond, Option, Some, None, List, [], ◌∷◌, codes}
use Rattle.std.specs.Str.{bytes_eq}
use Rattle.irtext_base.specs.Text.{Text}
use Rattle.irtext_base.specs.Faults.{AnAttribute}
use Rattle.irtext_tokens.specs.Infix.{Reader, nothing}
use Rattle.irtext_syntax.specs.Owns.{ends_text}
use Rattle.irtext_syntax.specs.Shapes.{Shape}
use Rattle.irtext_syntax.specs.Tables.{table_at}
use Rattle.irtext_llvm.specs.declared.update.Update.{Update}
use Rattle.irtext_llvm.specs.declared.update.Update.TheVariants as word
use Rattle.irtext_llvm.specs.contracts.update.UpdatePartialEq.TheImpl as test

-- the words
abbrev pub update_words : List Text
update_words = codes "xchg" ∷ codes "add" ∷ codes "sub" ∷ codes "and" ∷ codes "nand" ∷ codes "or" ∷ codes "xor" ∷ codes "max" ∷ codes "min" ∷ codes "umax" ∷ codes "umin" ∷ codes "fadd" ∷ codes "fsub" ∷ codes "fmax" ∷ codes "fmin" ∷ []

-- the value of which a text is the word, if there is one
abbrev pub update_word : Text → Option Update
update_word text = cond (bytes_eq text (codes "xchg")) (Some word.Xchg) (cond (bytes_eq text (codes "add")) (Some word.Add) (cond (bytes_eq text (codes "sub")) (Some word.Sub) (cond (bytes_eq text (codes "and")) (Some word.And) (cond (bytes_eq text (codes "nand")) (Some word.Nand) (cond (bytes_eq text (codes "or")) (Some word.Or) (cond (bytes_eq text (codes "xor")) (Some word.Xor) (cond (bytes_eq text (codes "max")) (Some word.Max) (cond (bytes_eq text (codes "min")) (Some word.Min) (cond (bytes_eq text (codes "umax")) (Some word.Umax) (cond (bytes_eq text (codes "umin")) (Some word.Umin) (cond (bytes_eq text (codes "fadd")) (Some word.Fadd) (cond (bytes_eq text (codes "fsub")) (Some word.Fsub) (cond (bytes_eq text (codes "fmax")) (Some word.Fmax) (cond (bytes_eq text (codes "fmin")) (Some word.Fmin) None))))))))))))))

-- the text that is printed for a value
abbrev pub update_text : Update → Text
update_text word.Xchg = codes "xchg"
update_text word.Add = codes "add"
update_text word.Sub = codes "sub"
update_text word.And = codes "and"
update_text word.Nand = codes "nand"
update_text word.Or = codes "or"
update_text word.Xor = codes "xor"
update_text word.Max = codes "max"
update_text word.Min = codes "min"
update_text word.Umax = codes "umax"
update_text word.Umin = codes "umin"
update_text word.Fadd = codes "fadd"
update_text word.Fsub = codes "fsub"
update_text word.Fmax = codes "fmax"
update_text word.Fmin = codes "fmin"

-- the word of a value, with nothing after it; any other word is an error
abbrev pub update_at : Reader Update
update_at = table_at update_word nothing (codes "Unknown update ") AnAttribute

-- as a part of other texts
abbrev pub update : Shape Update
update = record { reading = update_at; written = update_text; ends = ends_text; test = test.ghosts.eq }
