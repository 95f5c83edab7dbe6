-- For callers: the texts of the choice `MemoryOrder`, each a word.
use Rattle.std.specs.Prelude.{cond, Option, Some, None, List, [], ◌∷◌, codes}
use Rattle.std.specs.Str.{bytes_eq}
use Rattle.irtext_base.specs.Text.{Text}
use Rattle.irtext_base.specs.Faults.{AnAttribute}
use Rattle.irtext_tokens.specs.Infix.{Reader, nothing}
use Rattle.irtext_syntax.specs.Owns.{ends_text}
use Rattle.irtext_syntax.specs.Shapes.{Shape}
use Rattle.irtext_syntax.specs.Tables.{table_at}
use Rattle.irtext_llvm.specs.declared.memory_order.MemoryOrder.{MemoryOrder}
use Rattle.irtext_llvm.specs.declared.memory_order.MemoryOrder.TheVariants as word
use Rattle.irtext_llvm.specs.contracts.memory_order.MemoryOrderPartialEq.TheImpl as test

-- the words
abbrev pub memory_order_words : List Text
memory_order_words = codes "unordered" ∷ codes "monotonic" ∷ codes "acquire" ∷ codes "release" ∷ codes "acq_rel" ∷ codes "seq_cst" ∷ []

-- the value of which a text is the word, if there is one
abbrev pub memory_order_word : Text → Option MemoryOrder
memory_order_word text = cond (bytes_eq text (codes "unordered")) (Some word.Unordered) (cond (bytes_eq text (codes "monotonic")) (Some word.Monotonic) (cond (bytes_eq text (codes "acquire")) (Some word.Acquire) (cond (bytes_eq text (codes "release")) (Some word.Release) (cond (bytes_eq text (codes "acq_rel")) (Some word.AcqRel) (cond (bytes_eq text (codes "seq_cst")) (Some word.SeqCst) None)))))

-- the text that is printed for a value
abbrev pub memory_order_text : MemoryOrder → Text
memory_order_text word.Unordered = codes "unordered"
memory_order_text word.Monotonic = codes "monotonic"
memory_order_text word.Acquire = codes "acquire"
memory_order_text word.Release = codes "release"
memory_order_text word.AcqRel = codes "acq_rel"
memory_order_text word.SeqCst = codes "seq_cst"

-- the word of a value, with nothing after it; any other word is an error
abbrev pub memory_order_at : Reader MemoryOrder
memory_order_at = table_at memory_order_word nothing (codes "Unknown memory order ") AnAttribute

-- as a part of other texts
abbrev pub memory_order : Shape MemoryOrder
memory_order = record { reading = memory_order_at; written = memory_order_text; ends = ends_text; test = test.ghosts.eq }
