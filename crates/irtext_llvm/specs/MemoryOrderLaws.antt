-- For callers: the choice `MemoryOrder` obeys the law of a part. Its texts are those of a table of words, so a row for each gives the law.
use Rattle.std.proofs.Common.{◌≡◌, refl, codes}
use Rattle.std.specs.Prelude.{◌↔◌, IsTrue}
use Rattle.irtext_base.specs.Faults.{AnAttribute}
use Rattle.irtext_base.specs.Own.{texts_of, Lawful, Sincere}
use Rattle.irtext_tokens.specs.Infix.{nothing}
use Rattle.irtext_syntax.specs.OwnLaws.{own_last, text_law, text_misses}
use Rattle.irtext_syntax.specs.Owns.{ends_text}
use Rattle.irtext_syntax.specs.PartLaws.{PartLaw, MissesClosers, EndsAnywhere}
use Rattle.irtext_syntax.specs.ShapeLaws.{Proved}
use Rattle.irtext_syntax.specs.TableLaws.{word_row, word_sincere, table_lawful, table_sincere}
use Rattle.irtext_syntax.specs.Tables.{Row}
use Rattle.irtext_llvm.specs.MemoryOrders.{memory_order_words, memory_order_word, memory_order_text, memory_order_at, memory_order}
use Rattle.irtext_llvm.specs.declared.memory_order.MemoryOrder.{MemoryOrder}
use Rattle.irtext_llvm.specs.declared.memory_order.MemoryOrder.TheVariants as word
use Rattle.irtext_llvm.specs.contracts.memory_order.MemoryOrderPartialEq.TheImpl as test

-- how the text of each value is parsed back
rows : (x : MemoryOrder) → Row memory_order_word nothing memory_order_words memory_order_text x
rows word.Unordered = word_row (codes "unordered") word.Unordered word.Unordered refl refl refl (λ text. refl)
rows word.Monotonic = word_row (codes "monotonic") word.Monotonic word.Monotonic refl refl refl (λ text. refl)
rows word.Acquire = word_row (codes "acquire") word.Acquire word.Acquire refl refl refl (λ text. refl)
rows word.Release = word_row (codes "release") word.Release word.Release refl refl refl (λ text. refl)
rows word.AcqRel = word_row (codes "acq_rel") word.AcqRel word.AcqRel refl refl refl (λ text. refl)
rows word.SeqCst = word_row (codes "seq_cst") word.SeqCst word.SeqCst refl refl refl (λ text. refl)

lawful : Lawful MemoryOrder (texts_of memory_order_at memory_order_text)
lawful = table_lawful (codes "Unknown memory order ") AnAttribute rows

sincere : Sincere memory_order_at
sincere = table_sincere memory_order_word (codes "Unknown memory order ") AnAttribute word_sincere

-- as a part of other texts
pub memory_order_law : PartLaw memory_order_at memory_order_text ends_text
memory_order_law = text_law memory_order_at memory_order_text lawful sincere

pub memory_order_misses : MissesClosers memory_order_at
memory_order_misses = text_misses memory_order_at memory_order_text lawful

-- two values are equal exactly if they are the same
pub memory_order_decides : (x y : MemoryOrder) → IsTrue (test.ghosts.eq x y) ↔ (x ≡ y)
memory_order_decides word.Unordered word.Unordered = (λ e. refl, λ e. refl)
memory_order_decides word.Monotonic word.Monotonic = (λ e. refl, λ e. refl)
memory_order_decides word.Acquire word.Acquire = (λ e. refl, λ e. refl)
memory_order_decides word.Release word.Release = (λ e. refl, λ e. refl)
memory_order_decides word.AcqRel word.AcqRel = (λ e. refl, λ e. refl)
memory_order_decides word.SeqCst word.SeqCst = (λ e. refl, λ e. refl)
memory_order_decides _ _ = (λ e. absurd (cc), λ e. absurd (cc))

pub memory_order_proved : Proved memory_order
memory_order_proved = record { law = memory_order_law; decides = memory_order_decides }

-- whatever can come after a type or an attribute can come after it
pub memory_order_last : EndsAnywhere memory_order.ends
memory_order_last = own_last
