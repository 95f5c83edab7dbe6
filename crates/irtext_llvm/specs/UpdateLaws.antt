-- For callers: the choice `Update` obeys the law of a part. Its texts are those of a table of words, so a row for each gives the law.
use Rattle.std.proofs.Common.{◌≡◌, refl, codes}
use Rattle.std.specs.Prelude.{◌↔◌, IsTrue}
use Rattle.irtext_base.specs.Faults.{AnAttribute}
use Rattle.irtext_base.specs.Own.{texts_of, Lawful, Sincere}
use Rattle.irtext_tokens.specs.Infix.{nothing}
use Rattle.irtext_syntax.specs.OwnLaws.{own_last, text_law, text_misses}
use Rattle.irtext_syntax.specs.Owns.{ends_text}
use Rattle.irtext_syntax.specs.PartLaws.{PartLaw, MissesClosers, EndsAnywhere}
use Rattle.irtext_syntax.specs.ShapeLaws.{Proved}
use Rattle.irtext_syntax.specs.TableLaws.{word_row, word_sincere, table_lawful, table_sincere}
use Rattle.irtext_syntax.specs.Tables.{Row}
use Rattle.irtext_llvm.specs.Updates.{update_words, update_word, update_text, update_at, update}
use Rattle.irtext_llvm.specs.declared.update.Update.{Update}
use Rattle.irtext_llvm.specs.declared.update.Update.TheVariants as word
use Rattle.irtext_llvm.specs.contracts.update.UpdatePartialEq.TheImpl as test

-- how the text of each value is parsed back
rows : (x : Update) → Row update_word nothing update_words update_text x
rows word.Xchg = word_row (codes "xchg") word.Xchg word.Xchg refl refl refl (λ text. refl)
rows word.Add = word_row (codes "add") word.Add word.Add refl refl refl (λ text. refl)
rows word.Sub = word_row (codes "sub") word.Sub word.Sub refl refl refl (λ text. refl)
rows word.And = word_row (codes "and") word.And word.And refl refl refl (λ text. refl)
rows word.Nand = word_row (codes "nand") word.Nand word.Nand refl refl refl (λ text. refl)
rows word.Or = word_row (codes "or") word.Or word.Or refl refl refl (λ text. refl)
rows word.Xor = word_row (codes "xor") word.Xor word.Xor refl refl refl (λ text. refl)
rows word.Max = word_row (codes "max") word.Max word.Max refl refl refl (λ text. refl)
rows word.Min = word_row (codes "min") word.Min word.Min refl refl refl (λ text. refl)
rows word.Umax = word_row (codes "umax") word.Umax word.Umax refl refl refl (λ text. refl)
rows word.Umin = word_row (codes "umin") word.Umin word.Umin refl refl refl (λ text. refl)
rows word.Fadd = word_row (codes "fadd") word.Fadd word.Fadd refl refl refl (λ text. refl)
rows word.Fsub = word_row (codes "fsub") word.Fsub word.Fsub refl refl refl (λ text. refl)
rows word.Fmax = word_row (codes "fmax") word.Fmax word.Fmax refl refl refl (λ text. refl)
rows word.Fmin = word_row (codes "fmin") word.Fmin word.Fmin refl refl refl (λ text. refl)

lawful : Lawful Update (texts_of update_at update_text)
lawful = table_lawful (codes "Unknown update ") AnAttribute rows

sincere : Sincere update_at
sincere = table_sincere update_word (codes "Unknown update ") AnAttribute word_sincere

-- as a part of other texts
pub update_law : PartLaw update_at update_text ends_text
update_law = text_law update_at update_text lawful sincere

pub update_misses : MissesClosers update_at
update_misses = text_misses update_at update_text lawful

-- two values are equal exactly if they are the same
pub update_decides : (x y : Update) → IsTrue (test.ghosts.eq x y) ↔ (x ≡ y)
update_decides word.Xchg word.Xchg = (λ e. refl, λ e. refl)
update_decides word.Add word.Add = (λ e. refl, λ e. refl)
update_decides word.Sub word.Sub = (λ e. refl, λ e. refl)
update_decides word.And word.And = (λ e. refl, λ e. refl)
update_decides word.Nand word.Nand = (λ e. refl, λ e. refl)
update_decides word.Or word.Or = (λ e. refl, λ e. refl)
update_decides word.Xor word.Xor = (λ e. refl, λ e. refl)
update_decides word.Max word.Max = (λ e. refl, λ e. refl)
update_decides word.Min word.Min = (λ e. refl, λ e. refl)
update_decides word.Umax word.Umax = (λ e. refl, λ e. refl)
update_decides word.Umin word.Umin = (λ e. refl, λ e. refl)
update_decides word.Fadd word.Fadd = (λ e. refl, λ e. refl)
update_decides word.Fsub word.Fsub = (λ e. refl, λ e. refl)
update_decides word.Fmax word.Fmax = (λ e. refl, λ e. refl)
update_decides word.Fmin word.Fmin = (λ e. refl, λ e. refl)
update_decides _ _ = (λ e. absurd (cc), λ e. absurd (cc))

pub update_proved : Proved update
update_proved = record { law = update_law; decides = update_decides }

-- whatever can come after a type or an attribute can come after it
pub update_last : EndsAnywhere update.ends
update_last = own_last
