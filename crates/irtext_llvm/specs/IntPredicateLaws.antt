-- For callers: the choice `IntPredicate` obeys the law of a part. Its texts are those of a table of words, so a row for each gives the law.
use Rattle.std.proofs.Common.{◌≡◌, refl, codes}
use Rattle.std.specs.Prelude.{◌↔◌, IsTrue}
use Rattle.irtext_base.specs.Faults.{AnAttribute}
use Rattle.irtext_base.specs.Own.{texts_of, Lawful, Sincere}
use Rattle.irtext_tokens.specs.Infix.{nothing}
use Rattle.irtext_syntax.specs.OwnLaws.{own_last, text_law, text_misses}
use Rattle.irtext_syntax.specs.Owns.{ends_text}
use Rattle.irtext_syntax.specs.PartLaws.{PartLaw, MissesClosers, EndsAnywhere}
use Rattle.irtext_syntax.specs.ShapeLaws.{Proved}
use Rattle.irtext_syntax.specs.TableLaws.{word_row, word_sincere, table_lawful, table_sincere}
use Rattle.irtext_syntax.specs.Tables.{Row}
use Rattle.irtext_llvm.specs.IntPredicates.{int_predicate_words, int_predicate_word, int_predicate_text, int_predicate_at, int_predicate}
use Rattle.irtext_llvm.specs.declared.int_predicate.IntPredicate.{IntPredicate}
use Rattle.irtext_llvm.specs.declared.int_predicate.IntPredicate.TheVariants as word
use Rattle.irtext_llvm.specs.contracts.int_predicate.IntPredicatePartialEq.TheImpl as test

-- how the text of each value is parsed back
rows : (x : IntPredicate) → Row int_predicate_word nothing int_predicate_words int_predicate_text x
rows word.Eq = word_row (codes "eq") word.Eq word.Eq refl refl refl (λ text. refl)
rows word.Ne = word_row (codes "ne") word.Ne word.Ne refl refl refl (λ text. refl)
rows word.Ugt = word_row (codes "ugt") word.Ugt word.Ugt refl refl refl (λ text. refl)
rows word.Uge = word_row (codes "uge") word.Uge word.Uge refl refl refl (λ text. refl)
rows word.Ult = word_row (codes "ult") word.Ult word.Ult refl refl refl (λ text. refl)
rows word.Ule = word_row (codes "ule") word.Ule word.Ule refl refl refl (λ text. refl)
rows word.Sgt = word_row (codes "sgt") word.Sgt word.Sgt refl refl refl (λ text. refl)
rows word.Sge = word_row (codes "sge") word.Sge word.Sge refl refl refl (λ text. refl)
rows word.Slt = word_row (codes "slt") word.Slt word.Slt refl refl refl (λ text. refl)
rows word.Sle = word_row (codes "sle") word.Sle word.Sle refl refl refl (λ text. refl)

lawful : Lawful IntPredicate (texts_of int_predicate_at int_predicate_text)
lawful = table_lawful (codes "Unknown int predicate ") AnAttribute rows

sincere : Sincere int_predicate_at
sincere = table_sincere int_predicate_word (codes "Unknown int predicate ") AnAttribute word_sincere

-- as a part of other texts
pub int_predicate_law : PartLaw int_predicate_at int_predicate_text ends_text
int_predicate_law = text_law int_predicate_at int_predicate_text lawful sincere

pub int_predicate_misses : MissesClosers int_predicate_at
int_predicate_misses = text_misses int_predicate_at int_predicate_text lawful

-- two values are equal exactly if they are the same
pub int_predicate_decides : (x y : IntPredicate) → IsTrue (test.ghosts.eq x y) ↔ (x ≡ y)
int_predicate_decides word.Eq word.Eq = (λ e. refl, λ e. refl)
int_predicate_decides word.Ne word.Ne = (λ e. refl, λ e. refl)
int_predicate_decides word.Ugt word.Ugt = (λ e. refl, λ e. refl)
int_predicate_decides word.Uge word.Uge = (λ e. refl, λ e. refl)
int_predicate_decides word.Ult word.Ult = (λ e. refl, λ e. refl)
int_predicate_decides word.Ule word.Ule = (λ e. refl, λ e. refl)
int_predicate_decides word.Sgt word.Sgt = (λ e. refl, λ e. refl)
int_predicate_decides word.Sge word.Sge = (λ e. refl, λ e. refl)
int_predicate_decides word.Slt word.Slt = (λ e. refl, λ e. refl)
int_predicate_decides word.Sle word.Sle = (λ e. refl, λ e. refl)
int_predicate_decides _ _ = (λ e. absurd (cc), λ e. absurd (cc))

pub int_predicate_proved : Proved int_predicate
int_predicate_proved = record { law = int_predicate_law; decides = int_predicate_decides }

-- whatever can come after a type or an attribute can come after it
pub int_predicate_last : EndsAnywhere int_predicate.ends
int_predicate_last = own_last
