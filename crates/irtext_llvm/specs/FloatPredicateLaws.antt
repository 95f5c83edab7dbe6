-- For callers: the choice `FloatPredicate` obeys the law of a part. Its texts are those of a table of words, so a row for each gives the law.
use Rattle.std.proofs.Common.{◌≡◌, refl, codes}
use Rattle.std.specs.Prelude.{◌↔◌, IsTrue}
use Rattle.irtext_base.specs.Faults.{AnAttribute}
use Rattle.irtext_base.specs.Own.{texts_of, Lawful, Sincere}
use Rattle.irtext_tokens.specs.Infix.{nothing}
use Rattle.irtext_syntax.specs.OwnLaws.{own_last, text_law, text_misses}
use Rattle.irtext_syntax.specs.Owns.{ends_text}
use Rattle.irtext_syntax.specs.PartLaws.{PartLaw, MissesClosers, EndsAnywhere}
use Rattle.irtext_syntax.specs.ShapeLaws.{Proved}
use Rattle.irtext_syntax.specs.TableLaws.{word_row, word_sincere, table_lawful, table_sincere}
use Rattle.irtext_syntax.specs.Tables.{Row}
use Rattle.irtext_llvm.specs.FloatPredicates.{float_predicate_words, float_predicate_word, float_predicate_text, float_predicate_at, float_predicate}
use Rattle.irtext_llvm.specs.declared.float_predicate.FloatPredicate.{FloatPredicate}
use Rattle.irtext_llvm.specs.declared.float_predicate.FloatPredicate.TheVariants as word
use Rattle.irtext_llvm.specs.contracts.float_predicate.FloatPredicatePartialEq.TheImpl as test

-- how the text of each value is parsed back
rows : (x : FloatPredicate) → Row float_predicate_word nothing float_predicate_words float_predicate_text x
rows word.False = word_row (codes "false") word.False word.False refl refl refl (λ text. refl)
rows word.Oeq = word_row (codes "oeq") word.Oeq word.Oeq refl refl refl (λ text. refl)
rows word.Ogt = word_row (codes "ogt") word.Ogt word.Ogt refl refl refl (λ text. refl)
rows word.Oge = word_row (codes "oge") word.Oge word.Oge refl refl refl (λ text. refl)
rows word.Olt = word_row (codes "olt") word.Olt word.Olt refl refl refl (λ text. refl)
rows word.Ole = word_row (codes "ole") word.Ole word.Ole refl refl refl (λ text. refl)
rows word.One = word_row (codes "one") word.One word.One refl refl refl (λ text. refl)
rows word.Ord = word_row (codes "ord") word.Ord word.Ord refl refl refl (λ text. refl)
rows word.Ueq = word_row (codes "ueq") word.Ueq word.Ueq refl refl refl (λ text. refl)
rows word.Ugt = word_row (codes "ugt") word.Ugt word.Ugt refl refl refl (λ text. refl)
rows word.Uge = word_row (codes "uge") word.Uge word.Uge refl refl refl (λ text. refl)
rows word.Ult = word_row (codes "ult") word.Ult word.Ult refl refl refl (λ text. refl)
rows word.Ule = word_row (codes "ule") word.Ule word.Ule refl refl refl (λ text. refl)
rows word.Une = word_row (codes "une") word.Une word.Une refl refl refl (λ text. refl)
rows word.Uno = word_row (codes "uno") word.Uno word.Uno refl refl refl (λ text. refl)
rows word.True = word_row (codes "true") word.True word.True refl refl refl (λ text. refl)

lawful : Lawful FloatPredicate (texts_of float_predicate_at float_predicate_text)
lawful = table_lawful (codes "Unknown float predicate ") AnAttribute rows

sincere : Sincere float_predicate_at
sincere = table_sincere float_predicate_word (codes "Unknown float predicate ") AnAttribute word_sincere

-- as a part of other texts
pub float_predicate_law : PartLaw float_predicate_at float_predicate_text ends_text
float_predicate_law = text_law float_predicate_at float_predicate_text lawful sincere

pub float_predicate_misses : MissesClosers float_predicate_at
float_predicate_misses = text_misses float_predicate_at float_predicate_text lawful

-- two values are equal exactly if they are the same
pub float_predicate_decides : (x y : FloatPredicate) → IsTrue (test.ghosts.eq x y) ↔ (x ≡ y)
float_predicate_decides word.False word.False = (λ e. refl, λ e. refl)
float_predicate_decides word.Oeq word.Oeq = (λ e. refl, λ e. refl)
float_predicate_decides word.Ogt word.Ogt = (λ e. refl, λ e. refl)
float_predicate_decides word.Oge word.Oge = (λ e. refl, λ e. refl)
float_predicate_decides word.Olt word.Olt = (λ e. refl, λ e. refl)
float_predicate_decides word.Ole word.Ole = (λ e. refl, λ e. refl)
float_predicate_decides word.One word.One = (λ e. refl, λ e. refl)
float_predicate_decides word.Ord word.Ord = (λ e. refl, λ e. refl)
float_predicate_decides word.Ueq word.Ueq = (λ e. refl, λ e. refl)
float_predicate_decides word.Ugt word.Ugt = (λ e. refl, λ e. refl)
float_predicate_decides word.Uge word.Uge = (λ e. refl, λ e. refl)
float_predicate_decides word.Ult word.Ult = (λ e. refl, λ e. refl)
float_predicate_decides word.Ule word.Ule = (λ e. refl, λ e. refl)
float_predicate_decides word.Une word.Une = (λ e. refl, λ e. refl)
float_predicate_decides word.Uno word.Uno = (λ e. refl, λ e. refl)
float_predicate_decides word.True word.True = (λ e. refl, λ e. refl)
float_predicate_decides _ _ = (λ e. absurd (cc), λ e. absurd (cc))

pub float_predicate_proved : Proved float_predicate
float_predicate_proved = record { law = float_predicate_law; decides = float_predicate_decides }

-- whatever can come after a type or an attribute can come after it
pub float_predicate_last : EndsAnywhere float_predicate.ends
float_predicate_last = own_last
