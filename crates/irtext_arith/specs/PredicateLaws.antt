-- For callers: the choice `Predicate` obeys the law of a part. Its texts are those of a table of words, so a row for each gives the law.
use Rattle.std.proofs.Common.{◌≡◌, refl, codes}
use Rattle.std.specs.Prelude.{◌↔◌, IsTrue}
use Rattle.irtext_base.specs.Faults.{AnAttribute}
use Rattle.irtext_base.specs.Own.{texts_of, Lawful, Sincere}
use Rattle.irtext_tokens.specs.Infix.{nothing}
use Rattle.irtext_syntax.specs.OwnLaws.{own_last, text_law, text_misses}
use Rattle.irtext_syntax.specs.Owns.{ends_text}
use Rattle.irtext_syntax.specs.PartLaws.{PartLaw, MissesClosers, EndsAnywhere}
use Rattle.irtext_syntax.specs.ShapeLaws.{Proved}
use Rattle.irtext_syntax.specs.TableLaws.{word_row, word_sincere, table_lawful, table_sincere}
use Rattle.irtext_syntax.specs.Tables.{Row}
use Rattle.irtext_arith.specs.Predicates.{predicate_words, predicate_word, predicate_text, predicate_at, predicate}
use Rattle.irtext_arith.specs.declared.predicate.Predicate.{Predicate}
use Rattle.irtext_arith.specs.declared.predicate.Predicate.TheVariants as word
use Rattle.irtext_arith.specs.contracts.predicate.PredicatePartialEq.TheImpl as test

-- how the text of each value is parsed back
rows : (x : Predicate) → Row predicate_word nothing predicate_words predicate_text x
rows word.Equal = word_row (codes "eq") word.Equal word.Equal refl refl refl (λ text. refl)
rows word.Different = word_row (codes "ne") word.Different word.Different refl refl refl (λ text. refl)
rows word.Less = word_row (codes "lt") word.Less word.Less refl refl refl (λ text. refl)
rows word.LessOrEqual = word_row (codes "le") word.LessOrEqual word.LessOrEqual refl refl refl (λ text. refl)

lawful : Lawful Predicate (texts_of predicate_at predicate_text)
lawful = table_lawful (codes "Unknown predicate ") AnAttribute rows

sincere : Sincere predicate_at
sincere = table_sincere predicate_word (codes "Unknown predicate ") AnAttribute word_sincere

-- as a part of other texts
pub predicate_law : PartLaw predicate_at predicate_text ends_text
predicate_law = text_law predicate_at predicate_text lawful sincere

pub predicate_misses : MissesClosers predicate_at
predicate_misses = text_misses predicate_at predicate_text lawful

-- two values are equal exactly if they are the same
pub predicate_decides : (x y : Predicate) → IsTrue (test.ghosts.eq x y) ↔ (x ≡ y)
predicate_decides word.Equal word.Equal = (λ e. refl, λ e. refl)
predicate_decides word.Different word.Different = (λ e. refl, λ e. refl)
predicate_decides word.Less word.Less = (λ e. refl, λ e. refl)
predicate_decides word.LessOrEqual word.LessOrEqual = (λ e. refl, λ e. refl)
predicate_decides _ _ = (λ e. absurd (cc), λ e. absurd (cc))

pub predicate_proved : Proved predicate
predicate_proved = record { law = predicate_law; decides = predicate_decides }

-- whatever can come after a type or an attribute can come after it
pub predicate_last : EndsAnywhere predicate.ends
predicate_last = own_last
