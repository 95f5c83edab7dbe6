-- For callers: the choice `Clause` obeys the law of a part. Its texts are those of a table of words, so a row for each gives the law.
use Rattle.std.proofs.Common.{◌≡◌, refl, codes}
use Rattle.std.specs.Prelude.{◌↔◌, IsTrue}
use Rattle.irtext_base.specs.Faults.{AnAttribute}
use Rattle.irtext_base.specs.Own.{texts_of, Lawful, Sincere}
use Rattle.irtext_tokens.specs.Infix.{nothing}
use Rattle.irtext_syntax.specs.OwnLaws.{text_law, text_misses}
use Rattle.irtext_syntax.specs.Owns.{ends_text}
use Rattle.irtext_syntax.specs.PartLaws.{PartLaw, MissesClosers}
use Rattle.irtext_syntax.specs.ShapeLaws.{Proved, CanMiss}
use Rattle.irtext_syntax.specs.TableLaws.{word_row, word_sincere, table_lawful, table_sincere}
use Rattle.irtext_syntax.specs.Tables.{Row}
use Rattle.irtext_llvm.specs.Clauses.{clause_words, clause_word, clause_text, clause_at, clause}
use Rattle.irtext_llvm.specs.declared.clause.Clause.{Clause}
use Rattle.irtext_llvm.specs.declared.clause.Clause.TheVariants as word
use Rattle.irtext_llvm.specs.contracts.clause.ClausePartialEq.TheImpl as test

-- how the text of each value is parsed back
rows : (x : Clause) → Row clause_word nothing clause_words clause_text x
rows word.Cleanup = word_row (codes "cleanup") word.Cleanup word.Cleanup refl refl refl (λ text. refl)
rows word.Catch = word_row (codes "catch") word.Catch word.Catch refl refl refl (λ text. refl)
rows word.Filter = word_row (codes "filter") word.Filter word.Filter refl refl refl (λ text. refl)

lawful : Lawful Clause (texts_of clause_at clause_text)
lawful = table_lawful (codes "Unknown clause ") AnAttribute rows

sincere : Sincere clause_at
sincere = table_sincere clause_word (codes "Unknown clause ") AnAttribute word_sincere

-- as a part of other texts
pub clause_law : PartLaw clause_at clause_text ends_text
clause_law = text_law clause_at clause_text lawful sincere

pub clause_misses : MissesClosers clause_at
clause_misses = text_misses clause_at clause_text lawful

-- two values are equal exactly if they are the same
pub clause_decides : (x y : Clause) → IsTrue (test.ghosts.eq x y) ↔ (x ≡ y)
clause_decides word.Cleanup word.Cleanup = (λ e. refl, λ e. refl)
clause_decides word.Catch word.Catch = (λ e. refl, λ e. refl)
clause_decides word.Filter word.Filter = (λ e. refl, λ e. refl)
clause_decides _ _ = (λ e. absurd (cc), λ e. absurd (cc))

pub clause_proved : Proved clause
clause_proved = record { law = clause_law; decides = clause_decides }

-- it is missing where a closing character comes
pub clause_missing : CanMiss clause
clause_missing = record { law = clause_misses }
