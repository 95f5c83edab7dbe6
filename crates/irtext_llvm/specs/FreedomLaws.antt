-- For callers: the choice `Freedom` obeys the law of a part. Its texts are those of a table of words, so a row for each gives the law.
use Rattle.std.proofs.Common.{◌≡◌, refl, codes}
use Rattle.std.specs.Prelude.{◌↔◌, IsTrue}
use Rattle.irtext_base.specs.Faults.{AnAttribute}
use Rattle.irtext_base.specs.Own.{texts_of, Lawful, Sincere}
use Rattle.irtext_tokens.specs.Infix.{nothing}
use Rattle.irtext_syntax.specs.OwnLaws.{text_law, text_misses}
use Rattle.irtext_syntax.specs.Owns.{ends_text}
use Rattle.irtext_syntax.specs.PartLaws.{PartLaw, MissesClosers}
use Rattle.irtext_syntax.specs.ShapeLaws.{Proved, CanMiss}
use Rattle.irtext_syntax.specs.TableLaws.{word_row, word_sincere, table_lawful, table_sincere}
use Rattle.irtext_syntax.specs.Tables.{Row}
use Rattle.irtext_llvm.specs.Freedoms.{freedom_words, freedom_word, freedom_text, freedom_at, freedom}
use Rattle.irtext_llvm.specs.declared.freedom.Freedom.{Freedom}
use Rattle.irtext_llvm.specs.declared.freedom.Freedom.TheVariants as word
use Rattle.irtext_llvm.specs.contracts.freedom.FreedomPartialEq.TheImpl as test

-- how the text of each value is parsed back
rows : (x : Freedom) → Row freedom_word nothing freedom_words freedom_text x
rows word.Nnan = word_row (codes "nnan") word.Nnan word.Nnan refl refl refl (λ text. refl)
rows word.Ninf = word_row (codes "ninf") word.Ninf word.Ninf refl refl refl (λ text. refl)
rows word.Nsz = word_row (codes "nsz") word.Nsz word.Nsz refl refl refl (λ text. refl)
rows word.Arcp = word_row (codes "arcp") word.Arcp word.Arcp refl refl refl (λ text. refl)
rows word.Contract = word_row (codes "contract") word.Contract word.Contract refl refl refl (λ text. refl)
rows word.Afn = word_row (codes "afn") word.Afn word.Afn refl refl refl (λ text. refl)
rows word.Reassoc = word_row (codes "reassoc") word.Reassoc word.Reassoc refl refl refl (λ text. refl)

lawful : Lawful Freedom (texts_of freedom_at freedom_text)
lawful = table_lawful (codes "Unknown freedom ") AnAttribute rows

sincere : Sincere freedom_at
sincere = table_sincere freedom_word (codes "Unknown freedom ") AnAttribute word_sincere

-- as a part of other texts
pub freedom_law : PartLaw freedom_at freedom_text ends_text
freedom_law = text_law freedom_at freedom_text lawful sincere

pub freedom_misses : MissesClosers freedom_at
freedom_misses = text_misses freedom_at freedom_text lawful

-- two values are equal exactly if they are the same
pub freedom_decides : (x y : Freedom) → IsTrue (test.ghosts.eq x y) ↔ (x ≡ y)
freedom_decides word.Nnan word.Nnan = (λ e. refl, λ e. refl)
freedom_decides word.Ninf word.Ninf = (λ e. refl, λ e. refl)
freedom_decides word.Nsz word.Nsz = (λ e. refl, λ e. refl)
freedom_decides word.Arcp word.Arcp = (λ e. refl, λ e. refl)
freedom_decides word.Contract word.Contract = (λ e. refl, λ e. refl)
freedom_decides word.Afn word.Afn = (λ e. refl, λ e. refl)
freedom_decides word.Reassoc word.Reassoc = (λ e. refl, λ e. refl)
freedom_decides _ _ = (λ e. absurd (cc), λ e. absurd (cc))

pub freedom_proved : Proved freedom
freedom_proved = record { law = freedom_law; decides = freedom_decides }

-- it is missing where a closing character comes
pub freedom_missing : CanMiss freedom
freedom_missing = record { law = freedom_misses }
