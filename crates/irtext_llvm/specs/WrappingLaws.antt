-- For callers: the choice `Wrapping` obeys the law of a part. Its texts are those of a table of words, so a row for each gives the law.
use Rattle.std.proofs.Common.{◌≡◌, refl, codes}
use Rattle.std.specs.Prelude.{◌↔◌, IsTrue}
use Rattle.irtext_base.specs.Faults.{AnAttribute}
use Rattle.irtext_base.specs.Own.{texts_of, Lawful, Sincere}
use Rattle.irtext_tokens.specs.Infix.{nothing}
use Rattle.irtext_syntax.specs.OwnLaws.{own_last, text_law, text_misses}
use Rattle.irtext_syntax.specs.Owns.{ends_text}
use Rattle.irtext_syntax.specs.PartLaws.{PartLaw, MissesClosers, EndsAnywhere}
use Rattle.irtext_syntax.specs.ShapeLaws.{Proved}
use Rattle.irtext_syntax.specs.TableLaws.{word_row, word_sincere, table_lawful, table_sincere}
use Rattle.irtext_syntax.specs.Tables.{Row}
use Rattle.irtext_llvm.specs.Wrappings.{wrapping_words, wrapping_word, wrapping_text, wrapping_at, wrapping}
use Rattle.irtext_llvm.specs.declared.wrapping.Wrapping.{Wrapping}
use Rattle.irtext_llvm.specs.declared.wrapping.Wrapping.TheVariants as word
use Rattle.irtext_llvm.specs.contracts.wrapping.WrappingPartialEq.TheImpl as test

-- how the text of each value is parsed back
rows : (x : Wrapping) → Row wrapping_word nothing wrapping_words wrapping_text x
rows word.Wraps = word_row (codes "wraps") word.Wraps word.Wraps refl refl refl (λ text. refl)
rows word.Nsw = word_row (codes "nsw") word.Nsw word.Nsw refl refl refl (λ text. refl)
rows word.Nuw = word_row (codes "nuw") word.Nuw word.Nuw refl refl refl (λ text. refl)
rows word.NuwNsw = word_row (codes "nuw_nsw") word.NuwNsw word.NuwNsw refl refl refl (λ text. refl)

lawful : Lawful Wrapping (texts_of wrapping_at wrapping_text)
lawful = table_lawful (codes "Unknown wrapping ") AnAttribute rows

sincere : Sincere wrapping_at
sincere = table_sincere wrapping_word (codes "Unknown wrapping ") AnAttribute word_sincere

-- as a part of other texts
pub wrapping_law : PartLaw wrapping_at wrapping_text ends_text
wrapping_law = text_law wrapping_at wrapping_text lawful sincere

pub wrapping_misses : MissesClosers wrapping_at
wrapping_misses = text_misses wrapping_at wrapping_text lawful

-- two values are equal exactly if they are the same
pub wrapping_decides : (x y : Wrapping) → IsTrue (test.ghosts.eq x y) ↔ (x ≡ y)
wrapping_decides word.Wraps word.Wraps = (λ e. refl, λ e. refl)
wrapping_decides word.Nsw word.Nsw = (λ e. refl, λ e. refl)
wrapping_decides word.Nuw word.Nuw = (λ e. refl, λ e. refl)
wrapping_decides word.NuwNsw word.NuwNsw = (λ e. refl, λ e. refl)
wrapping_decides _ _ = (λ e. absurd (cc), λ e. absurd (cc))

pub wrapping_proved : Proved wrapping
wrapping_proved = record { law = wrapping_law; decides = wrapping_decides }

-- whatever can come after a type or an attribute can come after it
pub wrapping_last : EndsAnywhere wrapping.ends
wrapping_last = own_last
