-- For callers: the choice `FloatKind` obeys the law of a part. Its texts are those of a table of words, so a row for each gives the law.
use Rattle.std.proofs.Common.{◌≡◌, refl, codes}
use Rattle.std.specs.Prelude.{◌↔◌, IsTrue}
use Rattle.irtext_base.specs.Faults.{AType}
use Rattle.irtext_base.specs.Own.{texts_of, Lawful, Sincere}
use Rattle.irtext_tokens.specs.Infix.{nothing}
use Rattle.irtext_syntax.specs.OwnLaws.{own_last, text_law, text_misses}
use Rattle.irtext_syntax.specs.Owns.{ends_text}
use Rattle.irtext_syntax.specs.PartLaws.{PartLaw, MissesClosers, EndsAnywhere}
use Rattle.irtext_syntax.specs.ShapeLaws.{Proved}
use Rattle.irtext_syntax.specs.TableLaws.{word_row, word_sincere, table_lawful, table_sincere}
use Rattle.irtext_syntax.specs.Tables.{Row}
use Rattle.irtext_llvm.specs.FloatKinds.{float_kind_words, float_kind_word, float_kind_text, float_kind_at, float_kind}
use Rattle.irtext_llvm.specs.declared.float_kind.FloatKind.{FloatKind}
use Rattle.irtext_llvm.specs.declared.float_kind.FloatKind.TheVariants as word
use Rattle.irtext_llvm.specs.contracts.float_kind.FloatKindPartialEq.TheImpl as test

-- how the text of each value is parsed back
rows : (x : FloatKind) → Row float_kind_word nothing float_kind_words float_kind_text x
rows word.Half = word_row (codes "half") word.Half word.Half refl refl refl (λ text. refl)
rows word.Bfloat = word_row (codes "bfloat") word.Bfloat word.Bfloat refl refl refl (λ text. refl)
rows word.Float = word_row (codes "float") word.Float word.Float refl refl refl (λ text. refl)
rows word.Double = word_row (codes "double") word.Double word.Double refl refl refl (λ text. refl)
rows word.X86Fp80 = word_row (codes "x86_fp80") word.X86Fp80 word.X86Fp80 refl refl refl (λ text. refl)
rows word.Fp128 = word_row (codes "fp128") word.Fp128 word.Fp128 refl refl refl (λ text. refl)
rows word.PpcFp128 = word_row (codes "ppc_fp128") word.PpcFp128 word.PpcFp128 refl refl refl (λ text. refl)

lawful : Lawful FloatKind (texts_of float_kind_at float_kind_text)
lawful = table_lawful (codes "Unknown float kind ") AType rows

sincere : Sincere float_kind_at
sincere = table_sincere float_kind_word (codes "Unknown float kind ") AType word_sincere

-- as a part of other texts
pub float_kind_law : PartLaw float_kind_at float_kind_text ends_text
float_kind_law = text_law float_kind_at float_kind_text lawful sincere

pub float_kind_misses : MissesClosers float_kind_at
float_kind_misses = text_misses float_kind_at float_kind_text lawful

-- two values are equal exactly if they are the same
pub float_kind_decides : (x y : FloatKind) → IsTrue (test.ghosts.eq x y) ↔ (x ≡ y)
float_kind_decides word.Half word.Half = (λ e. refl, λ e. refl)
float_kind_decides word.Bfloat word.Bfloat = (λ e. refl, λ e. refl)
float_kind_decides word.Float word.Float = (λ e. refl, λ e. refl)
float_kind_decides word.Double word.Double = (λ e. refl, λ e. refl)
float_kind_decides word.X86Fp80 word.X86Fp80 = (λ e. refl, λ e. refl)
float_kind_decides word.Fp128 word.Fp128 = (λ e. refl, λ e. refl)
float_kind_decides word.PpcFp128 word.PpcFp128 = (λ e. refl, λ e. refl)
float_kind_decides _ _ = (λ e. absurd (cc), λ e. absurd (cc))

pub float_kind_proved : Proved float_kind
float_kind_proved = record { law = float_kind_law; decides = float_kind_decides }

-- whatever can come after a type or an attribute can come after it
pub float_kind_last : EndsAnywhere float_kind.ends
float_kind_last = own_last
