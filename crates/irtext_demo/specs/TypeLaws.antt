-- For callers: the demo types obey the laws of parsing and printing.
use Rattle.std.proofs.Common.{◌≡◌, true, sym, refl, ◌∙◌, ap, true≢false, codes}
use Rattle.std.specs.Prelude.{◌↔◌, IsTrue}
use Rattle.irtext_base.specs.Families.{BeginsWithWord}
use Rattle.irtext_base.specs.Faults.{AType}
use Rattle.irtext_base.specs.Own.{texts_of, Lawful, Sincere}
use Rattle.irtext_syntax.specs.OwnLaws.{text_law, text_misses}
use Rattle.irtext_syntax.specs.Owns.{ends_text}
use Rattle.irtext_syntax.specs.PartLaws.{PartLaw, MissesClosers}
use Rattle.irtext_syntax.specs.ShapeLaws.{Proved, CanMiss}
use Rattle.irtext_syntax.specs.TableLaws.{part_row, spaced_word_row, part_sincere, word_sincere, table_lawful, table_led, table_sincere}
use Rattle.irtext_syntax.specs.Tables.{Row}
use Rattle.irtext_demo.specs.EqualTypes.{integer_same}
use Rattle.irtext_demo.specs.IntegerTypeLaws.{integer_type_law, integer_type_last}
use Rattle.irtext_demo.specs.Types.{type_words, type_word, type_text, type_after, type_at, demo_type}
use Rattle.irtext_demo.specs.declared.types.TypeWord.{TypeWord}
use Rattle.irtext_demo.specs.declared.types.TypeWord.TheVariants as word
use Rattle.irtext_demo.specs.declared.types.DemoType.{DemoType}
use Rattle.irtext_demo.specs.declared.types.DemoType.TheVariants.{Integer, Pointer}
use Rattle.irtext_demo.specs.contracts.types.DemoTypePartialEq.TheImpl as type_test
use Rattle.irtext_demo.specs.contracts.types.DemoTypeEq.TheImpl.Laws as type_laws

rows : (x : DemoType) → Row type_word type_after type_words type_text x
rows (Integer t) = part_row (codes "builtin.integer") word.Integer Integer t integer_type_law integer_type_last refl refl refl (λ text. refl)
rows Pointer = spaced_word_row (codes "test.ptr") word.Pointer Pointer refl refl refl (λ text. refl)

sincere_after : (w : TypeWord) → Sincere (type_after w)
sincere_after word.Integer = part_sincere Integer integer_type_law
sincere_after word.Pointer = word_sincere Pointer

pub type_lawful : Lawful DemoType (texts_of type_at type_text)
type_lawful = table_lawful (codes "Unregistered type ") AType rows

pub type_sincere : Sincere type_at
type_sincere = table_sincere type_word (codes "Unregistered type ") AType sincere_after

type_same : (x y : DemoType) → type_test.ghosts.eq x y ≡ true → x ≡ y
type_same (Integer s) (Integer t) e = ap Integer (integer_same s t e)
type_same Pointer Pointer e = refl
type_same _ _ e = absurd (true≢false (sym e))

pub type_decides : (x y : DemoType) → IsTrue (type_test.ghosts.eq x y) ↔ (x ≡ y)
type_decides x y = (type_same x y, λ e. ap (type_test.ghosts.eq x) (sym e) ∙ type_laws.laws-law.refl x)

pub type_led : BeginsWithWord type_words type_text
type_led = table_led rows

-- as a part of other texts
pub type_law : PartLaw type_at type_text ends_text
type_law = text_law type_at type_text type_lawful type_sincere

pub type_misses : MissesClosers type_at
type_misses = text_misses type_at type_text type_lawful

pub type_proved : Proved demo_type
type_proved = record { law = type_law; decides = type_decides }

pub type_missing : CanMiss demo_type
type_missing = record { law = type_misses }
