-- For callers: the types of the dialect `arith` obey the laws of parsing and printing: a row for each.
use Rattle.std.proofs.Common.{◌≡◌, true, refl, sym, ap, subst, codes, true≢false}
use Rattle.std.specs.Prelude.{◌↔◌, IsTrue}
use Rattle.irtext_base.specs.Families.{BeginsWithWord}
use Rattle.irtext_base.specs.Faults.{AType}
use Rattle.irtext_base.specs.Own.{texts_of, Lawful, Sincere}
use Rattle.irtext_syntax.specs.IntegerKinds.{u32}
use Rattle.irtext_syntax.specs.NumberLaws.{digits_last}
use Rattle.irtext_syntax.specs.ShapeLaws.{Proved, number_proved}
use Rattle.irtext_syntax.specs.TableLaws.{part_row, word_row, part_sincere, word_sincere, table_lawful, table_led, table_sincere}
use Rattle.irtext_syntax.specs.Tables.{Row}
use Rattle.irtext_arith.specs.Types.{int_shape, type_words, type_word, type_text, type_after, type_at}
use Rattle.irtext_arith.specs.contracts.types.ArithTypePartialEq.TheImpl as test
use Rattle.irtext_arith.specs.declared.types.TypeWord.{TypeWord}
use Rattle.irtext_arith.specs.declared.types.TypeWord.TheVariants as word
use Rattle.irtext_arith.specs.declared.types.ArithType.{ArithType}
use Rattle.irtext_arith.specs.declared.types.ArithType.TheVariants as ty

int_shape_proved : Proved int_shape
int_shape_proved = number_proved u32

-- how the text of each type is parsed back
rows : (x : ArithType) → Row type_word type_after type_words type_text x
rows (ty.Int x) = part_row (codes "arith.int") word.Int ty.Int x int_shape_proved.law digits_last refl refl refl (λ text. refl)
rows ty.Index = word_row (codes "arith.index") word.Index ty.Index refl refl refl (λ text. refl)

-- what comes after each word is about the text
after_sincere : (w : TypeWord) → Sincere (type_after w)
after_sincere word.Int = part_sincere ty.Int int_shape_proved.law
after_sincere word.Index = word_sincere ty.Index

pub type_lawful : Lawful ArithType (texts_of type_at type_text)
type_lawful = table_lawful (codes "Unregistered type ") AType rows

pub type_led : BeginsWithWord type_words type_text
type_led = table_led rows

pub type_sincere : Sincere type_at
type_sincere = table_sincere type_word (codes "Unregistered type ") AType after_sincere

same : (x y : ArithType) → test.ghosts.eq x y ≡ true → x ≡ y
same (ty.Int x) (ty.Int y) e = ap ty.Int ((int_shape_proved.decides x y).0 e)
same ty.Index ty.Index e = refl
same _ _ e = absurd (true≢false (sym e))

own : (x : ArithType) → test.ghosts.eq x x ≡ true
own (ty.Int x) = (int_shape_proved.decides x x).1 refl
own ty.Index = refl

-- types are equal exactly if they are the same values
pub type_decides : (x y : ArithType) → IsTrue (test.ghosts.eq x y) ↔ (x ≡ y)
type_decides x y = (same x y, λ e. subst (λ z. test.ghosts.eq x z ≡ true) e (own x))
