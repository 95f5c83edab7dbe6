-- For callers: the demo attributes obey the laws of parsing and printing.
use Rattle.std.proofs.Common.{◌≡◌, true, refl, sym, ap, subst, codes, true≢false}
use Rattle.std.specs.Prelude.{◌↔◌, IsTrue}
use Rattle.irtext_base.specs.Families.{BeginsWithWord}
use Rattle.irtext_base.specs.Faults.{AnAttribute}
use Rattle.irtext_base.specs.Own.{texts_of, Lawful, Sincere, Unreserved}
use Rattle.irtext_syntax.specs.IntegerKinds.{i64}
use Rattle.irtext_syntax.specs.Sequences.{anything_ends}
use Rattle.irtext_syntax.specs.ShapeLaws.{Proved, angle_encloses, arrow_joins, colon_joins, list_proved, number_proved, quoted_proved, round_encloses, then_proved, within_proved}
use Rattle.irtext_syntax.specs.TableLaws.{part_row, part_sincere, table_lawful, table_led, table_sincere, table_unreserved}
use Rattle.irtext_syntax.specs.Tables.{Row}
use Rattle.irtext_demo.specs.Attributes.{attr_words, attr_word, integer_shape, types_shape, function_shape, attr_text, attr_after, attr_at}
use Rattle.irtext_demo.specs.IntegerTypeLaws.{integer_type_proved}
use Rattle.irtext_demo.specs.TypeLaws.{type_proved, type_missing}
use Rattle.irtext_demo.specs.declared.attributes.AttrWord.{AttrWord}
use Rattle.irtext_demo.specs.declared.attributes.AttrWord.TheVariants as word
use Rattle.irtext_demo.specs.declared.attributes.DemoAttr.{DemoAttr}
use Rattle.irtext_demo.specs.declared.attributes.DemoAttr.TheVariants as attr
use Rattle.irtext_demo.specs.contracts.attributes.DemoAttrPartialEq.TheImpl as test

integer_proved : Proved integer_shape
integer_proved = within_proved angle_encloses (then_proved (number_proved i64) colon_joins integer_type_proved)

types_proved : Proved types_shape
types_proved = list_proved round_encloses type_proved type_missing

function_proved : Proved function_shape
function_proved = within_proved angle_encloses (then_proved types_proved (arrow_joins (λ rest. refl)) types_proved)

-- how the text of each attribute is parsed back
rows : (x : DemoAttr) → Row attr_word attr_after attr_words attr_text x
rows (attr.Integer x) = part_row (codes "builtin.integer") word.Integer attr.Integer x integer_proved.law anything_ends refl refl refl (λ text. refl)
rows (attr.String x) = part_row (codes "builtin.string") word.String attr.String x quoted_proved.law anything_ends refl refl refl (λ text. refl)
rows (attr.Function x) = part_row (codes "builtin.function") word.Function attr.Function x function_proved.law anything_ends refl refl refl (λ text. refl)
rows (attr.Debug x) = part_row (codes "test.dbg") word.Debug attr.Debug x quoted_proved.law anything_ends refl refl refl (λ text. refl)

-- what comes after each word is about the text
after_sincere : (w : AttrWord) → Sincere (attr_after w)
after_sincere word.Integer = part_sincere attr.Integer integer_proved.law
after_sincere word.String = part_sincere attr.String quoted_proved.law
after_sincere word.Function = part_sincere attr.Function function_proved.law
after_sincere word.Debug = part_sincere attr.Debug quoted_proved.law

pub attr_lawful : Lawful DemoAttr (texts_of attr_at attr_text)
attr_lawful = table_lawful (codes "Unregistered attribute ") AnAttribute rows

pub attr_led : BeginsWithWord attr_words attr_text
attr_led = table_led rows

pub attr_unreserved : Unreserved DemoAttr (texts_of attr_at attr_text)
attr_unreserved = table_unreserved attr_at rows refl

pub attr_sincere : Sincere attr_at
attr_sincere = table_sincere attr_word (codes "Unregistered attribute ") AnAttribute after_sincere

same : (x y : DemoAttr) → test.ghosts.eq x y ≡ true → x ≡ y
same (attr.Integer x) (attr.Integer y) e = ap attr.Integer ((integer_proved.decides x y).0 e)
same (attr.String x) (attr.String y) e = ap attr.String ((quoted_proved.decides x y).0 e)
same (attr.Function x) (attr.Function y) e = ap attr.Function ((function_proved.decides x y).0 e)
same (attr.Debug x) (attr.Debug y) e = ap attr.Debug ((quoted_proved.decides x y).0 e)
same _ _ e = absurd (true≢false (sym e))

own : (x : DemoAttr) → test.ghosts.eq x x ≡ true
own (attr.Integer x) = (integer_proved.decides x x).1 refl
own (attr.String x) = (quoted_proved.decides x x).1 refl
own (attr.Function x) = (function_proved.decides x x).1 refl
own (attr.Debug x) = (quoted_proved.decides x x).1 refl

-- attributes are equal exactly if they are the same values
pub attr_decides : (x y : DemoAttr) → IsTrue (test.ghosts.eq x y) ↔ (x ≡ y)
attr_decides x y = (same x y, λ e. subst (λ z. test.ghosts.eq x z ≡ true) e (own x))
