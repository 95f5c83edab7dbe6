-- The heads of the types of the dialect `llvm` obey the law of a grammar: a row for each.
use Rattle.std.proofs.Common.{◌≡◌, Bool, true, false, ◌++◌, ◌∷◌, length, refl, sym, ap, subst, codes, true≢false, inr}
use Rattle.std.specs.Prelude.{◌↔◌, ◌<◌, IsTrue}
use Rattle.std.specs.Str.{all_scalars}
use Rattle.irtext_base.specs.Answers.{Read}
use Rattle.irtext_base.specs.Faults.{AType}
use Rattle.irtext_base.specs.Own.{Ends, Sincere}
use Rattle.irtext_base.specs.Reading.{keyword}
use Rattle.irtext_base.specs.Text.{Text, begins, begins_word, front, in_dotted}
use Rattle.irtext_syntax.specs.IntegerKinds.{u32, u64}
use Rattle.irtext_syntax.specs.NumberLaws.{digits_last}
use Rattle.irtext_syntax.specs.PartLaws.{IsRead}
use Rattle.irtext_syntax.specs.ShapeLaws.{Proved, number_proved}
use Rattle.irtext_syntax.specs.TableLaws.{part_row, word_row, part_sincere, word_sincere, table_sincere}
use Rattle.irtext_tree.specs.GrammarLaws.{GrammarLaw, Follows, IfMore, Occurs, Placed, SecondIs}
use Rattle.irtext_tree.specs.HeadRows.{HeadRow, closed_row, spaced_open_row, mark_row, opened_row, head_starts, head_back, head_scalars, head_led, head_given_names, head_identifier, heads_missing, advances_if, table_advances, mark_advances, mark_sincere, more_advances, more_sincere, opening_sincere, opened_sincere, table_placed, part_placed, word_placed, mark_placed, more_placed, opening_placed, opened_placed}
use Rattle.irtext_tree.specs.Words.{HeadsLed, HeadsUnreserved}
use Rattle.irtext_base.specs.Families.{is_one_of}
use Rattle.irtext_tests_trees.specs.Brackets.{angle_comma_law}
use Rattle.irtext_tests_trees.specs.Types.{type_words, type_word, type_after, int_shape, array_shape, llvm_text, llvm_at, llvm_growth, same_place, place_of, waits_of}
use Rattle.irtext_tests_trees.specs.declared.types.TypeWord.{TypeWord}
use Rattle.irtext_tests_trees.specs.declared.types.TypeWord.TheVariants as word
use Rattle.irtext_tests_trees.specs.declared.types.LlvmHead.{LlvmHead}
use Rattle.irtext_tests_trees.specs.declared.types.LlvmHead.TheVariants as head
use Rattle.irtext_tests_trees.specs.declared.types.LlvmPlace.{LlvmPlace}
use Rattle.irtext_tests_trees.specs.declared.types.LlvmPlace.TheVariants as place
use Rattle.irtext_tests_trees.specs.contracts.types.LlvmHeadPartialEq.TheImpl as test
use Rattle.irtext_syntax.specs.SequenceLaws.{within_law, within_decides}
use Rattle.irtext_syntax.specs.PartLaws.{PartLaw}

int_proved : Proved int_shape
int_proved = number_proved u32

array_law : PartLaw array_shape.reading array_shape.written array_shape.ends
array_law = within_law _ _ _ _ _ _ _ angle_comma_law (number_proved u64).law

abbrev Row : (h : LlvmHead) → Type 0
Row h = HeadRow type_word type_after type_words llvm_text (Follows llvm_growth (waits_of h)) h

int_row : (x : _) → Row (head.Int x)
int_row x = closed_row (part_row (codes "llvm.int") word.Int head.Int x int_proved.law digits_last refl refl refl (λ text. refl))

ptr_row : Row head.Ptr
ptr_row = closed_row (word_row (codes "llvm.ptr") word.Ptr head.Ptr refl refl refl (λ text. refl))

array_row : (x : _) → Row (head.Array x)
array_row x = spaced_open_row (codes "llvm.array") word.Array head.Array x array_law (λ rest. refl) refl refl refl (λ text. refl)

func_row : Row head.Func
func_row = mark_row (codes "llvm.func") (codes " <") word.Func head.Func refl refl refl refl (λ rest. refl) (λ rest. (rest, refl, refl))

struct_row : Row head.Struct
struct_row = opened_row (codes "llvm.struct") (codes "<") 62 word.Struct head.Struct head.NoFields refl refl refl refl refl (λ rest. refl) (λ rest e. e) (λ text. refl)

no_fields_row : Row head.NoFields
no_fields_row = mark_row (codes "llvm.struct") (codes " <>") word.Struct head.NoFields refl refl refl refl (λ rest. refl) (λ rest. (rest, refl, refl))

back : (h : LlvmHead) (rest : Text) → Follows llvm_growth (waits_of h) rest → IsRead (llvm_at (place_of h)) h (llvm_text h ++ rest) rest
back (head.Int x) rest e = head_back (codes "Unregistered type ") AType (int_row x) rest e
back head.Ptr rest e = head_back (codes "Unregistered type ") AType ptr_row rest e
back (head.Array x) rest e = head_back (codes "Unregistered type ") AType (array_row x) rest e
back head.Func rest e = head_back (codes "Unregistered type ") AType func_row rest e
back head.Struct rest e = head_back (codes "Unregistered type ") AType struct_row rest e
back head.NoFields rest e = head_back (codes "Unregistered type ") AType no_fields_row rest e
back head.Close rest e = (rest, refl, refl)
back head.More rest e = (32 ∷ rest, refl, refl)
back head.End rest e = (rest, refl, refl)

after_sincere : (w : TypeWord) → Sincere (type_after w)
after_sincere word.Int = part_sincere head.Int int_proved.law
after_sincere word.Ptr = word_sincere head.Ptr
after_sincere word.Array = part_sincere head.Array array_law
after_sincere word.Func = opening_sincere (codes "<") head.Func
after_sincere word.Struct = opened_sincere (codes "<") head.Struct 62 head.NoFields

sincere : (s : LlvmPlace) → Sincere (llvm_at s)
sincere place.Type = table_sincere type_word (codes "Unregistered type ") AType after_sincere
sincere place.Close = mark_sincere (codes ">") head.Close
sincere place.More = more_sincere 44 head.More (codes ">") head.End

after_placed : (w : TypeWord) → Placed llvm_growth place.Type (type_after w)
after_placed word.Int = part_placed llvm_growth place.Type int_shape.reading head.Int (λ x. refl)
after_placed word.Ptr = word_placed llvm_growth place.Type head.Ptr refl
after_placed word.Array = part_placed llvm_growth place.Type array_shape.reading head.Array (λ x. refl)
after_placed word.Func = opening_placed llvm_growth place.Type (codes "<") head.Func refl
after_placed word.Struct = opened_placed llvm_growth place.Type (codes "<") head.Struct 62 head.NoFields refl refl

placed : (s : LlvmPlace) → Occurs llvm_growth s → Placed llvm_growth s (llvm_at s)
placed place.Type o = table_placed llvm_growth place.Type type_word type_after (codes "Unregistered type ") AType after_placed
placed place.Close o = mark_placed llvm_growth place.Close (codes ">") head.Close refl
placed place.More o = more_placed llvm_growth place.More 44 head.More (codes ">") head.End refl refl

advances : (s : LlvmPlace) (text : Text) (h : LlvmHead) (taken left : Text) → llvm_at s text ≡ Read h taken left → IfMore (waits_of h) (length left < length text)
advances place.Type = advances_if llvm_growth (table_advances type_word type_after (codes "Unregistered type ") AType after_sincere)
advances place.Close = advances_if llvm_growth (mark_advances 62 head.Close)
advances place.More = advances_if llvm_growth (more_advances 44 head.More 62 head.End)

abbrev closing : LlvmPlace → Bool
closing place.Type = false
closing _ = true

closes : (h : LlvmHead) (rest : Text) → closing (place_of h) ≡ true → Ends (llvm_text h ++ rest)
closes head.Close rest e = inr refl
closes head.More rest e = inr refl
closes head.End rest e = inr refl
closes _ rest e = absurd (true≢false (sym e))

second : (h : LlvmHead) → SecondIs closing (waits_of h)
second (head.Int x) = tt
second head.Ptr = tt
second (head.Array x) = refl
second head.Func = refl
second head.Struct = refl
second head.NoFields = tt
second head.Close = tt
second head.More = refl
second head.End = tt

place_same : (s t : LlvmPlace) → same_place s t ≡ true → s ≡ t
place_same place.Type place.Type e = refl
place_same place.Close place.Close e = refl
place_same place.More place.More e = refl
place_same _ _ e = absurd (true≢false (sym e))

place_own : (s : LlvmPlace) → same_place s s ≡ true
place_own place.Type = refl
place_own place.Close = refl
place_own place.More = refl

scalars : (h : LlvmHead) → all_scalars (llvm_text h) ≡ true
scalars (head.Int x) = head_scalars (int_row x)
scalars head.Ptr = refl
scalars (head.Array x) = head_scalars (array_row x)
scalars head.Func = refl
scalars head.Struct = refl
scalars head.NoFields = refl
scalars head.Close = refl
scalars head.More = refl
scalars head.End = refl

starts : (h : LlvmHead) (rest : Text) → place_of h ≡ place.Type → begins begins_word (llvm_text h ++ rest) ≡ true
starts (head.Int x) rest e = head_starts (int_row x) rest
starts head.Ptr rest e = head_starts ptr_row rest
starts (head.Array x) rest e = head_starts (array_row x) rest
starts head.Func rest e = head_starts func_row rest
starts head.Struct rest e = head_starts struct_row rest
starts head.NoFields rest e = head_starts no_fields_row rest
starts head.Close rest e = absurd (true≢false (ap closing e))
starts head.More rest e = absurd (true≢false (ap closing e))
starts head.End rest e = absurd (true≢false (ap closing e))

pub llvm_law : GrammarLaw llvm_growth llvm_at llvm_text
llvm_law = record {
  closing = closing;
  not_start = refl;
  closes = closes;
  second = second;
  decides = λ s t. (place_same s t, λ e. subst (λ z. same_place s z ≡ true) e (place_own s));
  back = back;
  scalars = scalars;
  sincere = sincere;
  placed = placed;
  advances = advances;
  starts = starts;
  misses = λ text e. heads_missing type_word (codes "Unregistered type ") AType type_after text e;
}

-- each type begins with one of the words
led : (h : LlvmHead) (rest : Text) → place_of h ≡ place.Type → Follows llvm_growth (waits_of h) rest → is_one_of type_words (front in_dotted (llvm_text h ++ rest)) ≡ true
led (head.Int x) rest e f = head_led (int_row x) rest f
led head.Ptr rest e f = head_led ptr_row rest f
led (head.Array x) rest e f = head_led (array_row x) rest f
led head.Func rest e f = head_led func_row rest f
led head.Struct rest e f = head_led struct_row rest f
led head.NoFields rest e f = head_led no_fields_row rest f
led head.Close rest e f = absurd (true≢false (ap closing e))
led head.More rest e f = absurd (true≢false (ap closing e))
led head.End rest e f = absurd (true≢false (ap closing e))

pub llvm_led : HeadsLed llvm_growth type_words llvm_text
llvm_led = led

not_given_names : (h : LlvmHead) (rest left : Text) → place_of h ≡ place.Type → keyword (codes "builtin.given_names") (llvm_text h ++ rest) left → ⊥
not_given_names (head.Int x) rest left e = head_given_names (int_row x) refl rest left
not_given_names head.Ptr rest left e = head_given_names ptr_row refl rest left
not_given_names (head.Array x) rest left e = head_given_names (array_row x) refl rest left
not_given_names head.Func rest left e = head_given_names func_row refl rest left
not_given_names head.Struct rest left e = head_given_names struct_row refl rest left
not_given_names head.NoFields rest left e = head_given_names no_fields_row refl rest left
not_given_names head.Close rest left e = absurd (true≢false (ap closing e))
not_given_names head.More rest left e = absurd (true≢false (ap closing e))
not_given_names head.End rest left e = absurd (true≢false (ap closing e))

not_identifier : (h : LlvmHead) (rest left : Text) → place_of h ≡ place.Type → keyword (codes "builtin.identifier") (llvm_text h ++ rest) left → ⊥
not_identifier (head.Int x) rest left e = head_identifier (int_row x) refl rest left
not_identifier head.Ptr rest left e = head_identifier ptr_row refl rest left
not_identifier (head.Array x) rest left e = head_identifier (array_row x) refl rest left
not_identifier head.Func rest left e = head_identifier func_row refl rest left
not_identifier head.Struct rest left e = head_identifier struct_row refl rest left
not_identifier head.NoFields rest left e = head_identifier no_fields_row refl rest left
not_identifier head.Close rest left e = absurd (true≢false (ap closing e))
not_identifier head.More rest left e = absurd (true≢false (ap closing e))
not_identifier head.End rest left e = absurd (true≢false (ap closing e))

-- no attribute of these heads begins with a reserved word
pub llvm_unreserved : HeadsUnreserved llvm_growth llvm_text
llvm_unreserved = record { given_names = not_given_names; identifier = not_identifier }

same : (x y : LlvmHead) → test.ghosts.eq x y ≡ true → x ≡ y
same (head.Int x) (head.Int y) e = ap head.Int ((int_proved.decides x y).0 e)
same head.Ptr head.Ptr e = refl
same (head.Array x) (head.Array y) e = ap head.Array (((within_decides _ _ (λ x y. refl) (number_proved u64).decides) x y).0 e)
same head.Func head.Func e = refl
same head.Struct head.Struct e = refl
same head.NoFields head.NoFields e = refl
same head.Close head.Close e = refl
same head.More head.More e = refl
same head.End head.End e = refl
same _ _ e = absurd (true≢false (sym e))

own : (x : LlvmHead) → test.ghosts.eq x x ≡ true
own (head.Int x) = (int_proved.decides x x).1 refl
own head.Ptr = refl
own (head.Array x) = ((number_proved u64).decides x.inside x.inside).1 refl
own head.Func = refl
own head.Struct = refl
own head.NoFields = refl
own head.Close = refl
own head.More = refl
own head.End = refl

-- heads are equal exactly if they are the same values
pub llvm_same : (x y : LlvmHead) → IsTrue (test.ghosts.eq x y) ↔ (x ≡ y)
llvm_same x y = (same x y, λ e. subst (λ z. test.ghosts.eq x z ≡ true) e (own x))
