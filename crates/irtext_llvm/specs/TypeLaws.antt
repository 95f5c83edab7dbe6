-- For callers: the heads of the types of the dialect `llvm` obey the law of a grammar: a row for each.
use Rattle.std.proofs.Common.{◌≡◌, Bool, true, false, ◌++◌, ◌∷◌, length, refl, sym, ap, subst, codes, true≢false, inr}
use Rattle.std.specs.Prelude.{◌↔◌, ◌<◌, IsTrue}
use Rattle.std.specs.Str.{all_scalars}
use Rattle.irtext_base.specs.Answers.{Read}
use Rattle.irtext_base.specs.Families.{is_one_of}
use Rattle.irtext_base.specs.Faults.{AType}
use Rattle.irtext_base.specs.Own.{Ends, Sincere}
use Rattle.irtext_base.specs.Text.{Text, begins, begins_word, front, in_dotted}
use Rattle.irtext_syntax.specs.IntegerKinds.{u32, u64}
use Rattle.irtext_syntax.specs.NumberLaws.{digits_last}
use Rattle.irtext_syntax.specs.PartLaws.{IsRead}
use Rattle.irtext_syntax.specs.Sequences.{anything_ends}
use Rattle.irtext_syntax.specs.SequenceLaws.{within_law, within_decides}
use Rattle.irtext_syntax.specs.ShapeLaws.{Proved, angle_encloses, number_proved, quoted_proved, ranged_proved, within_proved}
use Rattle.irtext_syntax.specs.TableLaws.{part_row, word_row, part_sincere, word_sincere, table_sincere}
use Rattle.irtext_tree.specs.GrammarLaws.{GrammarLaw, Follows, IfMore, Occurs, Placed, SecondIs}
use Rattle.irtext_tree.specs.HeadRows.{HeadRow, closed_row, spaced_open_row, mark_row, opened_row, head_starts, head_back, head_scalars, head_led, heads_missing, advances_if, table_advances, mark_advances, mark_sincere, more_advances, more_sincere, opened_sincere, table_placed, part_placed, word_placed, mark_placed, more_placed, opened_placed}
use Rattle.irtext_tree.specs.Words.{HeadsLed}
use Rattle.irtext_llvm.specs.FloatKindLaws.{float_kind_proved, float_kind_last}
use Rattle.irtext_llvm.specs.Brackets.{angle_comma_law}
use Rattle.irtext_llvm.specs.Types.{pointer_in_shape, int_shape, fp_shape, named_shape, array_shape, vector_shape, scalable_shape, type_words, type_word, type_after, type_text, type_at, type_growth, same_place, place_of, waits_of}
use Rattle.irtext_llvm.specs.contracts.fixed.BitsRange.TheImpl as bits
use Rattle.irtext_llvm.specs.declared.types.TypeWord.{TypeWord}
use Rattle.irtext_llvm.specs.declared.types.TypeWord.TheVariants as word
use Rattle.irtext_llvm.specs.declared.types.LlvmTypeHead.{LlvmTypeHead}
use Rattle.irtext_llvm.specs.declared.types.LlvmTypeHead.TheVariants as head
use Rattle.irtext_llvm.specs.declared.types.LlvmTypePlace.{LlvmTypePlace}
use Rattle.irtext_llvm.specs.declared.types.LlvmTypePlace.TheVariants as place
use Rattle.irtext_llvm.specs.contracts.types.LlvmTypeHeadPartialEq.TheImpl as test

pointer_in_proved : Proved pointer_in_shape
pointer_in_proved = within_proved angle_encloses (number_proved u32)

int_proved : Proved int_shape
int_proved = ranged_proved bits.ghosts

fp_proved : Proved fp_shape
fp_proved = float_kind_proved

named_proved : Proved named_shape
named_proved = quoted_proved

array_proved : Proved array_shape
array_proved = record { law = within_law _ _ _ _ _ _ _ angle_comma_law (number_proved u64).law; decides = within_decides _ _ (λ x y. refl) (number_proved u64).decides }

vector_proved : Proved vector_shape
vector_proved = record { law = within_law _ _ _ _ _ _ _ angle_comma_law (number_proved u64).law; decides = within_decides _ _ (λ x y. refl) (number_proved u64).decides }

scalable_proved : Proved scalable_shape
scalable_proved = record { law = within_law _ _ _ _ _ _ _ angle_comma_law (number_proved u64).law; decides = within_decides _ _ (λ x y. refl) (number_proved u64).decides }

-- how the text of a head that begins with a word is parsed back
abbrev HeadOf : LlvmTypeHead → Type 0
HeadOf h = HeadRow type_word type_after type_words type_text (Follows type_growth (waits_of h)) h

void_row : HeadOf head.Void
void_row = closed_row (word_row (codes "llvm.void") word.Void head.Void refl refl refl (λ text. refl))

label_row : HeadOf head.Label
label_row = closed_row (word_row (codes "llvm.label") word.Label head.Label refl refl refl (λ text. refl))

token_row : HeadOf head.Token
token_row = closed_row (word_row (codes "llvm.token") word.Token head.Token refl refl refl (λ text. refl))

metadata_row : HeadOf head.Metadata
metadata_row = closed_row (word_row (codes "llvm.metadata") word.Metadata head.Metadata refl refl refl (λ text. refl))

opaque_row : HeadOf head.Opaque
opaque_row = closed_row (word_row (codes "llvm.opaque") word.Opaque head.Opaque refl refl refl (λ text. refl))

pointer_row : HeadOf head.Pointer
pointer_row = closed_row (word_row (codes "llvm.ptr") word.Pointer head.Pointer refl refl refl (λ text. refl))

pointer_in_row : (x : _) → HeadOf (head.PointerIn x)
pointer_in_row x = closed_row (part_row (codes "llvm.ptr_in") word.PointerIn head.PointerIn x pointer_in_proved.law anything_ends refl refl refl (λ text. refl))

int_row : (x : _) → HeadOf (head.Int x)
int_row x = closed_row (part_row (codes "llvm.int") word.Int head.Int x int_proved.law digits_last refl refl refl (λ text. refl))

fp_row : (x : _) → HeadOf (head.Fp x)
fp_row x = closed_row (part_row (codes "llvm.fp") word.Fp head.Fp x fp_proved.law float_kind_last refl refl refl (λ text. refl))

named_row : (x : _) → HeadOf (head.Named x)
named_row x = closed_row (part_row (codes "llvm.named") word.Named head.Named x named_proved.law anything_ends refl refl refl (λ text. refl))

array_row : (x : _) → HeadOf (head.Array x)
array_row x = spaced_open_row (codes "llvm.array") word.Array head.Array x array_proved.law (λ rest. refl) refl refl refl (λ text. refl)

vector_row : (x : _) → HeadOf (head.Vector x)
vector_row x = spaced_open_row (codes "llvm.vector") word.Vector head.Vector x vector_proved.law (λ rest. refl) refl refl refl (λ text. refl)

scalable_row : (x : _) → HeadOf (head.Scalable x)
scalable_row x = spaced_open_row (codes "llvm.scalable") word.Scalable head.Scalable x scalable_proved.law (λ rest. refl) refl refl refl (λ text. refl)

struct_row : HeadOf head.Struct
struct_row = opened_row (codes "llvm.struct") (codes "<") 62 word.Struct head.Struct head.EmptyStruct refl refl refl refl refl (λ rest. refl) (λ rest e. e) (λ text. refl)

empty_struct_row : HeadOf head.EmptyStruct
empty_struct_row = mark_row (codes "llvm.struct") (codes " <>") word.Struct head.EmptyStruct refl refl refl refl (λ rest. refl) (λ rest. (rest, refl, refl))

packed_row : HeadOf head.Packed
packed_row = opened_row (codes "llvm.packed") (codes "<") 62 word.Packed head.Packed head.EmptyPacked refl refl refl refl refl (λ rest. refl) (λ rest e. e) (λ text. refl)

empty_packed_row : HeadOf head.EmptyPacked
empty_packed_row = mark_row (codes "llvm.packed") (codes " <>") word.Packed head.EmptyPacked refl refl refl refl (λ rest. refl) (λ rest. (rest, refl, refl))

func_row : HeadOf head.Func
func_row = opened_row (codes "llvm.func") (codes "<") 62 word.Func head.Func head.EmptyFunc refl refl refl refl refl (λ rest. refl) (λ rest e. e) (λ text. refl)

empty_func_row : HeadOf head.EmptyFunc
empty_func_row = mark_row (codes "llvm.func") (codes " <>") word.Func head.EmptyFunc refl refl refl refl (λ rest. refl) (λ rest. (rest, refl, refl))

varargs_row : HeadOf head.Varargs
varargs_row = opened_row (codes "llvm.varargs") (codes "<") 62 word.Varargs head.Varargs head.EmptyVarargs refl refl refl refl refl (λ rest. refl) (λ rest e. e) (λ text. refl)

empty_varargs_row : HeadOf head.EmptyVarargs
empty_varargs_row = mark_row (codes "llvm.varargs") (codes " <>") word.Varargs head.EmptyVarargs refl refl refl refl (λ rest. refl) (λ rest. (rest, refl, refl))

back : (h : LlvmTypeHead) (rest : Text) → Follows type_growth (waits_of h) rest → IsRead (type_at (place_of h)) h (type_text h ++ rest) rest
back head.Void rest e = head_back (codes "Unregistered type ") AType void_row rest e
back head.Label rest e = head_back (codes "Unregistered type ") AType label_row rest e
back head.Token rest e = head_back (codes "Unregistered type ") AType token_row rest e
back head.Metadata rest e = head_back (codes "Unregistered type ") AType metadata_row rest e
back head.Opaque rest e = head_back (codes "Unregistered type ") AType opaque_row rest e
back head.Pointer rest e = head_back (codes "Unregistered type ") AType pointer_row rest e
back (head.PointerIn x) rest e = head_back (codes "Unregistered type ") AType (pointer_in_row x) rest e
back (head.Int x) rest e = head_back (codes "Unregistered type ") AType (int_row x) rest e
back (head.Fp x) rest e = head_back (codes "Unregistered type ") AType (fp_row x) rest e
back (head.Named x) rest e = head_back (codes "Unregistered type ") AType (named_row x) rest e
back (head.Array x) rest e = head_back (codes "Unregistered type ") AType (array_row x) rest e
back (head.Vector x) rest e = head_back (codes "Unregistered type ") AType (vector_row x) rest e
back (head.Scalable x) rest e = head_back (codes "Unregistered type ") AType (scalable_row x) rest e
back head.Struct rest e = head_back (codes "Unregistered type ") AType struct_row rest e
back head.EmptyStruct rest e = head_back (codes "Unregistered type ") AType empty_struct_row rest e
back head.Packed rest e = head_back (codes "Unregistered type ") AType packed_row rest e
back head.EmptyPacked rest e = head_back (codes "Unregistered type ") AType empty_packed_row rest e
back head.Func rest e = head_back (codes "Unregistered type ") AType func_row rest e
back head.EmptyFunc rest e = head_back (codes "Unregistered type ") AType empty_func_row rest e
back head.Varargs rest e = head_back (codes "Unregistered type ") AType varargs_row rest e
back head.EmptyVarargs rest e = head_back (codes "Unregistered type ") AType empty_varargs_row rest e
back head.CloseAngle rest e = (rest, refl, refl)
back head.NextAngle rest e = (32 ∷ rest, refl, refl)
back head.EndAngle rest e = (rest, refl, refl)

after_sincere : (w : TypeWord) → Sincere (type_after w)
after_sincere word.Void = word_sincere head.Void
after_sincere word.Label = word_sincere head.Label
after_sincere word.Token = word_sincere head.Token
after_sincere word.Metadata = word_sincere head.Metadata
after_sincere word.Opaque = word_sincere head.Opaque
after_sincere word.Pointer = word_sincere head.Pointer
after_sincere word.PointerIn = part_sincere head.PointerIn pointer_in_proved.law
after_sincere word.Int = part_sincere head.Int int_proved.law
after_sincere word.Fp = part_sincere head.Fp fp_proved.law
after_sincere word.Named = part_sincere head.Named named_proved.law
after_sincere word.Array = part_sincere head.Array array_proved.law
after_sincere word.Vector = part_sincere head.Vector vector_proved.law
after_sincere word.Scalable = part_sincere head.Scalable scalable_proved.law
after_sincere word.Struct = opened_sincere (codes "<") head.Struct 62 head.EmptyStruct
after_sincere word.Packed = opened_sincere (codes "<") head.Packed 62 head.EmptyPacked
after_sincere word.Func = opened_sincere (codes "<") head.Func 62 head.EmptyFunc
after_sincere word.Varargs = opened_sincere (codes "<") head.Varargs 62 head.EmptyVarargs

after_placed : (w : TypeWord) → Placed type_growth place.Type (type_after w)
after_placed word.Void = word_placed type_growth place.Type head.Void refl
after_placed word.Label = word_placed type_growth place.Type head.Label refl
after_placed word.Token = word_placed type_growth place.Type head.Token refl
after_placed word.Metadata = word_placed type_growth place.Type head.Metadata refl
after_placed word.Opaque = word_placed type_growth place.Type head.Opaque refl
after_placed word.Pointer = word_placed type_growth place.Type head.Pointer refl
after_placed word.PointerIn = part_placed type_growth place.Type pointer_in_shape.reading head.PointerIn (λ x. refl)
after_placed word.Int = part_placed type_growth place.Type int_shape.reading head.Int (λ x. refl)
after_placed word.Fp = part_placed type_growth place.Type fp_shape.reading head.Fp (λ x. refl)
after_placed word.Named = part_placed type_growth place.Type named_shape.reading head.Named (λ x. refl)
after_placed word.Array = part_placed type_growth place.Type array_shape.reading head.Array (λ x. refl)
after_placed word.Vector = part_placed type_growth place.Type vector_shape.reading head.Vector (λ x. refl)
after_placed word.Scalable = part_placed type_growth place.Type scalable_shape.reading head.Scalable (λ x. refl)
after_placed word.Struct = opened_placed type_growth place.Type (codes "<") head.Struct 62 head.EmptyStruct refl refl
after_placed word.Packed = opened_placed type_growth place.Type (codes "<") head.Packed 62 head.EmptyPacked refl refl
after_placed word.Func = opened_placed type_growth place.Type (codes "<") head.Func 62 head.EmptyFunc refl refl
after_placed word.Varargs = opened_placed type_growth place.Type (codes "<") head.Varargs 62 head.EmptyVarargs refl refl

sincere : (s : LlvmTypePlace) → Sincere (type_at s)
sincere place.Type = table_sincere type_word (codes "Unregistered type ") AType after_sincere
sincere place.CloseAngle = mark_sincere (codes ">") head.CloseAngle
sincere place.MoreAngle = more_sincere 44 head.NextAngle (codes ">") head.EndAngle

placed : (s : LlvmTypePlace) → Occurs type_growth s → Placed type_growth s (type_at s)
placed place.Type o = table_placed type_growth place.Type type_word type_after (codes "Unregistered type ") AType after_placed
placed place.CloseAngle o = mark_placed type_growth place.CloseAngle (codes ">") head.CloseAngle refl
placed place.MoreAngle o = more_placed type_growth place.MoreAngle 44 head.NextAngle (codes ">") head.EndAngle refl refl

advances : (s : LlvmTypePlace) (text : Text) (h : LlvmTypeHead) (taken left : Text) → type_at s text ≡ Read h taken left → IfMore (waits_of h) (length left < length text)
advances place.Type = advances_if type_growth (table_advances type_word type_after (codes "Unregistered type ") AType after_sincere)
advances place.CloseAngle = advances_if type_growth (mark_advances 62 head.CloseAngle)
advances place.MoreAngle = advances_if type_growth (more_advances 44 head.NextAngle 62 head.EndAngle)

abbrev closing : LlvmTypePlace → Bool
closing place.Type = false
closing _ = true

closes : (h : LlvmTypeHead) (rest : Text) → closing (place_of h) ≡ true → Ends (type_text h ++ rest)
closes head.CloseAngle rest e = inr refl
closes head.NextAngle rest e = inr refl
closes head.EndAngle rest e = inr refl
closes _ rest e = absurd (true≢false (sym e))

second : (h : LlvmTypeHead) → SecondIs closing (waits_of h)
second head.Void = tt
second head.Label = tt
second head.Token = tt
second head.Metadata = tt
second head.Opaque = tt
second head.Pointer = tt
second (head.PointerIn x) = tt
second (head.Int x) = tt
second (head.Fp x) = tt
second (head.Named x) = tt
second (head.Array x) = refl
second (head.Vector x) = refl
second (head.Scalable x) = refl
second head.Struct = refl
second head.EmptyStruct = tt
second head.Packed = refl
second head.EmptyPacked = tt
second head.Func = refl
second head.EmptyFunc = tt
second head.Varargs = refl
second head.EmptyVarargs = tt
second head.CloseAngle = tt
second head.NextAngle = refl
second head.EndAngle = tt

place_same : (s t : LlvmTypePlace) → same_place s t ≡ true → s ≡ t
place_same place.Type place.Type e = refl
place_same place.CloseAngle place.CloseAngle e = refl
place_same place.MoreAngle place.MoreAngle e = refl
place_same _ _ e = absurd (true≢false (sym e))

place_own : (s : LlvmTypePlace) → same_place s s ≡ true
place_own place.Type = refl
place_own place.CloseAngle = refl
place_own place.MoreAngle = refl

scalars : (h : LlvmTypeHead) → all_scalars (type_text h) ≡ true
scalars head.Void = refl
scalars head.Label = refl
scalars head.Token = refl
scalars head.Metadata = refl
scalars head.Opaque = refl
scalars head.Pointer = refl
scalars (head.PointerIn x) = head_scalars (pointer_in_row x)
scalars (head.Int x) = head_scalars (int_row x)
scalars (head.Fp x) = head_scalars (fp_row x)
scalars (head.Named x) = head_scalars (named_row x)
scalars (head.Array x) = head_scalars (array_row x)
scalars (head.Vector x) = head_scalars (vector_row x)
scalars (head.Scalable x) = head_scalars (scalable_row x)
scalars head.Struct = refl
scalars head.EmptyStruct = refl
scalars head.Packed = refl
scalars head.EmptyPacked = refl
scalars head.Func = refl
scalars head.EmptyFunc = refl
scalars head.Varargs = refl
scalars head.EmptyVarargs = refl
scalars head.CloseAngle = refl
scalars head.NextAngle = refl
scalars head.EndAngle = refl

starts : (h : LlvmTypeHead) (rest : Text) → place_of h ≡ place.Type → begins begins_word (type_text h ++ rest) ≡ true
starts head.Void rest e = head_starts void_row rest
starts head.Label rest e = head_starts label_row rest
starts head.Token rest e = head_starts token_row rest
starts head.Metadata rest e = head_starts metadata_row rest
starts head.Opaque rest e = head_starts opaque_row rest
starts head.Pointer rest e = head_starts pointer_row rest
starts (head.PointerIn x) rest e = head_starts (pointer_in_row x) rest
starts (head.Int x) rest e = head_starts (int_row x) rest
starts (head.Fp x) rest e = head_starts (fp_row x) rest
starts (head.Named x) rest e = head_starts (named_row x) rest
starts (head.Array x) rest e = head_starts (array_row x) rest
starts (head.Vector x) rest e = head_starts (vector_row x) rest
starts (head.Scalable x) rest e = head_starts (scalable_row x) rest
starts head.Struct rest e = head_starts struct_row rest
starts head.EmptyStruct rest e = head_starts empty_struct_row rest
starts head.Packed rest e = head_starts packed_row rest
starts head.EmptyPacked rest e = head_starts empty_packed_row rest
starts head.Func rest e = head_starts func_row rest
starts head.EmptyFunc rest e = head_starts empty_func_row rest
starts head.Varargs rest e = head_starts varargs_row rest
starts head.EmptyVarargs rest e = head_starts empty_varargs_row rest
starts head.CloseAngle rest e = absurd (true≢false (ap closing e))
starts head.NextAngle rest e = absurd (true≢false (ap closing e))
starts head.EndAngle rest e = absurd (true≢false (ap closing e))

pub type_law : GrammarLaw type_growth type_at type_text
type_law = record {
  closing = closing;
  not_start = refl;
  closes = closes;
  second = second;
  decides = λ s t. (place_same s t, λ e. subst (λ z. same_place s z ≡ true) e (place_own s));
  back = back;
  scalars = scalars;
  sincere = sincere;
  placed = placed;
  advances = advances;
  starts = starts;
  misses = λ text e. heads_missing type_word (codes "Unregistered type ") AType type_after text e;
}

-- each type begins with one of the words
led : (h : LlvmTypeHead) (rest : Text) → place_of h ≡ place.Type → Follows type_growth (waits_of h) rest → is_one_of type_words (front in_dotted (type_text h ++ rest)) ≡ true
led head.Void rest e f = head_led void_row rest f
led head.Label rest e f = head_led label_row rest f
led head.Token rest e f = head_led token_row rest f
led head.Metadata rest e f = head_led metadata_row rest f
led head.Opaque rest e f = head_led opaque_row rest f
led head.Pointer rest e f = head_led pointer_row rest f
led (head.PointerIn x) rest e f = head_led (pointer_in_row x) rest f
led (head.Int x) rest e f = head_led (int_row x) rest f
led (head.Fp x) rest e f = head_led (fp_row x) rest f
led (head.Named x) rest e f = head_led (named_row x) rest f
led (head.Array x) rest e f = head_led (array_row x) rest f
led (head.Vector x) rest e f = head_led (vector_row x) rest f
led (head.Scalable x) rest e f = head_led (scalable_row x) rest f
led head.Struct rest e f = head_led struct_row rest f
led head.EmptyStruct rest e f = head_led empty_struct_row rest f
led head.Packed rest e f = head_led packed_row rest f
led head.EmptyPacked rest e f = head_led empty_packed_row rest f
led head.Func rest e f = head_led func_row rest f
led head.EmptyFunc rest e f = head_led empty_func_row rest f
led head.Varargs rest e f = head_led varargs_row rest f
led head.EmptyVarargs rest e f = head_led empty_varargs_row rest f
led head.CloseAngle rest e f = absurd (true≢false (ap closing e))
led head.NextAngle rest e f = absurd (true≢false (ap closing e))
led head.EndAngle rest e f = absurd (true≢false (ap closing e))

pub type_led : HeadsLed type_growth type_words type_text
type_led = led

same : (x y : LlvmTypeHead) → test.ghosts.eq x y ≡ true → x ≡ y
same head.Void head.Void e = refl
same head.Label head.Label e = refl
same head.Token head.Token e = refl
same head.Metadata head.Metadata e = refl
same head.Opaque head.Opaque e = refl
same head.Pointer head.Pointer e = refl
same (head.PointerIn x) (head.PointerIn y) e = ap head.PointerIn ((pointer_in_proved.decides x y).0 e)
same (head.Int x) (head.Int y) e = ap head.Int ((int_proved.decides x y).0 e)
same (head.Fp x) (head.Fp y) e = ap head.Fp ((fp_proved.decides x y).0 e)
same (head.Named x) (head.Named y) e = ap head.Named ((named_proved.decides x y).0 e)
same (head.Array x) (head.Array y) e = ap head.Array ((array_proved.decides x y).0 e)
same (head.Vector x) (head.Vector y) e = ap head.Vector ((vector_proved.decides x y).0 e)
same (head.Scalable x) (head.Scalable y) e = ap head.Scalable ((scalable_proved.decides x y).0 e)
same head.Struct head.Struct e = refl
same head.EmptyStruct head.EmptyStruct e = refl
same head.Packed head.Packed e = refl
same head.EmptyPacked head.EmptyPacked e = refl
same head.Func head.Func e = refl
same head.EmptyFunc head.EmptyFunc e = refl
same head.Varargs head.Varargs e = refl
same head.EmptyVarargs head.EmptyVarargs e = refl
same head.CloseAngle head.CloseAngle e = refl
same head.NextAngle head.NextAngle e = refl
same head.EndAngle head.EndAngle e = refl
same _ _ e = absurd (true≢false (sym e))

own : (x : LlvmTypeHead) → test.ghosts.eq x x ≡ true
own head.Void = refl
own head.Label = refl
own head.Token = refl
own head.Metadata = refl
own head.Opaque = refl
own head.Pointer = refl
own (head.PointerIn x) = (pointer_in_proved.decides x x).1 refl
own (head.Int x) = (int_proved.decides x x).1 refl
own (head.Fp x) = (fp_proved.decides x x).1 refl
own (head.Named x) = (named_proved.decides x x).1 refl
own (head.Array x) = (array_proved.decides x x).1 refl
own (head.Vector x) = (vector_proved.decides x x).1 refl
own (head.Scalable x) = (scalable_proved.decides x x).1 refl
own head.Struct = refl
own head.EmptyStruct = refl
own head.Packed = refl
own head.EmptyPacked = refl
own head.Func = refl
own head.EmptyFunc = refl
own head.Varargs = refl
own head.EmptyVarargs = refl
own head.CloseAngle = refl
own head.NextAngle = refl
own head.EndAngle = refl

-- heads are equal exactly if they are the same values
pub type_same : (x y : LlvmTypeHead) → IsTrue (test.ghosts.eq x y) ↔ (x ≡ y)
type_same x y = (same x y, λ e. subst (λ z. test.ghosts.eq x z ≡ true) e (own x))
