-- For callers: the attributes of the dialect `llvm` obey the laws of parsing and printing: a row for each.
use Rattle.std.proofs.Common.{◌≡◌, Bool, true, refl, sym, ◌∙◌, ap, subst, codes, true≢false}
use Rattle.std.specs.Prelude.{◌↔◌, IsTrue}
use Rattle.irtext_base.specs.Families.{BeginsWithWord}
use Rattle.irtext_base.specs.Faults.{AnAttribute}
use Rattle.irtext_base.specs.Own.{texts_of, Lawful, Sincere, Unreserved}
use Rattle.irtext_base.specs.Text.{Text}
use Rattle.irtext_tokens.specs.Infix.{Reader}
use Rattle.irtext_syntax.specs.IntegerKinds.{u32, i32}
use Rattle.irtext_syntax.specs.NameLaws.{word_last}
use Rattle.irtext_syntax.specs.NumberLaws.{digits_last}
use Rattle.irtext_syntax.specs.OwnLaws.{own_last}
use Rattle.irtext_syntax.specs.Sequences.{anything_ends}
use Rattle.irtext_syntax.specs.ShapeLaws.{Proved, angle_encloses, square_encloses, comma_joins, number_proved, quoted_proved, name_proved, ranged_proved, own_proved, then_proved, within_proved, list_proved, number_missing}
use Rattle.irtext_parts.specs.ShapeLaws.{decimal_proved, decimal_last, decimal_missing, digits_proved, digits_spelled_last, digits_missing, hexadecimal_proved, hexadecimal_last, symbol_proved, symbol_last, symbol_missing, truth_proved}
use Rattle.irtext_syntax.specs.TableLaws.{part_row, word_row, part_sincere, word_sincere, table_lawful, table_led, table_sincere, table_unreserved}
use Rattle.irtext_syntax.specs.Tables.{Row}
use Rattle.irtext_llvm.specs.Attributes.{integer_shape, bool_shape, floating_shape, float_bits_shape, text_shape, bytes_shape, symbol_ref_shape, block_ref_shape, integers_shape, floats_shape, symbols_shape, type_of_shape, in_bounds_shape, int_condition_shape, float_condition_shape, overflow_shape, indices_shape, mask_shape, cases_shape, ordering_shape, read_modify_write_shape, clauses_shape, assembly_shape, linkage_shape, align_shape, word_shape, other_shape, signature_shape, fast_shape, attr_words, attr_word, attr_text, attr_after, attr_at, attr_eq}
use Rattle.irtext_llvm.specs.IntPredicateLaws.{int_predicate_proved, int_predicate_last}
use Rattle.irtext_llvm.specs.FloatPredicateLaws.{float_predicate_proved, float_predicate_last}
use Rattle.irtext_llvm.specs.WrappingLaws.{wrapping_proved, wrapping_last}
use Rattle.irtext_llvm.specs.LinkageKindLaws.{linkage_kind_proved, linkage_kind_last}
use Rattle.irtext_llvm.specs.MemoryOrderLaws.{memory_order_proved, memory_order_last}
use Rattle.irtext_llvm.specs.UpdateLaws.{update_proved, update_last}
use Rattle.irtext_llvm.specs.ClauseLaws.{clause_proved, clause_missing}
use Rattle.irtext_llvm.specs.FreedomLaws.{freedom_proved, freedom_missing}
use Rattle.irtext_llvm.specs.contracts.fixed.BytesRange.TheImpl as bytes
use Rattle.irtext_llvm.specs.declared.attributes.AttrWord.{AttrWord}
use Rattle.irtext_llvm.specs.declared.attributes.AttrWord.TheVariants as word
use Rattle.irtext_llvm.specs.declared.attributes.LlvmAttr.{LlvmAttr}
use Rattle.irtext_llvm.specs.declared.attributes.LlvmAttr.TheVariants as attr

module _ {T : Type 0} {type_at : Reader T} {type_text : T → Text} {type_eq : T → T → Bool}
    (lawful : Lawful T (texts_of type_at type_text)) (sincere : Sincere type_at) (decides : (x y : T) → IsTrue (type_eq x y) ↔ (x ≡ y)) where
  integer_shape_proved : Proved (integer_shape type_at type_text type_eq)
  integer_shape_proved = digits_proved

  bool_shape_proved : Proved (bool_shape type_at type_text type_eq)
  bool_shape_proved = truth_proved

  floating_shape_proved : Proved (floating_shape type_at type_text type_eq)
  floating_shape_proved = decimal_proved

  float_bits_shape_proved : Proved (float_bits_shape type_at type_text type_eq)
  float_bits_shape_proved = hexadecimal_proved

  text_shape_proved : Proved (text_shape type_at type_text type_eq)
  text_shape_proved = quoted_proved

  bytes_shape_proved : Proved (bytes_shape type_at type_text type_eq)
  bytes_shape_proved = hexadecimal_proved

  symbol_ref_shape_proved : Proved (symbol_ref_shape type_at type_text type_eq)
  symbol_ref_shape_proved = symbol_proved

  block_ref_shape_proved : Proved (block_ref_shape type_at type_text type_eq)
  block_ref_shape_proved = within_proved angle_encloses (then_proved symbol_proved comma_joins name_proved)

  integers_shape_proved : Proved (integers_shape type_at type_text type_eq)
  integers_shape_proved = list_proved square_encloses digits_proved digits_missing

  floats_shape_proved : Proved (floats_shape type_at type_text type_eq)
  floats_shape_proved = list_proved square_encloses decimal_proved decimal_missing

  symbols_shape_proved : Proved (symbols_shape type_at type_text type_eq)
  symbols_shape_proved = list_proved square_encloses symbol_proved symbol_missing

  type_of_shape_proved : Proved (type_of_shape type_at type_text type_eq)
  type_of_shape_proved = own_proved lawful sincere decides

  in_bounds_shape_proved : Proved (in_bounds_shape type_at type_text type_eq)
  in_bounds_shape_proved = own_proved lawful sincere decides

  int_condition_shape_proved : Proved (int_condition_shape type_at type_text type_eq)
  int_condition_shape_proved = int_predicate_proved

  float_condition_shape_proved : Proved (float_condition_shape type_at type_text type_eq)
  float_condition_shape_proved = float_predicate_proved

  overflow_shape_proved : Proved (overflow_shape type_at type_text type_eq)
  overflow_shape_proved = wrapping_proved

  indices_shape_proved : Proved (indices_shape type_at type_text type_eq)
  indices_shape_proved = list_proved square_encloses (number_proved u32) (number_missing u32)

  mask_shape_proved : Proved (mask_shape type_at type_text type_eq)
  mask_shape_proved = list_proved square_encloses (number_proved i32) (number_missing i32)

  cases_shape_proved : Proved (cases_shape type_at type_text type_eq)
  cases_shape_proved = list_proved square_encloses digits_proved digits_missing

  ordering_shape_proved : Proved (ordering_shape type_at type_text type_eq)
  ordering_shape_proved = memory_order_proved

  read_modify_write_shape_proved : Proved (read_modify_write_shape type_at type_text type_eq)
  read_modify_write_shape_proved = update_proved

  clauses_shape_proved : Proved (clauses_shape type_at type_text type_eq)
  clauses_shape_proved = list_proved square_encloses clause_proved clause_missing

  assembly_shape_proved : Proved (assembly_shape type_at type_text type_eq)
  assembly_shape_proved = within_proved angle_encloses (then_proved quoted_proved comma_joins quoted_proved)

  linkage_shape_proved : Proved (linkage_shape type_at type_text type_eq)
  linkage_shape_proved = linkage_kind_proved

  align_shape_proved : Proved (align_shape type_at type_text type_eq)
  align_shape_proved = ranged_proved bytes.ghosts

  word_shape_proved : Proved (word_shape type_at type_text type_eq)
  word_shape_proved = name_proved

  other_shape_proved : Proved (other_shape type_at type_text type_eq)
  other_shape_proved = quoted_proved

  signature_shape_proved : Proved (signature_shape type_at type_text type_eq)
  signature_shape_proved = own_proved lawful sincere decides

  fast_shape_proved : Proved (fast_shape type_at type_text type_eq)
  fast_shape_proved = list_proved angle_encloses freedom_proved freedom_missing

  -- how the text of each attribute is parsed back
  rows : (x : LlvmAttr T) → Row attr_word (attr_after type_at type_text type_eq) attr_words (attr_text type_at type_text type_eq) x
  rows (attr.Integer x) = part_row (codes "llvm.int") word.Integer attr.Integer x integer_shape_proved.law digits_spelled_last refl refl refl (λ text. refl)
  rows (attr.Bool x) = part_row (codes "llvm.bool") word.Bool attr.Bool x bool_shape_proved.law anything_ends refl refl refl (λ text. refl)
  rows (attr.Floating x) = part_row (codes "llvm.float") word.Floating attr.Floating x floating_shape_proved.law decimal_last refl refl refl (λ text. refl)
  rows (attr.FloatBits x) = part_row (codes "llvm.bits") word.FloatBits attr.FloatBits x float_bits_shape_proved.law hexadecimal_last refl refl refl (λ text. refl)
  rows (attr.Text x) = part_row (codes "llvm.string") word.Text attr.Text x text_shape_proved.law anything_ends refl refl refl (λ text. refl)
  rows (attr.Bytes x) = part_row (codes "llvm.bytes") word.Bytes attr.Bytes x bytes_shape_proved.law hexadecimal_last refl refl refl (λ text. refl)
  rows (attr.SymbolRef x) = part_row (codes "llvm.symbol") word.SymbolRef attr.SymbolRef x symbol_ref_shape_proved.law symbol_last refl refl refl (λ text. refl)
  rows (attr.BlockRef x) = part_row (codes "llvm.block") word.BlockRef attr.BlockRef x block_ref_shape_proved.law anything_ends refl refl refl (λ text. refl)
  rows attr.Zero = word_row (codes "llvm.zero") word.Zero attr.Zero refl refl refl (λ text. refl)
  rows attr.Undef = word_row (codes "llvm.undef") word.Undef attr.Undef refl refl refl (λ text. refl)
  rows (attr.Integers x) = part_row (codes "llvm.ints") word.Integers attr.Integers x integers_shape_proved.law anything_ends refl refl refl (λ text. refl)
  rows (attr.Floats x) = part_row (codes "llvm.floats") word.Floats attr.Floats x floats_shape_proved.law anything_ends refl refl refl (λ text. refl)
  rows (attr.Symbols x) = part_row (codes "llvm.symbols") word.Symbols attr.Symbols x symbols_shape_proved.law anything_ends refl refl refl (λ text. refl)
  rows (attr.TypeOf x) = part_row (codes "llvm.type") word.TypeOf attr.TypeOf x type_of_shape_proved.law own_last refl refl refl (λ text. refl)
  rows (attr.InBounds x) = part_row (codes "llvm.inbounds") word.InBounds attr.InBounds x in_bounds_shape_proved.law own_last refl refl refl (λ text. refl)
  rows (attr.IntCondition x) = part_row (codes "llvm.cond") word.IntCondition attr.IntCondition x int_condition_shape_proved.law int_predicate_last refl refl refl (λ text. refl)
  rows (attr.FloatCondition x) = part_row (codes "llvm.fcond") word.FloatCondition attr.FloatCondition x float_condition_shape_proved.law float_predicate_last refl refl refl (λ text. refl)
  rows (attr.Overflow x) = part_row (codes "llvm.overflow") word.Overflow attr.Overflow x overflow_shape_proved.law wrapping_last refl refl refl (λ text. refl)
  rows (attr.Indices x) = part_row (codes "llvm.at") word.Indices attr.Indices x indices_shape_proved.law anything_ends refl refl refl (λ text. refl)
  rows (attr.Mask x) = part_row (codes "llvm.mask") word.Mask attr.Mask x mask_shape_proved.law anything_ends refl refl refl (λ text. refl)
  rows (attr.Cases x) = part_row (codes "llvm.cases") word.Cases attr.Cases x cases_shape_proved.law anything_ends refl refl refl (λ text. refl)
  rows (attr.Ordering x) = part_row (codes "llvm.ordering") word.Ordering attr.Ordering x ordering_shape_proved.law memory_order_last refl refl refl (λ text. refl)
  rows (attr.ReadModifyWrite x) = part_row (codes "llvm.rmw") word.ReadModifyWrite attr.ReadModifyWrite x read_modify_write_shape_proved.law update_last refl refl refl (λ text. refl)
  rows (attr.Clauses x) = part_row (codes "llvm.clauses") word.Clauses attr.Clauses x clauses_shape_proved.law anything_ends refl refl refl (λ text. refl)
  rows attr.CalledPointer = word_row (codes "llvm.pointer") word.CalledPointer attr.CalledPointer refl refl refl (λ text. refl)
  rows (attr.Assembly x) = part_row (codes "llvm.asm") word.Assembly attr.Assembly x assembly_shape_proved.law anything_ends refl refl refl (λ text. refl)
  rows (attr.Linkage x) = part_row (codes "llvm.linkage") word.Linkage attr.Linkage x linkage_shape_proved.law linkage_kind_last refl refl refl (λ text. refl)
  rows (attr.Align x) = part_row (codes "llvm.align") word.Align attr.Align x align_shape_proved.law digits_last refl refl refl (λ text. refl)
  rows attr.Set = word_row (codes "llvm.flag") word.Set attr.Set refl refl refl (λ text. refl)
  rows (attr.Word x) = part_row (codes "llvm.word") word.Word attr.Word x word_shape_proved.law word_last refl refl refl (λ text. refl)
  rows (attr.Other x) = part_row (codes "llvm.text") word.Other attr.Other x other_shape_proved.law anything_ends refl refl refl (λ text. refl)
  rows (attr.Signature x) = part_row (codes "llvm.signature") word.Signature attr.Signature x signature_shape_proved.law own_last refl refl refl (λ text. refl)
  rows (attr.Fast x) = part_row (codes "llvm.fast") word.Fast attr.Fast x fast_shape_proved.law anything_ends refl refl refl (λ text. refl)

  -- what comes after each word is about the text
  after_sincere : (w : AttrWord) → Sincere (attr_after type_at type_text type_eq w)
  after_sincere word.Integer = part_sincere attr.Integer integer_shape_proved.law
  after_sincere word.Bool = part_sincere attr.Bool bool_shape_proved.law
  after_sincere word.Floating = part_sincere attr.Floating floating_shape_proved.law
  after_sincere word.FloatBits = part_sincere attr.FloatBits float_bits_shape_proved.law
  after_sincere word.Text = part_sincere attr.Text text_shape_proved.law
  after_sincere word.Bytes = part_sincere attr.Bytes bytes_shape_proved.law
  after_sincere word.SymbolRef = part_sincere attr.SymbolRef symbol_ref_shape_proved.law
  after_sincere word.BlockRef = part_sincere attr.BlockRef block_ref_shape_proved.law
  after_sincere word.Zero = word_sincere attr.Zero
  after_sincere word.Undef = word_sincere attr.Undef
  after_sincere word.Integers = part_sincere attr.Integers integers_shape_proved.law
  after_sincere word.Floats = part_sincere attr.Floats floats_shape_proved.law
  after_sincere word.Symbols = part_sincere attr.Symbols symbols_shape_proved.law
  after_sincere word.TypeOf = part_sincere attr.TypeOf type_of_shape_proved.law
  after_sincere word.InBounds = part_sincere attr.InBounds in_bounds_shape_proved.law
  after_sincere word.IntCondition = part_sincere attr.IntCondition int_condition_shape_proved.law
  after_sincere word.FloatCondition = part_sincere attr.FloatCondition float_condition_shape_proved.law
  after_sincere word.Overflow = part_sincere attr.Overflow overflow_shape_proved.law
  after_sincere word.Indices = part_sincere attr.Indices indices_shape_proved.law
  after_sincere word.Mask = part_sincere attr.Mask mask_shape_proved.law
  after_sincere word.Cases = part_sincere attr.Cases cases_shape_proved.law
  after_sincere word.Ordering = part_sincere attr.Ordering ordering_shape_proved.law
  after_sincere word.ReadModifyWrite = part_sincere attr.ReadModifyWrite read_modify_write_shape_proved.law
  after_sincere word.Clauses = part_sincere attr.Clauses clauses_shape_proved.law
  after_sincere word.CalledPointer = word_sincere attr.CalledPointer
  after_sincere word.Assembly = part_sincere attr.Assembly assembly_shape_proved.law
  after_sincere word.Linkage = part_sincere attr.Linkage linkage_shape_proved.law
  after_sincere word.Align = part_sincere attr.Align align_shape_proved.law
  after_sincere word.Set = word_sincere attr.Set
  after_sincere word.Word = part_sincere attr.Word word_shape_proved.law
  after_sincere word.Other = part_sincere attr.Other other_shape_proved.law
  after_sincere word.Signature = part_sincere attr.Signature signature_shape_proved.law
  after_sincere word.Fast = part_sincere attr.Fast fast_shape_proved.law

  pub attr_lawful : Lawful (LlvmAttr T) (texts_of (attr_at type_at type_text type_eq) (attr_text type_at type_text type_eq))
  attr_lawful = table_lawful (codes "Unregistered attribute ") AnAttribute rows

  pub attr_led : BeginsWithWord attr_words (attr_text type_at type_text type_eq)
  attr_led = table_led rows

  pub attr_unreserved : Unreserved (LlvmAttr T) (texts_of (attr_at type_at type_text type_eq) (attr_text type_at type_text type_eq))
  attr_unreserved = table_unreserved (attr_at type_at type_text type_eq) rows refl

  pub attr_sincere : Sincere (attr_at type_at type_text type_eq)
  attr_sincere = table_sincere attr_word (codes "Unregistered attribute ") AnAttribute after_sincere

  same : (x y : LlvmAttr T) → attr_eq type_at type_text type_eq x y ≡ true → x ≡ y
  same (attr.Integer x) (attr.Integer y) e = ap attr.Integer ((integer_shape_proved.decides x y).0 e)
  same (attr.Bool x) (attr.Bool y) e = ap attr.Bool ((bool_shape_proved.decides x y).0 e)
  same (attr.Floating x) (attr.Floating y) e = ap attr.Floating ((floating_shape_proved.decides x y).0 e)
  same (attr.FloatBits x) (attr.FloatBits y) e = ap attr.FloatBits ((float_bits_shape_proved.decides x y).0 e)
  same (attr.Text x) (attr.Text y) e = ap attr.Text ((text_shape_proved.decides x y).0 e)
  same (attr.Bytes x) (attr.Bytes y) e = ap attr.Bytes ((bytes_shape_proved.decides x y).0 e)
  same (attr.SymbolRef x) (attr.SymbolRef y) e = ap attr.SymbolRef ((symbol_ref_shape_proved.decides x y).0 e)
  same (attr.BlockRef x) (attr.BlockRef y) e = ap attr.BlockRef ((block_ref_shape_proved.decides x y).0 e)
  same attr.Zero attr.Zero e = refl
  same attr.Undef attr.Undef e = refl
  same (attr.Integers x) (attr.Integers y) e = ap attr.Integers ((integers_shape_proved.decides x y).0 e)
  same (attr.Floats x) (attr.Floats y) e = ap attr.Floats ((floats_shape_proved.decides x y).0 e)
  same (attr.Symbols x) (attr.Symbols y) e = ap attr.Symbols ((symbols_shape_proved.decides x y).0 e)
  same (attr.TypeOf x) (attr.TypeOf y) e = ap attr.TypeOf ((type_of_shape_proved.decides x y).0 e)
  same (attr.InBounds x) (attr.InBounds y) e = ap attr.InBounds ((in_bounds_shape_proved.decides x y).0 e)
  same (attr.IntCondition x) (attr.IntCondition y) e = ap attr.IntCondition ((int_condition_shape_proved.decides x y).0 e)
  same (attr.FloatCondition x) (attr.FloatCondition y) e = ap attr.FloatCondition ((float_condition_shape_proved.decides x y).0 e)
  same (attr.Overflow x) (attr.Overflow y) e = ap attr.Overflow ((overflow_shape_proved.decides x y).0 e)
  same (attr.Indices x) (attr.Indices y) e = ap attr.Indices ((indices_shape_proved.decides x y).0 e)
  same (attr.Mask x) (attr.Mask y) e = ap attr.Mask ((mask_shape_proved.decides x y).0 e)
  same (attr.Cases x) (attr.Cases y) e = ap attr.Cases ((cases_shape_proved.decides x y).0 e)
  same (attr.Ordering x) (attr.Ordering y) e = ap attr.Ordering ((ordering_shape_proved.decides x y).0 e)
  same (attr.ReadModifyWrite x) (attr.ReadModifyWrite y) e = ap attr.ReadModifyWrite ((read_modify_write_shape_proved.decides x y).0 e)
  same (attr.Clauses x) (attr.Clauses y) e = ap attr.Clauses ((clauses_shape_proved.decides x y).0 e)
  same attr.CalledPointer attr.CalledPointer e = refl
  same (attr.Assembly x) (attr.Assembly y) e = ap attr.Assembly ((assembly_shape_proved.decides x y).0 e)
  same (attr.Linkage x) (attr.Linkage y) e = ap attr.Linkage ((linkage_shape_proved.decides x y).0 e)
  same (attr.Align x) (attr.Align y) e = ap attr.Align ((align_shape_proved.decides x y).0 e)
  same attr.Set attr.Set e = refl
  same (attr.Word x) (attr.Word y) e = ap attr.Word ((word_shape_proved.decides x y).0 e)
  same (attr.Other x) (attr.Other y) e = ap attr.Other ((other_shape_proved.decides x y).0 e)
  same (attr.Signature x) (attr.Signature y) e = ap attr.Signature ((signature_shape_proved.decides x y).0 e)
  same (attr.Fast x) (attr.Fast y) e = ap attr.Fast ((fast_shape_proved.decides x y).0 e)
  same _ _ e = absurd (true≢false (sym e))

  own : (x : LlvmAttr T) → attr_eq type_at type_text type_eq x x ≡ true
  own (attr.Integer x) = (integer_shape_proved.decides x x).1 refl
  own (attr.Bool x) = (bool_shape_proved.decides x x).1 refl
  own (attr.Floating x) = (floating_shape_proved.decides x x).1 refl
  own (attr.FloatBits x) = (float_bits_shape_proved.decides x x).1 refl
  own (attr.Text x) = (text_shape_proved.decides x x).1 refl
  own (attr.Bytes x) = (bytes_shape_proved.decides x x).1 refl
  own (attr.SymbolRef x) = (symbol_ref_shape_proved.decides x x).1 refl
  own (attr.BlockRef x) = (block_ref_shape_proved.decides x x).1 refl
  own attr.Zero = refl
  own attr.Undef = refl
  own (attr.Integers x) = (integers_shape_proved.decides x x).1 refl
  own (attr.Floats x) = (floats_shape_proved.decides x x).1 refl
  own (attr.Symbols x) = (symbols_shape_proved.decides x x).1 refl
  own (attr.TypeOf x) = (type_of_shape_proved.decides x x).1 refl
  own (attr.InBounds x) = (in_bounds_shape_proved.decides x x).1 refl
  own (attr.IntCondition x) = (int_condition_shape_proved.decides x x).1 refl
  own (attr.FloatCondition x) = (float_condition_shape_proved.decides x x).1 refl
  own (attr.Overflow x) = (overflow_shape_proved.decides x x).1 refl
  own (attr.Indices x) = (indices_shape_proved.decides x x).1 refl
  own (attr.Mask x) = (mask_shape_proved.decides x x).1 refl
  own (attr.Cases x) = (cases_shape_proved.decides x x).1 refl
  own (attr.Ordering x) = (ordering_shape_proved.decides x x).1 refl
  own (attr.ReadModifyWrite x) = (read_modify_write_shape_proved.decides x x).1 refl
  own (attr.Clauses x) = (clauses_shape_proved.decides x x).1 refl
  own attr.CalledPointer = refl
  own (attr.Assembly x) = (assembly_shape_proved.decides x x).1 refl
  own (attr.Linkage x) = (linkage_shape_proved.decides x x).1 refl
  own (attr.Align x) = (align_shape_proved.decides x x).1 refl
  own attr.Set = refl
  own (attr.Word x) = (word_shape_proved.decides x x).1 refl
  own (attr.Other x) = (other_shape_proved.decides x x).1 refl
  own (attr.Signature x) = (signature_shape_proved.decides x x).1 refl
  own (attr.Fast x) = (fast_shape_proved.decides x x).1 refl

  -- attributes are equal exactly if they are the same values
  pub attr_decides : (eq : LlvmAttr T → LlvmAttr T → Bool) → ((x y : LlvmAttr T) → eq x y ≡ attr_eq type_at type_text type_eq x y) → (x y : LlvmAttr T) → IsTrue (eq x y) ↔ (x ≡ y)
  attr_decides eq is x y = (λ e. same x y (sym (is x y) ∙ e), λ e. subst (λ z. eq x z ≡ true) e (is x x ∙ own x))
