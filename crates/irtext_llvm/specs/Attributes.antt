-- For callers: the texts of the attributes of the dialect `llvm`, over the types `T` of the context.
use Rattle.std.specs.Prelude.{ℕ, ℤ, Bool, true, false, cond, Option, Some, None, List, [], ◌∷◌, ◌++◌, codes}
use Rattle.std.specs.Option.{option_or}
use Rattle.std.specs.Str.{bytes_eq}
use Rattle.irtext_base.specs.Text.{Text}
use Rattle.irtext_base.specs.Faults.{AnAttribute}
use Rattle.irtext_tokens.specs.Infix.{Reader, nothing, ◌▷◌, ◌⇒◌}
use Rattle.irtext_tokens.specs.Tokens.{space_at}
use Rattle.irtext_syntax.specs.Shapes.{Shape, angle, square, comma, number, quoted, name, ranged, own, then_of, within, list_of}
use Rattle.irtext_syntax.specs.Tables.{table_at}
use Rattle.irtext_llvm.specs.IntPredicates.{int_predicate}
use Rattle.irtext_llvm.specs.FloatPredicates.{float_predicate}
use Rattle.irtext_llvm.specs.Wrappings.{wrapping}
use Rattle.irtext_llvm.specs.LinkageKinds.{linkage_kind}
use Rattle.irtext_llvm.specs.MemoryOrders.{memory_order}
use Rattle.irtext_llvm.specs.Updates.{update}
use Rattle.irtext_llvm.specs.Clauses.{clause}
use Rattle.irtext_llvm.specs.Freedoms.{freedom}
use Rattle.irtext_syntax.specs.IntegerKinds.{u32, i32}
use Rattle.irtext_syntax.specs.NameTexts.{WordText}
use Rattle.irtext_syntax.specs.ScalarTexts.{ScalarText}
use Rattle.irtext_syntax.specs.declared.number.Number.{Number}
use Rattle.irtext_syntax.specs.declared.own.Own.{Own}
use Rattle.irtext_syntax.specs.declared.range.Ranged.{Ranged}
use Rattle.irtext_syntax.specs.declared.ready.Angle.{Angle}
use Rattle.irtext_syntax.specs.declared.ready.Comma.{Comma}
use Rattle.irtext_parts.specs.Shapes.{DecimalText, DigitsText, HexadecimalText, decimal, digits, hexadecimal, symbol, truth}
use Rattle.irtext_parts.specs.declared.symbol.Symbol.{Symbol}
use Rattle.irtext_parts.specs.declared.truth.Truth.{Truth}
use Rattle.irtext_syntax.specs.declared.sequence.Then.{Then}
use Rattle.irtext_syntax.specs.declared.sequence.Within.{Within}
use Rattle.irtext_llvm.specs.declared.int_predicate.IntPredicate.{IntPredicate}
use Rattle.irtext_llvm.specs.declared.float_predicate.FloatPredicate.{FloatPredicate}
use Rattle.irtext_llvm.specs.declared.wrapping.Wrapping.{Wrapping}
use Rattle.irtext_llvm.specs.declared.linkage_kind.LinkageKind.{LinkageKind}
use Rattle.irtext_llvm.specs.declared.memory_order.MemoryOrder.{MemoryOrder}
use Rattle.irtext_llvm.specs.declared.update.Update.{Update}
use Rattle.irtext_llvm.specs.declared.clause.Clause.{Clause}
use Rattle.irtext_llvm.specs.declared.freedom.Freedom.{Freedom}
use Rattle.irtext_llvm.specs.declared.fixed.Bytes.{Bytes}
use Rattle.irtext_llvm.specs.contracts.fixed.BytesRange.TheImpl as bytes
use Rattle.irtext_llvm.specs.declared.attributes.AttrWord.{AttrWord}
use Rattle.irtext_llvm.specs.declared.attributes.AttrWord.TheVariants as word
use Rattle.irtext_llvm.specs.declared.attributes.LlvmAttr.{LlvmAttr}
use Rattle.irtext_llvm.specs.declared.attributes.LlvmAttr.TheVariants as attr

-- the words that attributes begin with
abbrev pub attr_words : List Text
attr_words = codes "llvm.int" ∷ codes "llvm.bool" ∷ codes "llvm.float" ∷ codes "llvm.bits" ∷ codes "llvm.string" ∷ codes "llvm.bytes" ∷ codes "llvm.symbol" ∷ codes "llvm.block" ∷ codes "llvm.zero" ∷ codes "llvm.undef" ∷ codes "llvm.ints" ∷ codes "llvm.floats" ∷ codes "llvm.symbols" ∷ codes "llvm.type" ∷ codes "llvm.inbounds" ∷ codes "llvm.cond" ∷ codes "llvm.fcond" ∷ codes "llvm.overflow" ∷ codes "llvm.at" ∷ codes "llvm.mask" ∷ codes "llvm.cases" ∷ codes "llvm.ordering" ∷ codes "llvm.rmw" ∷ codes "llvm.clauses" ∷ codes "llvm.pointer" ∷ codes "llvm.asm" ∷ codes "llvm.linkage" ∷ codes "llvm.align" ∷ codes "llvm.flag" ∷ codes "llvm.word" ∷ codes "llvm.text" ∷ codes "llvm.signature" ∷ codes "llvm.fast" ∷ []

-- the word that a text is, if it is one from `llvm.int` to `llvm.block`
abbrev pub attr_word_1 : Text → Option AttrWord
attr_word_1 text = cond (bytes_eq text (codes "llvm.int")) (Some word.Integer) (cond (bytes_eq text (codes "llvm.bool")) (Some word.Bool) (cond (bytes_eq text (codes "llvm.float")) (Some word.Floating) (cond (bytes_eq text (codes "llvm.bits")) (Some word.FloatBits) (cond (bytes_eq text (codes "llvm.string")) (Some word.Text) (cond (bytes_eq text (codes "llvm.bytes")) (Some word.Bytes) (cond (bytes_eq text (codes "llvm.symbol")) (Some word.SymbolRef) (cond (bytes_eq text (codes "llvm.block")) (Some word.BlockRef) None)))))))

-- the word that a text is, if it is one from `llvm.zero` to `llvm.cond`
abbrev pub attr_word_2 : Text → Option AttrWord
attr_word_2 text = cond (bytes_eq text (codes "llvm.zero")) (Some word.Zero) (cond (bytes_eq text (codes "llvm.undef")) (Some word.Undef) (cond (bytes_eq text (codes "llvm.ints")) (Some word.Integers) (cond (bytes_eq text (codes "llvm.floats")) (Some word.Floats) (cond (bytes_eq text (codes "llvm.symbols")) (Some word.Symbols) (cond (bytes_eq text (codes "llvm.type")) (Some word.TypeOf) (cond (bytes_eq text (codes "llvm.inbounds")) (Some word.InBounds) (cond (bytes_eq text (codes "llvm.cond")) (Some word.IntCondition) None)))))))

-- the word that a text is, if it is one from `llvm.fcond` to `llvm.clauses`
abbrev pub attr_word_3 : Text → Option AttrWord
attr_word_3 text = cond (bytes_eq text (codes "llvm.fcond")) (Some word.FloatCondition) (cond (bytes_eq text (codes "llvm.overflow")) (Some word.Overflow) (cond (bytes_eq text (codes "llvm.at")) (Some word.Indices) (cond (bytes_eq text (codes "llvm.mask")) (Some word.Mask) (cond (bytes_eq text (codes "llvm.cases")) (Some word.Cases) (cond (bytes_eq text (codes "llvm.ordering")) (Some word.Ordering) (cond (bytes_eq text (codes "llvm.rmw")) (Some word.ReadModifyWrite) (cond (bytes_eq text (codes "llvm.clauses")) (Some word.Clauses) None)))))))

-- the word that a text is, if it is one from `llvm.pointer` to `llvm.fast`
abbrev pub attr_word_4 : Text → Option AttrWord
attr_word_4 text = cond (bytes_eq text (codes "llvm.pointer")) (Some word.CalledPointer) (cond (bytes_eq text (codes "llvm.asm")) (Some word.Assembly) (cond (bytes_eq text (codes "llvm.linkage")) (Some word.Linkage) (cond (bytes_eq text (codes "llvm.align")) (Some word.Align) (cond (bytes_eq text (codes "llvm.flag")) (Some word.Set) (cond (bytes_eq text (codes "llvm.word")) (Some word.Word) (cond (bytes_eq text (codes "llvm.text")) (Some word.Other) (cond (bytes_eq text (codes "llvm.signature")) (Some word.Signature) (cond (bytes_eq text (codes "llvm.fast")) (Some word.Fast) None))))))))

-- the word that a text is, if it is one
abbrev pub attr_word : Text → Option AttrWord
attr_word text = option_or (attr_word_1 text) (option_or (attr_word_2 text) (option_or (attr_word_3 text) (attr_word_4 text)))

module _ {T : Type 0} (type_at : Reader T) (type_text : T → Text) (type_eq : T → T → Bool) where
  -- what comes after `llvm.int`: N
  abbrev pub integer_shape : Shape DigitsText
  integer_shape = digits

  -- what comes after `llvm.bool`: true|false
  abbrev pub bool_shape : Shape Truth
  bool_shape = truth

  -- what comes after `llvm.float`: N.N
  abbrev pub floating_shape : Shape DecimalText
  floating_shape = decimal

  -- what comes after `llvm.bits`: 0xB
  abbrev pub float_bits_shape : Shape HexadecimalText
  float_bits_shape = hexadecimal

  -- what comes after `llvm.string`: "S"
  abbrev pub text_shape : Shape ScalarText
  text_shape = quoted

  -- what comes after `llvm.bytes`: 0xB
  abbrev pub bytes_shape : Shape HexadecimalText
  bytes_shape = hexadecimal

  -- what comes after `llvm.symbol`: @S
  abbrev pub symbol_ref_shape : Shape Symbol
  symbol_ref_shape = symbol

  -- what comes after `llvm.block`: <@S, I>
  abbrev pub block_ref_shape : Shape (Within Angle (Then Symbol Comma WordText))
  block_ref_shape = within angle (then_of symbol comma name)

  -- what comes after `llvm.ints`: [N, ..]
  abbrev pub integers_shape : Shape (List DigitsText)
  integers_shape = list_of square digits

  -- what comes after `llvm.floats`: [N.N, ..]
  abbrev pub floats_shape : Shape (List DecimalText)
  floats_shape = list_of square decimal

  -- what comes after `llvm.symbols`: [@S, ..]
  abbrev pub symbols_shape : Shape (List Symbol)
  symbols_shape = list_of square symbol

  -- what comes after `llvm.type`: T
  abbrev pub type_of_shape : Shape (Own T)
  type_of_shape = own type_at type_text type_eq

  -- what comes after `llvm.inbounds`: T
  abbrev pub in_bounds_shape : Shape (Own T)
  in_bounds_shape = own type_at type_text type_eq

  -- what comes after `llvm.cond`: eq|ne|ugt|uge|ult|ule|sgt|sge|slt|sle
  abbrev pub int_condition_shape : Shape IntPredicate
  int_condition_shape = int_predicate

  -- what comes after `llvm.fcond`: false|oeq|ogt|oge|olt|ole|one|ord|ueq|ugt|uge|ult|ule|une|uno|true
  abbrev pub float_condition_shape : Shape FloatPredicate
  float_condition_shape = float_predicate

  -- what comes after `llvm.overflow`: wraps|nsw|nuw|nuw_nsw
  abbrev pub overflow_shape : Shape Wrapping
  overflow_shape = wrapping

  -- what comes after `llvm.at`: [N, ..]
  abbrev pub indices_shape : Shape (List (Number ℕ u32.radix))
  indices_shape = list_of square (number u32)

  -- what comes after `llvm.mask`: [N, ..]
  abbrev pub mask_shape : Shape (List (Number ℤ i32.radix))
  mask_shape = list_of square (number i32)

  -- what comes after `llvm.cases`: [N, ..]
  abbrev pub cases_shape : Shape (List DigitsText)
  cases_shape = list_of square digits

  -- what comes after `llvm.ordering`: unordered|monotonic|acquire|release|acq_rel|seq_cst
  abbrev pub ordering_shape : Shape MemoryOrder
  ordering_shape = memory_order

  -- what comes after `llvm.rmw`: xchg|add|sub|and|nand|or|xor|max|min|umax|umin|fadd|fsub|fmax|fmin
  abbrev pub read_modify_write_shape : Shape Update
  read_modify_write_shape = update

  -- what comes after `llvm.clauses`: [cleanup|catch|filter, ..]
  abbrev pub clauses_shape : Shape (List Clause)
  clauses_shape = list_of square clause

  -- what comes after `llvm.asm`: <"S", "S">
  abbrev pub assembly_shape : Shape (Within Angle (Then ScalarText Comma ScalarText))
  assembly_shape = within angle (then_of quoted comma quoted)

  -- what comes after `llvm.linkage`: external|private|internal|available_externally|linkonce|linkonce_odr|weak|weak_odr|common|appending|extern_weak
  abbrev pub linkage_shape : Shape LinkageKind
  linkage_shape = linkage_kind

  -- what comes after `llvm.align`: N
  abbrev pub align_shape : Shape (Ranged Bytes bytes.ghosts)
  align_shape = ranged bytes.ghosts

  -- what comes after `llvm.word`: I
  abbrev pub word_shape : Shape WordText
  word_shape = name

  -- what comes after `llvm.text`: "S"
  abbrev pub other_shape : Shape ScalarText
  other_shape = quoted

  -- what comes after `llvm.signature`: T
  abbrev pub signature_shape : Shape (Own T)
  signature_shape = own type_at type_text type_eq

  -- what comes after `llvm.fast`: <nnan|ninf|nsz|arcp|contract|afn|reassoc, ..>
  abbrev pub fast_shape : Shape (List Freedom)
  fast_shape = list_of angle freedom

  -- the text that is printed for an attribute
  abbrev pub attr_text : LlvmAttr T → Text
  attr_text (attr.Integer x) = codes "llvm.int " ++ integer_shape.written x
  attr_text (attr.Bool x) = codes "llvm.bool " ++ bool_shape.written x
  attr_text (attr.Floating x) = codes "llvm.float " ++ floating_shape.written x
  attr_text (attr.FloatBits x) = codes "llvm.bits " ++ float_bits_shape.written x
  attr_text (attr.Text x) = codes "llvm.string " ++ text_shape.written x
  attr_text (attr.Bytes x) = codes "llvm.bytes " ++ bytes_shape.written x
  attr_text (attr.SymbolRef x) = codes "llvm.symbol " ++ symbol_ref_shape.written x
  attr_text (attr.BlockRef x) = codes "llvm.block " ++ block_ref_shape.written x
  attr_text attr.Zero = codes "llvm.zero"
  attr_text attr.Undef = codes "llvm.undef"
  attr_text (attr.Integers x) = codes "llvm.ints " ++ integers_shape.written x
  attr_text (attr.Floats x) = codes "llvm.floats " ++ floats_shape.written x
  attr_text (attr.Symbols x) = codes "llvm.symbols " ++ symbols_shape.written x
  attr_text (attr.TypeOf x) = codes "llvm.type " ++ type_of_shape.written x
  attr_text (attr.InBounds x) = codes "llvm.inbounds " ++ in_bounds_shape.written x
  attr_text (attr.IntCondition x) = codes "llvm.cond " ++ int_condition_shape.written x
  attr_text (attr.FloatCondition x) = codes "llvm.fcond " ++ float_condition_shape.written x
  attr_text (attr.Overflow x) = codes "llvm.overflow " ++ overflow_shape.written x
  attr_text (attr.Indices x) = codes "llvm.at " ++ indices_shape.written x
  attr_text (attr.Mask x) = codes "llvm.mask " ++ mask_shape.written x
  attr_text (attr.Cases x) = codes "llvm.cases " ++ cases_shape.written x
  attr_text (attr.Ordering x) = codes "llvm.ordering " ++ ordering_shape.written x
  attr_text (attr.ReadModifyWrite x) = codes "llvm.rmw " ++ read_modify_write_shape.written x
  attr_text (attr.Clauses x) = codes "llvm.clauses " ++ clauses_shape.written x
  attr_text attr.CalledPointer = codes "llvm.pointer"
  attr_text (attr.Assembly x) = codes "llvm.asm " ++ assembly_shape.written x
  attr_text (attr.Linkage x) = codes "llvm.linkage " ++ linkage_shape.written x
  attr_text (attr.Align x) = codes "llvm.align " ++ align_shape.written x
  attr_text attr.Set = codes "llvm.flag"
  attr_text (attr.Word x) = codes "llvm.word " ++ word_shape.written x
  attr_text (attr.Other x) = codes "llvm.text " ++ other_shape.written x
  attr_text (attr.Signature x) = codes "llvm.signature " ++ signature_shape.written x
  attr_text (attr.Fast x) = codes "llvm.fast " ++ fast_shape.written x

  -- the rest of an attribute, after its word
  abbrev pub attr_after : AttrWord → Reader (LlvmAttr T)
  attr_after word.Integer = (space_at ▷ integer_shape.reading) ⇒ attr.Integer
  attr_after word.Bool = (space_at ▷ bool_shape.reading) ⇒ attr.Bool
  attr_after word.Floating = (space_at ▷ floating_shape.reading) ⇒ attr.Floating
  attr_after word.FloatBits = (space_at ▷ float_bits_shape.reading) ⇒ attr.FloatBits
  attr_after word.Text = (space_at ▷ text_shape.reading) ⇒ attr.Text
  attr_after word.Bytes = (space_at ▷ bytes_shape.reading) ⇒ attr.Bytes
  attr_after word.SymbolRef = (space_at ▷ symbol_ref_shape.reading) ⇒ attr.SymbolRef
  attr_after word.BlockRef = (space_at ▷ block_ref_shape.reading) ⇒ attr.BlockRef
  attr_after word.Zero = nothing attr.Zero
  attr_after word.Undef = nothing attr.Undef
  attr_after word.Integers = (space_at ▷ integers_shape.reading) ⇒ attr.Integers
  attr_after word.Floats = (space_at ▷ floats_shape.reading) ⇒ attr.Floats
  attr_after word.Symbols = (space_at ▷ symbols_shape.reading) ⇒ attr.Symbols
  attr_after word.TypeOf = (space_at ▷ type_of_shape.reading) ⇒ attr.TypeOf
  attr_after word.InBounds = (space_at ▷ in_bounds_shape.reading) ⇒ attr.InBounds
  attr_after word.IntCondition = (space_at ▷ int_condition_shape.reading) ⇒ attr.IntCondition
  attr_after word.FloatCondition = (space_at ▷ float_condition_shape.reading) ⇒ attr.FloatCondition
  attr_after word.Overflow = (space_at ▷ overflow_shape.reading) ⇒ attr.Overflow
  attr_after word.Indices = (space_at ▷ indices_shape.reading) ⇒ attr.Indices
  attr_after word.Mask = (space_at ▷ mask_shape.reading) ⇒ attr.Mask
  attr_after word.Cases = (space_at ▷ cases_shape.reading) ⇒ attr.Cases
  attr_after word.Ordering = (space_at ▷ ordering_shape.reading) ⇒ attr.Ordering
  attr_after word.ReadModifyWrite = (space_at ▷ read_modify_write_shape.reading) ⇒ attr.ReadModifyWrite
  attr_after word.Clauses = (space_at ▷ clauses_shape.reading) ⇒ attr.Clauses
  attr_after word.CalledPointer = nothing attr.CalledPointer
  attr_after word.Assembly = (space_at ▷ assembly_shape.reading) ⇒ attr.Assembly
  attr_after word.Linkage = (space_at ▷ linkage_shape.reading) ⇒ attr.Linkage
  attr_after word.Align = (space_at ▷ align_shape.reading) ⇒ attr.Align
  attr_after word.Set = nothing attr.Set
  attr_after word.Word = (space_at ▷ word_shape.reading) ⇒ attr.Word
  attr_after word.Other = (space_at ▷ other_shape.reading) ⇒ attr.Other
  attr_after word.Signature = (space_at ▷ signature_shape.reading) ⇒ attr.Signature
  attr_after word.Fast = (space_at ▷ fast_shape.reading) ⇒ attr.Fast

  -- an attribute's word, and the rest of the attribute
  abbrev pub attr_at : Reader (LlvmAttr T)
  attr_at = table_at attr_word attr_after (codes "Unregistered attribute ") AnAttribute

  -- whether two attributes are equal
  abbrev pub attr_eq : LlvmAttr T → LlvmAttr T → Bool
  attr_eq (attr.Integer x) (attr.Integer y) = integer_shape.test x y
  attr_eq (attr.Bool x) (attr.Bool y) = bool_shape.test x y
  attr_eq (attr.Floating x) (attr.Floating y) = floating_shape.test x y
  attr_eq (attr.FloatBits x) (attr.FloatBits y) = float_bits_shape.test x y
  attr_eq (attr.Text x) (attr.Text y) = text_shape.test x y
  attr_eq (attr.Bytes x) (attr.Bytes y) = bytes_shape.test x y
  attr_eq (attr.SymbolRef x) (attr.SymbolRef y) = symbol_ref_shape.test x y
  attr_eq (attr.BlockRef x) (attr.BlockRef y) = block_ref_shape.test x y
  attr_eq attr.Zero attr.Zero = true
  attr_eq attr.Undef attr.Undef = true
  attr_eq (attr.Integers x) (attr.Integers y) = integers_shape.test x y
  attr_eq (attr.Floats x) (attr.Floats y) = floats_shape.test x y
  attr_eq (attr.Symbols x) (attr.Symbols y) = symbols_shape.test x y
  attr_eq (attr.TypeOf x) (attr.TypeOf y) = type_of_shape.test x y
  attr_eq (attr.InBounds x) (attr.InBounds y) = in_bounds_shape.test x y
  attr_eq (attr.IntCondition x) (attr.IntCondition y) = int_condition_shape.test x y
  attr_eq (attr.FloatCondition x) (attr.FloatCondition y) = float_condition_shape.test x y
  attr_eq (attr.Overflow x) (attr.Overflow y) = overflow_shape.test x y
  attr_eq (attr.Indices x) (attr.Indices y) = indices_shape.test x y
  attr_eq (attr.Mask x) (attr.Mask y) = mask_shape.test x y
  attr_eq (attr.Cases x) (attr.Cases y) = cases_shape.test x y
  attr_eq (attr.Ordering x) (attr.Ordering y) = ordering_shape.test x y
  attr_eq (attr.ReadModifyWrite x) (attr.ReadModifyWrite y) = read_modify_write_shape.test x y
  attr_eq (attr.Clauses x) (attr.Clauses y) = clauses_shape.test x y
  attr_eq attr.CalledPointer attr.CalledPointer = true
  attr_eq (attr.Assembly x) (attr.Assembly y) = assembly_shape.test x y
  attr_eq (attr.Linkage x) (attr.Linkage y) = linkage_shape.test x y
  attr_eq (attr.Align x) (attr.Align y) = align_shape.test x y
  attr_eq attr.Set attr.Set = true
  attr_eq (attr.Word x) (attr.Word y) = word_shape.test x y
  attr_eq (attr.Other x) (attr.Other y) = other_shape.test x y
  attr_eq (attr.Signature x) (attr.Signature y) = signature_shape.test x y
  attr_eq (attr.Fast x) (attr.Fast y) = fast_shape.test x y
  attr_eq _ _ = false

-- the attributes that the section after the root holds
abbrev pub is_outlined : {T : Type 0} → LlvmAttr T → Bool
is_outlined (attr.Align x) = true
is_outlined attr.Set = true
is_outlined (attr.Word x) = true
is_outlined (attr.Other x) = true
is_outlined (attr.Signature x) = true
is_outlined (attr.Fast x) = true
is_outlined _ = false

-- the attributes that the section prints once
abbrev pub is_print_once : {T : Type 0} → LlvmAttr T → Bool
is_print_once _ = false
