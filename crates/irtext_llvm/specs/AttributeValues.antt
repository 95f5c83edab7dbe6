-- For callers: what the attributes of the dialect `llvm` hold.
use Rattle.std.specs.Prelude.{ℕ, ℤ, Bool, Option, Some, None, List}
use Rattle.irtext_base.specs.Text.{Text}
use Rattle.irtext_syntax.specs.IntegerKinds.{u32, i32}
use Rattle.irtext_syntax.specs.declared.number.Number.{Number}
use Rattle.irtext_parts.specs.Shapes.{DecimalText, DigitsText, HexadecimalText}
use Rattle.irtext_parts.specs.declared.symbol.Symbol.{Symbol}
use Rattle.irtext_llvm.specs.declared.int_predicate.IntPredicate.{IntPredicate}
use Rattle.irtext_llvm.specs.declared.float_predicate.FloatPredicate.{FloatPredicate}
use Rattle.irtext_llvm.specs.declared.wrapping.Wrapping.{Wrapping}
use Rattle.irtext_llvm.specs.declared.linkage_kind.LinkageKind.{LinkageKind}
use Rattle.irtext_llvm.specs.declared.memory_order.MemoryOrder.{MemoryOrder}
use Rattle.irtext_llvm.specs.declared.update.Update.{Update}
use Rattle.irtext_llvm.specs.declared.clause.Clause.{Clause}
use Rattle.irtext_llvm.specs.declared.freedom.Freedom.{Freedom}
use Rattle.irtext_llvm.specs.declared.attributes.LlvmAttr.{LlvmAttr}
use Rattle.irtext_llvm.specs.declared.attributes.LlvmAttr.TheVariants as attr

-- what `llvm.int` holds, if it is one: digits
abbrev pub as_integer : {T : Type 0} → LlvmAttr T → Option DigitsText
as_integer (attr.Integer x) = Some x
as_integer _ = None

-- what `llvm.bool` holds, if it is one: is_true
abbrev pub as_bool : {T : Type 0} → LlvmAttr T → Option Bool
as_bool (attr.Bool x) = Some x.value
as_bool _ = None

-- what `llvm.float` holds, if it is one: decimal
abbrev pub as_floating : {T : Type 0} → LlvmAttr T → Option DecimalText
as_floating (attr.Floating x) = Some x
as_floating _ = None

-- what `llvm.bits` holds, if it is one: hexadecimal
abbrev pub as_float_bits : {T : Type 0} → LlvmAttr T → Option HexadecimalText
as_float_bits (attr.FloatBits x) = Some x
as_float_bits _ = None

-- what `llvm.string` holds, if it is one: text
abbrev pub as_text : {T : Type 0} → LlvmAttr T → Option Text
as_text (attr.Text x) = Some x.characters
as_text _ = None

-- what `llvm.bytes` holds, if it is one: hexadecimal
abbrev pub as_bytes : {T : Type 0} → LlvmAttr T → Option HexadecimalText
as_bytes (attr.Bytes x) = Some x
as_bytes _ = None

-- what `llvm.symbol` holds, if it is one: symbol
abbrev pub as_symbol_ref : {T : Type 0} → LlvmAttr T → Option Symbol
as_symbol_ref (attr.SymbolRef x) = Some x
as_symbol_ref _ = None

-- what `llvm.block` holds, if it is one: symbol, name
abbrev pub as_block_ref : {T : Type 0} → LlvmAttr T → Option (Symbol × Text)
as_block_ref (attr.BlockRef x) = Some (x.inside.first, x.inside.second.characters)
as_block_ref _ = None

-- what `llvm.ints` holds, if it is one: items
abbrev pub as_integers : {T : Type 0} → LlvmAttr T → Option (List DigitsText)
as_integers (attr.Integers x) = Some x
as_integers _ = None

-- what `llvm.floats` holds, if it is one: items
abbrev pub as_floats : {T : Type 0} → LlvmAttr T → Option (List DecimalText)
as_floats (attr.Floats x) = Some x
as_floats _ = None

-- what `llvm.symbols` holds, if it is one: items
abbrev pub as_symbols : {T : Type 0} → LlvmAttr T → Option (List Symbol)
as_symbols (attr.Symbols x) = Some x
as_symbols _ = None

-- what `llvm.type` holds, if it is one: of_type
abbrev pub as_type_of : {T : Type 0} → LlvmAttr T → Option T
as_type_of (attr.TypeOf x) = Some x.value
as_type_of _ = None

-- what `llvm.inbounds` holds, if it is one: of_type
abbrev pub as_in_bounds : {T : Type 0} → LlvmAttr T → Option T
as_in_bounds (attr.InBounds x) = Some x.value
as_in_bounds _ = None

-- what `llvm.cond` holds, if it is one: int_predicate
abbrev pub as_int_condition : {T : Type 0} → LlvmAttr T → Option IntPredicate
as_int_condition (attr.IntCondition x) = Some x
as_int_condition _ = None

-- what `llvm.fcond` holds, if it is one: float_predicate
abbrev pub as_float_condition : {T : Type 0} → LlvmAttr T → Option FloatPredicate
as_float_condition (attr.FloatCondition x) = Some x
as_float_condition _ = None

-- what `llvm.overflow` holds, if it is one: wrapping
abbrev pub as_overflow : {T : Type 0} → LlvmAttr T → Option Wrapping
as_overflow (attr.Overflow x) = Some x
as_overflow _ = None

-- what `llvm.at` holds, if it is one: items
abbrev pub as_indices : {T : Type 0} → LlvmAttr T → Option (List (Number ℕ u32.radix))
as_indices (attr.Indices x) = Some x
as_indices _ = None

-- what `llvm.mask` holds, if it is one: items
abbrev pub as_mask : {T : Type 0} → LlvmAttr T → Option (List (Number ℤ i32.radix))
as_mask (attr.Mask x) = Some x
as_mask _ = None

-- what `llvm.cases` holds, if it is one: items
abbrev pub as_cases : {T : Type 0} → LlvmAttr T → Option (List DigitsText)
as_cases (attr.Cases x) = Some x
as_cases _ = None

-- what `llvm.ordering` holds, if it is one: memory_order
abbrev pub as_ordering : {T : Type 0} → LlvmAttr T → Option MemoryOrder
as_ordering (attr.Ordering x) = Some x
as_ordering _ = None

-- what `llvm.rmw` holds, if it is one: update
abbrev pub as_read_modify_write : {T : Type 0} → LlvmAttr T → Option Update
as_read_modify_write (attr.ReadModifyWrite x) = Some x
as_read_modify_write _ = None

-- what `llvm.clauses` holds, if it is one: items
abbrev pub as_clauses : {T : Type 0} → LlvmAttr T → Option (List Clause)
as_clauses (attr.Clauses x) = Some x
as_clauses _ = None

-- what `llvm.asm` holds, if it is one: text_1, text_2
abbrev pub as_assembly : {T : Type 0} → LlvmAttr T → Option (Text × Text)
as_assembly (attr.Assembly x) = Some (x.inside.first.characters, x.inside.second.characters)
as_assembly _ = None

-- what `llvm.linkage` holds, if it is one: linkage_kind
abbrev pub as_linkage : {T : Type 0} → LlvmAttr T → Option LinkageKind
as_linkage (attr.Linkage x) = Some x
as_linkage _ = None

-- what `llvm.align` holds, if it is one: bytes
abbrev pub as_align : {T : Type 0} → LlvmAttr T → Option ℕ
as_align (attr.Align x) = Some x.value
as_align _ = None

-- what `llvm.word` holds, if it is one: name
abbrev pub as_word : {T : Type 0} → LlvmAttr T → Option Text
as_word (attr.Word x) = Some x.characters
as_word _ = None

-- what `llvm.text` holds, if it is one: text
abbrev pub as_other : {T : Type 0} → LlvmAttr T → Option Text
as_other (attr.Other x) = Some x.characters
as_other _ = None

-- what `llvm.signature` holds, if it is one: of_type
abbrev pub as_signature : {T : Type 0} → LlvmAttr T → Option T
as_signature (attr.Signature x) = Some x.value
as_signature _ = None

-- what `llvm.fast` holds, if it is one: items
abbrev pub as_fast : {T : Type 0} → LlvmAttr T → Option (List Freedom)
as_fast (attr.Fast x) = Some x
as_fast _ = None
