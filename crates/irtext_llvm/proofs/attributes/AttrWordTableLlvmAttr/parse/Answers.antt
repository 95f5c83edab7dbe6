use Rattle.irtext_tokens.proofs.Exits.{propagated}
use Rattle.irtext_llvm.proofs.Parsed.{parsed, failed}
use Rattle.irtext_llvm.specs.declared.attributes.LlvmAttr.TheVariants as attr
use Rattle.irtext_llvm.proofs.attributes.AttrWordTableLlvmAttr.parse.Goals as goal

pub returns-in_err-after_word-in-Integer : goal.returns-in_err-after_word-in-Integer
returns-in_err-after_word-in-Integer g c =
    rw (propagated c.from_residual.result c.from_residual.ensures.1) (
    rw c.in-Integer.is (failed attr.Integer c.in_err-after_word-in-Integer.ensures))

pub returns-in_ok-after_word-in-Integer : goal.returns-in_ok-after_word-in-Integer
returns-in_ok-after_word-in-Integer g c = rw c.in-Integer.is (parsed attr.Integer c.in_ok-after_word-in-Integer.ensures)

pub returns-in_err-after_word-in-Bool : goal.returns-in_err-after_word-in-Bool
returns-in_err-after_word-in-Bool g c =
    rw (propagated c.from_residual-in_err-after_word-in-Bool.result c.from_residual-in_err-after_word-in-Bool.ensures.1) (
    rw c.in-Bool.is (failed attr.Bool c.in_err-after_word-in-Bool.ensures))

pub returns-in_ok-after_word-in-Bool : goal.returns-in_ok-after_word-in-Bool
returns-in_ok-after_word-in-Bool g c = rw c.in-Bool.is (parsed attr.Bool c.in_ok-after_word-in-Bool.ensures)

pub returns-in_err-after_word-in-Floating : goal.returns-in_err-after_word-in-Floating
returns-in_err-after_word-in-Floating g c =
    rw (propagated c.from_residual-in_err-after_word-in-Floating.result c.from_residual-in_err-after_word-in-Floating.ensures.1) (
    rw c.in-Floating.is (failed attr.Floating c.in_err-after_word-in-Floating.ensures))

pub returns-in_ok-after_word-in-Floating : goal.returns-in_ok-after_word-in-Floating
returns-in_ok-after_word-in-Floating g c = rw c.in-Floating.is (parsed attr.Floating c.in_ok-after_word-in-Floating.ensures)

pub returns-in_err-after_word-in-FloatBits : goal.returns-in_err-after_word-in-FloatBits
returns-in_err-after_word-in-FloatBits g c =
    rw (propagated c.from_residual-in_err-after_word-in-FloatBits.result c.from_residual-in_err-after_word-in-FloatBits.ensures.1) (
    rw c.in-FloatBits.is (failed attr.FloatBits c.in_err-after_word-in-FloatBits.ensures))

pub returns-in_ok-after_word-in-FloatBits : goal.returns-in_ok-after_word-in-FloatBits
returns-in_ok-after_word-in-FloatBits g c = rw c.in-FloatBits.is (parsed attr.FloatBits c.in_ok-after_word-in-FloatBits.ensures)

pub returns-in_err-after_word-in-Text : goal.returns-in_err-after_word-in-Text
returns-in_err-after_word-in-Text g c =
    rw (propagated c.from_residual-in_err-after_word-in-Text.result c.from_residual-in_err-after_word-in-Text.ensures.1) (
    rw c.in-Text.is (failed attr.Text c.in_err-after_word-in-Text.ensures))

pub returns-in_ok-after_word-in-Text : goal.returns-in_ok-after_word-in-Text
returns-in_ok-after_word-in-Text g c = rw c.in-Text.is (parsed attr.Text c.in_ok-after_word-in-Text.ensures)

pub returns-in_err-after_word-in-Bytes : goal.returns-in_err-after_word-in-Bytes
returns-in_err-after_word-in-Bytes g c =
    rw (propagated c.from_residual-in_err-after_word-in-Bytes.result c.from_residual-in_err-after_word-in-Bytes.ensures.1) (
    rw c.in-Bytes.is (failed attr.Bytes c.in_err-after_word-in-Bytes.ensures))

pub returns-in_ok-after_word-in-Bytes : goal.returns-in_ok-after_word-in-Bytes
returns-in_ok-after_word-in-Bytes g c = rw c.in-Bytes.is (parsed attr.Bytes c.in_ok-after_word-in-Bytes.ensures)

pub returns-in_err-after_word-in-SymbolRef : goal.returns-in_err-after_word-in-SymbolRef
returns-in_err-after_word-in-SymbolRef g c =
    rw (propagated c.from_residual-in_err-after_word-in-SymbolRef.result c.from_residual-in_err-after_word-in-SymbolRef.ensures.1) (
    rw c.in-SymbolRef.is (failed attr.SymbolRef c.in_err-after_word-in-SymbolRef.ensures))

pub returns-in_ok-after_word-in-SymbolRef : goal.returns-in_ok-after_word-in-SymbolRef
returns-in_ok-after_word-in-SymbolRef g c = rw c.in-SymbolRef.is (parsed attr.SymbolRef c.in_ok-after_word-in-SymbolRef.ensures)

pub returns-in_err-after_word-in-BlockRef : goal.returns-in_err-after_word-in-BlockRef
returns-in_err-after_word-in-BlockRef g c =
    rw (propagated c.from_residual-in_err-after_word-in-BlockRef.result c.from_residual-in_err-after_word-in-BlockRef.ensures.1) (
    rw c.in-BlockRef.is (failed attr.BlockRef c.in_err-after_word-in-BlockRef.ensures))

pub returns-in_ok-after_word-in-BlockRef : goal.returns-in_ok-after_word-in-BlockRef
returns-in_ok-after_word-in-BlockRef g c = rw c.in-BlockRef.is (parsed attr.BlockRef c.in_ok-after_word-in-BlockRef.ensures)

pub returns-in_err-after_word-in-Integers : goal.returns-in_err-after_word-in-Integers
returns-in_err-after_word-in-Integers g c =
    rw (propagated c.from_residual-in_err-after_word-in-Integers.result c.from_residual-in_err-after_word-in-Integers.ensures.1) (
    rw c.in-Integers.is (failed attr.Integers c.in_err-after_word-in-Integers.ensures))

pub returns-in_ok-after_word-in-Integers : goal.returns-in_ok-after_word-in-Integers
returns-in_ok-after_word-in-Integers g c = rw c.in-Integers.is (parsed attr.Integers c.in_ok-after_word-in-Integers.ensures)

pub returns-in_err-after_word-in-Floats : goal.returns-in_err-after_word-in-Floats
returns-in_err-after_word-in-Floats g c =
    rw (propagated c.from_residual-in_err-after_word-in-Floats.result c.from_residual-in_err-after_word-in-Floats.ensures.1) (
    rw c.in-Floats.is (failed attr.Floats c.in_err-after_word-in-Floats.ensures))

pub returns-in_ok-after_word-in-Floats : goal.returns-in_ok-after_word-in-Floats
returns-in_ok-after_word-in-Floats g c = rw c.in-Floats.is (parsed attr.Floats c.in_ok-after_word-in-Floats.ensures)

pub returns-in_err-after_word-in-Symbols : goal.returns-in_err-after_word-in-Symbols
returns-in_err-after_word-in-Symbols g c =
    rw (propagated c.from_residual-in_err-after_word-in-Symbols.result c.from_residual-in_err-after_word-in-Symbols.ensures.1) (
    rw c.in-Symbols.is (failed attr.Symbols c.in_err-after_word-in-Symbols.ensures))

pub returns-in_ok-after_word-in-Symbols : goal.returns-in_ok-after_word-in-Symbols
returns-in_ok-after_word-in-Symbols g c = rw c.in-Symbols.is (parsed attr.Symbols c.in_ok-after_word-in-Symbols.ensures)

pub returns-in_err-after_word-in-TypeOf : goal.returns-in_err-after_word-in-TypeOf
returns-in_err-after_word-in-TypeOf g c =
    rw (propagated c.from_residual-in_err-after_word-in-TypeOf.result c.from_residual-in_err-after_word-in-TypeOf.ensures.1) (
    rw c.in-TypeOf.is (failed attr.TypeOf c.in_err-after_word-in-TypeOf.ensures))

pub returns-in_ok-after_word-in-TypeOf : goal.returns-in_ok-after_word-in-TypeOf
returns-in_ok-after_word-in-TypeOf g c = rw c.in-TypeOf.is (parsed attr.TypeOf c.in_ok-after_word-in-TypeOf.ensures)

pub returns-in_err-after_word-in-InBounds : goal.returns-in_err-after_word-in-InBounds
returns-in_err-after_word-in-InBounds g c =
    rw (propagated c.from_residual-in_err-after_word-in-InBounds.result c.from_residual-in_err-after_word-in-InBounds.ensures.1) (
    rw c.in-InBounds.is (failed attr.InBounds c.in_err-after_word-in-InBounds.ensures))

pub returns-in_ok-after_word-in-InBounds : goal.returns-in_ok-after_word-in-InBounds
returns-in_ok-after_word-in-InBounds g c = rw c.in-InBounds.is (parsed attr.InBounds c.in_ok-after_word-in-InBounds.ensures)

pub returns-in_err-after_word-in-IntCondition : goal.returns-in_err-after_word-in-IntCondition
returns-in_err-after_word-in-IntCondition g c =
    rw (propagated c.from_residual-in_err-after_word-in-IntCondition.result c.from_residual-in_err-after_word-in-IntCondition.ensures.1) (
    rw c.in-IntCondition.is (failed attr.IntCondition c.in_err-after_word-in-IntCondition.ensures))

pub returns-in_ok-after_word-in-IntCondition : goal.returns-in_ok-after_word-in-IntCondition
returns-in_ok-after_word-in-IntCondition g c = rw c.in-IntCondition.is (parsed attr.IntCondition c.in_ok-after_word-in-IntCondition.ensures)

pub returns-in_err-after_word-in-FloatCondition : goal.returns-in_err-after_word-in-FloatCondition
returns-in_err-after_word-in-FloatCondition g c =
    rw (propagated c.from_residual-in_err-after_word-in-FloatCondition.result c.from_residual-in_err-after_word-in-FloatCondition.ensures.1) (
    rw c.in-FloatCondition.is (failed attr.FloatCondition c.in_err-after_word-in-FloatCondition.ensures))

pub returns-in_ok-after_word-in-FloatCondition : goal.returns-in_ok-after_word-in-FloatCondition
returns-in_ok-after_word-in-FloatCondition g c = rw c.in-FloatCondition.is (parsed attr.FloatCondition c.in_ok-after_word-in-FloatCondition.ensures)

pub returns-in_err-after_word-in-Overflow : goal.returns-in_err-after_word-in-Overflow
returns-in_err-after_word-in-Overflow g c =
    rw (propagated c.from_residual-in_err-after_word-in-Overflow.result c.from_residual-in_err-after_word-in-Overflow.ensures.1) (
    rw c.in-Overflow.is (failed attr.Overflow c.in_err-after_word-in-Overflow.ensures))

pub returns-in_ok-after_word-in-Overflow : goal.returns-in_ok-after_word-in-Overflow
returns-in_ok-after_word-in-Overflow g c = rw c.in-Overflow.is (parsed attr.Overflow c.in_ok-after_word-in-Overflow.ensures)

pub returns-in_err-after_word-in-Indices : goal.returns-in_err-after_word-in-Indices
returns-in_err-after_word-in-Indices g c =
    rw (propagated c.from_residual-in_err-after_word-in-Indices.result c.from_residual-in_err-after_word-in-Indices.ensures.1) (
    rw c.in-Indices.is (failed attr.Indices c.in_err-after_word-in-Indices.ensures))

pub returns-in_ok-after_word-in-Indices : goal.returns-in_ok-after_word-in-Indices
returns-in_ok-after_word-in-Indices g c = rw c.in-Indices.is (parsed attr.Indices c.in_ok-after_word-in-Indices.ensures)

pub returns-in_err-after_word-in-Mask : goal.returns-in_err-after_word-in-Mask
returns-in_err-after_word-in-Mask g c =
    rw (propagated c.from_residual-in_err-after_word-in-Mask.result c.from_residual-in_err-after_word-in-Mask.ensures.1) (
    rw c.in-Mask.is (failed attr.Mask c.in_err-after_word-in-Mask.ensures))

pub returns-in_ok-after_word-in-Mask : goal.returns-in_ok-after_word-in-Mask
returns-in_ok-after_word-in-Mask g c = rw c.in-Mask.is (parsed attr.Mask c.in_ok-after_word-in-Mask.ensures)

pub returns-in_err-after_word-in-Cases : goal.returns-in_err-after_word-in-Cases
returns-in_err-after_word-in-Cases g c =
    rw (propagated c.from_residual-in_err-after_word-in-Cases.result c.from_residual-in_err-after_word-in-Cases.ensures.1) (
    rw c.in-Cases.is (failed attr.Cases c.in_err-after_word-in-Cases.ensures))

pub returns-in_ok-after_word-in-Cases : goal.returns-in_ok-after_word-in-Cases
returns-in_ok-after_word-in-Cases g c = rw c.in-Cases.is (parsed attr.Cases c.in_ok-after_word-in-Cases.ensures)

pub returns-in_err-after_word-in-Ordering : goal.returns-in_err-after_word-in-Ordering
returns-in_err-after_word-in-Ordering g c =
    rw (propagated c.from_residual-in_err-after_word-in-Ordering.result c.from_residual-in_err-after_word-in-Ordering.ensures.1) (
    rw c.in-Ordering.is (failed attr.Ordering c.in_err-after_word-in-Ordering.ensures))

pub returns-in_ok-after_word-in-Ordering : goal.returns-in_ok-after_word-in-Ordering
returns-in_ok-after_word-in-Ordering g c = rw c.in-Ordering.is (parsed attr.Ordering c.in_ok-after_word-in-Ordering.ensures)

pub returns-in_err-after_word-in-ReadModifyWrite : goal.returns-in_err-after_word-in-ReadModifyWrite
returns-in_err-after_word-in-ReadModifyWrite g c =
    rw (propagated c.from_residual-in_err-after_word-in-ReadModifyWrite.result c.from_residual-in_err-after_word-in-ReadModifyWrite.ensures.1) (
    rw c.in-ReadModifyWrite.is (failed attr.ReadModifyWrite c.in_err-after_word-in-ReadModifyWrite.ensures))

pub returns-in_ok-after_word-in-ReadModifyWrite : goal.returns-in_ok-after_word-in-ReadModifyWrite
returns-in_ok-after_word-in-ReadModifyWrite g c = rw c.in-ReadModifyWrite.is (parsed attr.ReadModifyWrite c.in_ok-after_word-in-ReadModifyWrite.ensures)

pub returns-in_err-after_word-in-Clauses : goal.returns-in_err-after_word-in-Clauses
returns-in_err-after_word-in-Clauses g c =
    rw (propagated c.from_residual-in_err-after_word-in-Clauses.result c.from_residual-in_err-after_word-in-Clauses.ensures.1) (
    rw c.in-Clauses.is (failed attr.Clauses c.in_err-after_word-in-Clauses.ensures))

pub returns-in_ok-after_word-in-Clauses : goal.returns-in_ok-after_word-in-Clauses
returns-in_ok-after_word-in-Clauses g c = rw c.in-Clauses.is (parsed attr.Clauses c.in_ok-after_word-in-Clauses.ensures)

pub returns-in_err-after_word-in-Assembly : goal.returns-in_err-after_word-in-Assembly
returns-in_err-after_word-in-Assembly g c =
    rw (propagated c.from_residual-in_err-after_word-in-Assembly.result c.from_residual-in_err-after_word-in-Assembly.ensures.1) (
    rw c.in-Assembly.is (failed attr.Assembly c.in_err-after_word-in-Assembly.ensures))

pub returns-in_ok-after_word-in-Assembly : goal.returns-in_ok-after_word-in-Assembly
returns-in_ok-after_word-in-Assembly g c = rw c.in-Assembly.is (parsed attr.Assembly c.in_ok-after_word-in-Assembly.ensures)

pub returns-in_err-after_word-in-Linkage : goal.returns-in_err-after_word-in-Linkage
returns-in_err-after_word-in-Linkage g c =
    rw (propagated c.from_residual-in_err-after_word-in-Linkage.result c.from_residual-in_err-after_word-in-Linkage.ensures.1) (
    rw c.in-Linkage.is (failed attr.Linkage c.in_err-after_word-in-Linkage.ensures))

pub returns-in_ok-after_word-in-Linkage : goal.returns-in_ok-after_word-in-Linkage
returns-in_ok-after_word-in-Linkage g c = rw c.in-Linkage.is (parsed attr.Linkage c.in_ok-after_word-in-Linkage.ensures)

pub returns-in_err-after_word-in-Align : goal.returns-in_err-after_word-in-Align
returns-in_err-after_word-in-Align g c =
    rw (propagated c.from_residual-in_err-after_word-in-Align.result c.from_residual-in_err-after_word-in-Align.ensures.1) (
    rw c.in-Align.is (failed attr.Align c.in_err-after_word-in-Align.ensures))

pub returns-in_ok-after_word-in-Align : goal.returns-in_ok-after_word-in-Align
returns-in_ok-after_word-in-Align g c = rw c.in-Align.is (parsed attr.Align c.in_ok-after_word-in-Align.ensures)

pub returns-in_err-after_word-in-Word : goal.returns-in_err-after_word-in-Word
returns-in_err-after_word-in-Word g c =
    rw (propagated c.from_residual-in_err-after_word-in-Word.result c.from_residual-in_err-after_word-in-Word.ensures.1) (
    rw c.in-Word.is (failed attr.Word c.in_err-after_word-in-Word.ensures))

pub returns-in_ok-after_word-in-Word : goal.returns-in_ok-after_word-in-Word
returns-in_ok-after_word-in-Word g c = rw c.in-Word.is (parsed attr.Word c.in_ok-after_word-in-Word.ensures)

pub returns-in_err-after_word-in-Other : goal.returns-in_err-after_word-in-Other
returns-in_err-after_word-in-Other g c =
    rw (propagated c.from_residual-in_err-after_word-in-Other.result c.from_residual-in_err-after_word-in-Other.ensures.1) (
    rw c.in-Other.is (failed attr.Other c.in_err-after_word-in-Other.ensures))

pub returns-in_ok-after_word-in-Other : goal.returns-in_ok-after_word-in-Other
returns-in_ok-after_word-in-Other g c = rw c.in-Other.is (parsed attr.Other c.in_ok-after_word-in-Other.ensures)

pub returns-in_err-after_word-in-Signature : goal.returns-in_err-after_word-in-Signature
returns-in_err-after_word-in-Signature g c =
    rw (propagated c.from_residual-in_err-after_word-in-Signature.result c.from_residual-in_err-after_word-in-Signature.ensures.1) (
    rw c.in-Signature.is (failed attr.Signature c.in_err-after_word-in-Signature.ensures))

pub returns-in_ok-after_word-in-Signature : goal.returns-in_ok-after_word-in-Signature
returns-in_ok-after_word-in-Signature g c = rw c.in-Signature.is (parsed attr.Signature c.in_ok-after_word-in-Signature.ensures)

pub returns-in_err-after_word-in-Fast : goal.returns-in_err-after_word-in-Fast
returns-in_err-after_word-in-Fast g c =
    rw (propagated c.from_residual-in_err-after_word-in-Fast.result c.from_residual-in_err-after_word-in-Fast.ensures.1) (
    rw c.in-Fast.is (failed attr.Fast c.in_err-after_word-in-Fast.ensures))

pub returns-in_ok-after_word-in-Fast : goal.returns-in_ok-after_word-in-Fast
returns-in_ok-after_word-in-Fast g c = rw c.in-Fast.is (parsed attr.Fast c.in_ok-after_word-in-Fast.ensures)
