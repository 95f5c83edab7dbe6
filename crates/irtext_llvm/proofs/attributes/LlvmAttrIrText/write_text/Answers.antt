use Rattle.irtext_llvm.proofs.attributes.LlvmAttrIrText.write_text.Goals as goal

pub returns-in-Integer-clause-text : goal.returns-in-Integer-clause-text
returns-in-Integer-clause-text g c = rw c.in-Integer.is c.write_row.ensures.text

pub returns-in-Bool-clause-text : goal.returns-in-Bool-clause-text
returns-in-Bool-clause-text g c = rw c.in-Bool.is c.write_row-in-Bool.ensures.text

pub returns-in-Floating-clause-text : goal.returns-in-Floating-clause-text
returns-in-Floating-clause-text g c = rw c.in-Floating.is c.write_row-in-Floating.ensures.text

pub returns-in-FloatBits-clause-text : goal.returns-in-FloatBits-clause-text
returns-in-FloatBits-clause-text g c = rw c.in-FloatBits.is c.write_row-in-FloatBits.ensures.text

pub returns-in-Text-clause-text : goal.returns-in-Text-clause-text
returns-in-Text-clause-text g c = rw c.in-Text.is c.write_row-in-Text.ensures.text

pub returns-in-Bytes-clause-text : goal.returns-in-Bytes-clause-text
returns-in-Bytes-clause-text g c = rw c.in-Bytes.is c.write_row-in-Bytes.ensures.text

pub returns-in-SymbolRef-clause-text : goal.returns-in-SymbolRef-clause-text
returns-in-SymbolRef-clause-text g c = rw c.in-SymbolRef.is c.write_row-in-SymbolRef.ensures.text

pub returns-in-BlockRef-clause-text : goal.returns-in-BlockRef-clause-text
returns-in-BlockRef-clause-text g c = rw c.in-BlockRef.is c.write_row-in-BlockRef.ensures.text

pub returns-in-Integers-clause-text : goal.returns-in-Integers-clause-text
returns-in-Integers-clause-text g c = rw c.in-Integers.is c.write_row-in-Integers.ensures.text

pub returns-in-Floats-clause-text : goal.returns-in-Floats-clause-text
returns-in-Floats-clause-text g c = rw c.in-Floats.is c.write_row-in-Floats.ensures.text

pub returns-in-Symbols-clause-text : goal.returns-in-Symbols-clause-text
returns-in-Symbols-clause-text g c = rw c.in-Symbols.is c.write_row-in-Symbols.ensures.text

pub returns-in-TypeOf-clause-text : goal.returns-in-TypeOf-clause-text
returns-in-TypeOf-clause-text g c = rw c.in-TypeOf.is c.write_row-in-TypeOf.ensures.text

pub returns-in-InBounds-clause-text : goal.returns-in-InBounds-clause-text
returns-in-InBounds-clause-text g c = rw c.in-InBounds.is c.write_row-in-InBounds.ensures.text

pub returns-in-IntCondition-clause-text : goal.returns-in-IntCondition-clause-text
returns-in-IntCondition-clause-text g c = rw c.in-IntCondition.is c.write_row-in-IntCondition.ensures.text

pub returns-in-FloatCondition-clause-text : goal.returns-in-FloatCondition-clause-text
returns-in-FloatCondition-clause-text g c = rw c.in-FloatCondition.is c.write_row-in-FloatCondition.ensures.text

pub returns-in-Overflow-clause-text : goal.returns-in-Overflow-clause-text
returns-in-Overflow-clause-text g c = rw c.in-Overflow.is c.write_row-in-Overflow.ensures.text

pub returns-in-Indices-clause-text : goal.returns-in-Indices-clause-text
returns-in-Indices-clause-text g c = rw c.in-Indices.is c.write_row-in-Indices.ensures.text

pub returns-in-Mask-clause-text : goal.returns-in-Mask-clause-text
returns-in-Mask-clause-text g c = rw c.in-Mask.is c.write_row-in-Mask.ensures.text

pub returns-in-Cases-clause-text : goal.returns-in-Cases-clause-text
returns-in-Cases-clause-text g c = rw c.in-Cases.is c.write_row-in-Cases.ensures.text

pub returns-in-Ordering-clause-text : goal.returns-in-Ordering-clause-text
returns-in-Ordering-clause-text g c = rw c.in-Ordering.is c.write_row-in-Ordering.ensures.text

pub returns-in-ReadModifyWrite-clause-text : goal.returns-in-ReadModifyWrite-clause-text
returns-in-ReadModifyWrite-clause-text g c = rw c.in-ReadModifyWrite.is c.write_row-in-ReadModifyWrite.ensures.text

pub returns-in-Clauses-clause-text : goal.returns-in-Clauses-clause-text
returns-in-Clauses-clause-text g c = rw c.in-Clauses.is c.write_row-in-Clauses.ensures.text

pub returns-in-Assembly-clause-text : goal.returns-in-Assembly-clause-text
returns-in-Assembly-clause-text g c = rw c.in-Assembly.is c.write_row-in-Assembly.ensures.text

pub returns-in-Linkage-clause-text : goal.returns-in-Linkage-clause-text
returns-in-Linkage-clause-text g c = rw c.in-Linkage.is c.write_row-in-Linkage.ensures.text

pub returns-in-Align-clause-text : goal.returns-in-Align-clause-text
returns-in-Align-clause-text g c = rw c.in-Align.is c.write_row-in-Align.ensures.text

pub returns-in-Word-clause-text : goal.returns-in-Word-clause-text
returns-in-Word-clause-text g c = rw c.in-Word.is c.write_row-in-Word.ensures.text

pub returns-in-Other-clause-text : goal.returns-in-Other-clause-text
returns-in-Other-clause-text g c = rw c.in-Other.is c.write_row-in-Other.ensures.text

pub returns-in-Signature-clause-text : goal.returns-in-Signature-clause-text
returns-in-Signature-clause-text g c = rw c.in-Signature.is c.write_row-in-Signature.ensures.text

pub returns-in-Fast-clause-text : goal.returns-in-Fast-clause-text
returns-in-Fast-clause-text g c = rw c.in-Fast.is c.write_row-in-Fast.ensures.text
