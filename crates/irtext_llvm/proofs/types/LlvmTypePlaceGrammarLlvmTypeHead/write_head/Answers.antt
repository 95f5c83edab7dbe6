use Rattle.irtext_llvm.proofs.types.LlvmTypePlaceGrammarLlvmTypeHead.write_head.Goals as goal

pub returns-in-Void-clause-text : goal.returns-in-Void-clause-text
returns-in-Void-clause-text g c = rw c.in-Void.is c.write_word.ensures.text

pub returns-in-Label-clause-text : goal.returns-in-Label-clause-text
returns-in-Label-clause-text g c = rw c.in-Label.is c.write_word-in-Label.ensures.text

pub returns-in-Token-clause-text : goal.returns-in-Token-clause-text
returns-in-Token-clause-text g c = rw c.in-Token.is c.write_word-in-Token.ensures.text

pub returns-in-Metadata-clause-text : goal.returns-in-Metadata-clause-text
returns-in-Metadata-clause-text g c = rw c.in-Metadata.is c.write_word-in-Metadata.ensures.text

pub returns-in-Opaque-clause-text : goal.returns-in-Opaque-clause-text
returns-in-Opaque-clause-text g c = rw c.in-Opaque.is c.write_word-in-Opaque.ensures.text

pub returns-in-Pointer-clause-text : goal.returns-in-Pointer-clause-text
returns-in-Pointer-clause-text g c = rw c.in-Pointer.is c.write_word-in-Pointer.ensures.text

pub returns-in-PointerIn-clause-text : goal.returns-in-PointerIn-clause-text
returns-in-PointerIn-clause-text g c = rw c.in-PointerIn.is c.write_row.ensures.text

pub returns-in-Int-clause-text : goal.returns-in-Int-clause-text
returns-in-Int-clause-text g c = rw c.in-Int.is c.write_row-in-Int.ensures.text

pub returns-in-Fp-clause-text : goal.returns-in-Fp-clause-text
returns-in-Fp-clause-text g c = rw c.in-Fp.is c.write_row-in-Fp.ensures.text

pub returns-in-Named-clause-text : goal.returns-in-Named-clause-text
returns-in-Named-clause-text g c = rw c.in-Named.is c.write_row-in-Named.ensures.text

pub returns-in-Array-clause-text : goal.returns-in-Array-clause-text
returns-in-Array-clause-text g c = rw c.in-Array.is c.write_spaced_row.ensures.text

pub returns-in-Vector-clause-text : goal.returns-in-Vector-clause-text
returns-in-Vector-clause-text g c = rw c.in-Vector.is c.write_spaced_row-in-Vector.ensures.text

pub returns-in-Scalable-clause-text : goal.returns-in-Scalable-clause-text
returns-in-Scalable-clause-text g c = rw c.in-Scalable.is c.write_spaced_row-in-Scalable.ensures.text

pub returns-in-Struct-clause-text : goal.returns-in-Struct-clause-text
returns-in-Struct-clause-text g c = rw c.in-Struct.is c.write_word-in-Struct.ensures.text

pub returns-in-EmptyStruct-clause-text : goal.returns-in-EmptyStruct-clause-text
returns-in-EmptyStruct-clause-text g c = rw c.in-EmptyStruct.is c.write_word-in-EmptyStruct.ensures.text

pub returns-in-Packed-clause-text : goal.returns-in-Packed-clause-text
returns-in-Packed-clause-text g c = rw c.in-Packed.is c.write_word-in-Packed.ensures.text

pub returns-in-EmptyPacked-clause-text : goal.returns-in-EmptyPacked-clause-text
returns-in-EmptyPacked-clause-text g c = rw c.in-EmptyPacked.is c.write_word-in-EmptyPacked.ensures.text

pub returns-in-Func-clause-text : goal.returns-in-Func-clause-text
returns-in-Func-clause-text g c = rw c.in-Func.is c.write_word-in-Func.ensures.text

pub returns-in-EmptyFunc-clause-text : goal.returns-in-EmptyFunc-clause-text
returns-in-EmptyFunc-clause-text g c = rw c.in-EmptyFunc.is c.write_word-in-EmptyFunc.ensures.text

pub returns-in-Varargs-clause-text : goal.returns-in-Varargs-clause-text
returns-in-Varargs-clause-text g c = rw c.in-Varargs.is c.write_word-in-Varargs.ensures.text

pub returns-in-EmptyVarargs-clause-text : goal.returns-in-EmptyVarargs-clause-text
returns-in-EmptyVarargs-clause-text g c = rw c.in-EmptyVarargs.is c.write_word-in-EmptyVarargs.ensures.text

pub returns-in-CloseAngle-clause-text : goal.returns-in-CloseAngle-clause-text
returns-in-CloseAngle-clause-text g c = rw c.in-CloseAngle.is c.write_word-in-CloseAngle.ensures.text

pub returns-in-NextAngle-clause-text : goal.returns-in-NextAngle-clause-text
returns-in-NextAngle-clause-text g c = rw c.in-NextAngle.is c.write_word-in-NextAngle.ensures.text

pub returns-in-EndAngle-clause-text : goal.returns-in-EndAngle-clause-text
returns-in-EndAngle-clause-text g c = rw c.in-EndAngle.is c.write_word-in-EndAngle.ensures.text
