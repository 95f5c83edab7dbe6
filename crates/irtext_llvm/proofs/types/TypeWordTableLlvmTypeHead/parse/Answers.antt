use Rattle.irtext_llvm.proofs.Parsed.{parsed}
use Rattle.irtext_llvm.specs.declared.types.LlvmTypeHead.TheVariants as head
use Rattle.irtext_llvm.proofs.types.TypeWordTableLlvmTypeHead.parse.Goals as goal

pub returns-in_ok-after_word-in-Fp : goal.returns-in_ok-after_word-in-Fp
returns-in_ok-after_word-in-Fp g c = rw c.in-Fp.is (parsed head.Fp c.in_ok-after_word-in-Fp.ensures)
