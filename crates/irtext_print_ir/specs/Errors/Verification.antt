-- For callers: the texts of verification errors, in bytes.
use Rattle.std.specs.Prelude.{List, ℕ, ◌++◌, codes, string_bytes}
use Rattle.irtext_print_ir.specs.declared.ir.verify.BasicBlockVerifyErr as block
use Rattle.irtext_print_ir.specs.declared.ir.verify.BasicBlockVerifyErr.TheVariants as of_block
use Rattle.irtext_print_ir.specs.declared.ir.verify.DefUseVerifyErr as use_of
use Rattle.irtext_print_ir.specs.declared.ir.verify.DefUseVerifyErr.TheVariants as of_use

-- the text of the error for a block
abbrev pub block_text : block.BasicBlockVerifyErr → List ℕ
block_text (of_block.MissingTerminator name) = codes "Basic block \"" ++ (string_bytes name ++ codes "\" is missing a terminator")
block_text (of_block.TerminatorNotLast name) = codes "Basic block \"" ++ (string_bytes name ++ codes "\" has a terminator that is not the last operation in the block")
block_text (of_block.NoParent name) = codes "Basic block \"" ++ (string_bytes name ++ codes "\" has no parent operation")

-- the text of the error for a use of a value
abbrev pub use_text : use_of.DefUseVerifyErr → List ℕ
use_text of_use.OperandNotUseOfDef = codes "Operand is not a use of its def"
use_text (of_use.UseNotDominatedByDef name) = codes "Use of " ++ (name ++ codes " not dominated by definition")
