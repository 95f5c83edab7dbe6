-- The texts of the reasons why a root is not closed.
use Rattle.std.specs.Prelude.{◌++◌, ℕ, List, codes, decimal}
use Rattle.irtext_closed.specs.declared.not_closed.NotClosed.{NotClosed}
use Rattle.irtext_closed.specs.declared.not_closed.NotClosed.TheVariants.{NoOperation, InBlock, HasResults, HasOperands, HasSuccessors, NotIsolated, Placeholder, Labelled, Untyped, Operand, Successor}
use Rattle.irtext_graph.specs.declared.object.Value.TheVariants.{Result, Argument}

-- the text of a reason, in bytes; indices are counted from 0
abbrev pub reason_text : NotClosed → List ℕ
reason_text NoOperation = codes "There is no such operation"
reason_text InBlock = codes "The root is in a block"
reason_text HasResults = codes "The root has results"
reason_text HasOperands = codes "The root has operands"
reason_text HasSuccessors = codes "The root has successors"
reason_text NotIsolated = codes "The root has a region and is not isolated from above"
reason_text (Placeholder p) = codes "An operation is a placeholder"
reason_text (Labelled b) = codes "The attributes of a block have a label"
reason_text (Untyped (Result p i)) = codes "The type of result " ++ (decimal i ++ codes " of an operation is not known")
reason_text (Untyped (Argument b i)) = codes "The type of argument " ++ (decimal i ++ codes " of a block is not known")
reason_text (Operand p i) = codes "Operand " ++ (decimal i ++ codes " of an operation is not a value of its isolated scope")
reason_text (Successor p i) = codes "Successor " ++ (decimal i ++ codes " of an operation is not a block of its region")
