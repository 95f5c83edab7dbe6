use Rattle.std.proofs.Common.{◌∷◌, ap, rules}
use Rattle.std.proofs.Output.{has_written_append, has_written_of_eq}
use Rattle.std.proofs.lemmas.List.{replicate_more}
use Rattle.irtext_print_ir.proofs.printable.indented.IndentedNlDisplay.fmt.Goals as goal

pub loop-column-preserved : goal.loop-column-preserved
loop-column-preserved g c = λ plain. has_written_of_eq _ _ _ _ _ (ap (λ z. 10 ∷ z) (replicate_more c.loop-column._column 32)) (has_written_append _ _ _ _ _ _ (c.loop-column.invariant plain) (search rules))
