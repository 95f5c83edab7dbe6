use Rattle.std.proofs.Common.{◌∷◌, replicate}
use Rattle.std.specs.Fmt.{HasWritten, IsPlainFormatter}
use Rattle.irtext_print_ir.proofs.printable.indented.IndentedNlDisplay.fmt.Given as goal

-- a newline and as many spaces as columns
abbrev pub invariant-loop-column : goal.invariant-loop-column
invariant-loop-column g l = IsPlainFormatter l.fn.f → HasWritten g.W.Write.write_str_gives l.fn.f (10 ∷ replicate l._column 32) l.f
