use Rattle.std.proofs.Common.{◌≡◌, ◌∷◌, ◌++◌, ◌+◌, ◌*◌, ◌%◌, replicate, string_bytes}
use Rattle.irtext_print.proofs.printable.fmt_newline.Given as goal

-- the newline, the spaces that fill no block, and the blocks so far
abbrev pub invariant-loop-block : goal.invariant-loop-block
invariant-loop-block l = string_bytes l.f ≡ string_bytes l.fn.f ++ 10 ∷ replicate (l.fn.indent % 256 + 256 * l._block) 32
