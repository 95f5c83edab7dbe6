use Rattle.std.proofs.Common.{◌≡◌}
use Rattle.irtext_diagnostics.specs.Causes.{innermost}
use Rattle.irtext_diagnostics.proofs.causes.innermost.Given as goal

-- the innermost cause is the same in what is left
abbrev pub invariant-loop-inner : goal.invariant-loop-inner
invariant-loop-inner g l = innermost l.inner ≡ innermost l.fn.cause
