use Rattle.std.proofs.Common.{◌≡◌, ℕ, ◌+◌, ◌-◌, vec_len}
use Rattle.irtext_scopes.specs.Bindings.{head_at}
use Rattle.irtext_scopes.proofs.scopes.grow.Given as goal

abbrev pub invariant-loop-heads : goal.invariant-loop-heads
invariant-loop-heads l = (n : ℕ) → head_at l.heads.items n ≡ head_at l.initial.heads.items n

abbrev pub decreases-loop-heads : goal.decreases-loop-heads
decreases-loop-heads l = (l.name + 1) - vec_len l.heads
