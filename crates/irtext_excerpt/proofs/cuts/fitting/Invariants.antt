use Rattle.std.proofs.Common.{◌≡◌, ◌++◌, length, drop, take}
use Rattle.std.specs.Str.{chars}
use Rattle.irtext_excerpt.specs.Excerpt.{beginning}
use Rattle.irtext_excerpt.proofs.cuts.fitting.Given as goal

-- the beginning that fits is what was passed, and what fits of what is left
abbrev pub invariant-loop-c : goal.invariant-loop-c
invariant-loop-c l =
    (l.passed ≡ length l.yielded) × (beginning 60 (chars l.text) ≡ take l.passed (chars l.text) ++ beginning l.room (drop l.passed (chars l.text)))
