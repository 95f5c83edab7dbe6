use Rattle.std.proofs.Common.{◌≡◌, length, drop}
use Rattle.std.specs.Str.{chars}
use Rattle.irtext_excerpt.specs.Excerpt.{columns, shown, ending}
use Rattle.irtext_excerpt.proofs.cuts.excess.Given as goal

-- the columns of what is left, whose end is that of the whole
abbrev pub invariant-loop-c : goal.invariant-loop-c
invariant-loop-c l =
    let rest = drop l.passed (chars l.text) in
    (l.passed ≡ length l.yielded) × (l.width ≡ columns (shown rest)) × (ending (chars l.text) ≡ ending rest)
