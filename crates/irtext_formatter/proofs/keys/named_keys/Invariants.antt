use Rattle.std.proofs.Common.{◌≡◌, ◌++◌, map, drop}
use Rattle.irtext_base.specs.Format.{keys}
use Rattle.irtext_base.specs.FormatViews.{directives_of}
use Rattle.irtext_formatter.proofs.keys.named_keys.Given as goal

-- the keys so far, and those of the directives that are left
abbrev pub invariant-loop-directive : goal.invariant-loop-directive
invariant-loop-directive l = map (λ key. key.now) l.found.items ++ keys (directives_of (drop l.directive-index l.directives)) ≡ keys (directives_of l.directives)
