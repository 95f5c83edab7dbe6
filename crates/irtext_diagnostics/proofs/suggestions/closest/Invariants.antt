use Rattle.std.proofs.Common.{◌≡◌, suc, map, drop, length, option_copied, None}
use Rattle.std.specs.Str.{chars}
use Rattle.irtext_diagnostics.specs.Suggestions.{limit, nearest}
use Rattle.irtext_diagnostics.proofs.suggestions.closest.Given as goal

-- the answer is the same among the candidates that are left
abbrev pub invariant-loop-candidate : goal.invariant-loop-candidate
invariant-loop-candidate l =
    nearest l.word l.bound (option_copied l.found) (map (λ c. c.now) (drop l.candidate-index l.candidates))
    ≡ nearest l.word (suc (limit (length (chars l.word)))) None (map (λ c. c.now) l.candidates)
