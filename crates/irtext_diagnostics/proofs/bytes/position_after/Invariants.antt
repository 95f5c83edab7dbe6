use Rattle.std.proofs.Common.{◌≡◌, ◌-◌, ◌^◌, min, not, length, reverse}
use Rattle.std.specs.Prelude.{count_by}
use Rattle.std.specs.List.{take_while}
use Rattle.irtext_stream.specs.Text.{is_newline}
use Rattle.irtext_diagnostics.proofs.bytes.position_after.Given as goal

-- the numbers of newlines so far and of characters since the last one, as far as they can be counted
abbrev pub invariant-loop-c : goal.invariant-loop-c
invariant-loop-c l =
    (l.lines ≡ min (count_by is_newline l.yielded) (2 ^ 64 - 1))
    × (l.characters ≡ min (length (take_while (λ c. not (is_newline c)) (reverse l.yielded))) (2 ^ 64 - 1))
