use Rattle.std.proofs.Common.{◌≡◌, length}
use Rattle.std.specs.Str.{encode_utf8_all}
use Rattle.irtext_excerpt.proofs.lines.split_after.Given as goal

-- the offset is the number of bytes of the characters so far
abbrev pub invariant-loop-c : goal.invariant-loop-c
invariant-loop-c l = l.at ≡ length (encode_utf8_all l.yielded)
