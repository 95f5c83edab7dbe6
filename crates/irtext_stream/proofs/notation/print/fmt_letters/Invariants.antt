use Rattle.std.proofs.Common.{◌≡◌, ℕ, List, ◌++◌, flat_map}
use Rattle.std.specs.Fmt.{HasWritten, IsPlainFormatter}
use Rattle.std.specs.Str.{chars, encode_utf8_all}
use Rattle.irtext_stream.specs.NotationPieces.{spelled}
use Rattle.irtext_stream.proofs.notation.print.fmt_letters.Given as goal

-- what was written so far, and the characters that are left
abbrev pub invariant-loop-c : goal.invariant-loop-c
invariant-loop-c g l =
    (goal.iterator-loop-c g).can_next l.c-iterator ×
    (goal.iterator-loop-c g).is_finite l.c-iterator ×
    (IsPlainFormatter l.fn.f → (done : List ℕ) × (left : List ℕ) × (encode_utf8_all left ≡ l.c-iterator.rest.now) × HasWritten g.W.Write.write_str_gives l.fn.f done l.f
    × (done ++ encode_utf8_all (flat_map spelled left) ≡ encode_utf8_all (flat_map spelled (chars l.fn.text))))
