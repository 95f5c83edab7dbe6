use Rattle.std.proofs.Common.{◌≡◌, ◌≤◌, take, count_by}
use Rattle.irtext_stream.specs.Index.{begins_character}
use Rattle.irtext_stream.proofs.index.count_characters.Given as goal

abbrev pub invariant-loop-i : goal.invariant-loop-i
invariant-loop-i l = record {
  counted : l.n ≡ count_by begins_character (take l.i l.bytes);
  low : l.n ≤ l.i;
}
