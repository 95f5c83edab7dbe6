use Rattle.std.proofs.Common.{◌≡◌, ◌≤◌, ◌<◌, ◌-◌, ◌*◌, ℕ, suc, length, get_or, take, count_by}
use Rattle.irtext_stream.specs.Index.{begins_character}
use Rattle.irtext_stream.proofs.index.block_counts.Given as goal

abbrev pub invariant-loop-at : goal.invariant-loop-at
invariant-loop-at l = record {
  so_far : l.at ≡ 512 * length l.blocks.items;
  within : l.at ≤ length l.bytes;
  counted : l.count ≡ count_by begins_character (take l.at l.bytes);
  each : (k : ℕ) → k < length l.blocks.items → get_or l.blocks.items k 0 ≡ count_by begins_character (take (512 * suc k) l.bytes);
}

abbrev pub decreases-loop-at : goal.decreases-loop-at
decreases-loop-at l = length l.bytes - l.at
