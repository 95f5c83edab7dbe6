use Rattle.std.proofs.Common.{◌≡◌, drop}
use Rattle.irtext_parse_root.specs.Block.{first_reserved}
use Rattle.irtext_parse_root.proofs.block.first_reserved.Given as goal

-- what is left of the entries has the same first key
abbrev pub invariant-loop-index : goal.invariant-loop-index
invariant-loop-index g l = first_reserved (drop l.index l.entries) ≡ first_reserved l.fn.entries
