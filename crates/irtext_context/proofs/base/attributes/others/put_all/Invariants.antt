use Rattle.std.proofs.Common.{◌≡◌, ◌+◌, ◌≤◌, length}
use Rattle.std.specs.Str.{bytes_eq}
use Rattle.indexmap.specs.IndexMap.{insert_all, spare}
use Rattle.irtext_context.proofs.base.attributes.others.put_all.Given as goal

-- what is left, put in, makes the same as all of it did at first, and there is as much less room as was put in
abbrev pub invariant-loop-key : goal.invariant-loop-key
invariant-loop-key g l =
    (insert_all bytes_eq l.map.entries l.key-iterator.rest.items ≡ insert_all bytes_eq l.fn.map.entries l.fn.entries.items)
    × (spare l.fn.map + length l.key-iterator.rest.items ≤ spare l.map + length l.fn.entries.items)
