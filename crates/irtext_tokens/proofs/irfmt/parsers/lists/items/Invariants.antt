use Rattle.std.proofs.Common.{length}
use Rattle.irtext_tokens.specs.Lists.{Calls, Items, prepended}
use Rattle.irtext_tokens.proofs.irfmt.parsers.lists.items.Given as goal

-- the results of the calls to come are those of the calls from the beginning, with the items found so far before them
abbrev pub invariant-loop-x : goal.invariant-loop-x
invariant-loop-x g l =
    goal.F-IsAlwaysCallable g l.item
    × ((r : _) (u : _) → Items g.S.CharStream.view g.S.CharStream.at (Calls (λ r. r) g.F.FnMut) l.item l.stream r u
    → Items g.S.CharStream.view g.S.CharStream.at (Calls (λ r. r) g.F.FnMut) l.fn.item l.fn.stream (prepended l.found.items r) u)

abbrev pub decreases-loop-x : goal.decreases-loop-x
decreases-loop-x g l = length (g.S.CharStream.view l.stream).rest
