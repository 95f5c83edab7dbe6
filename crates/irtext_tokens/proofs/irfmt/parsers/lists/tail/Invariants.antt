use Rattle.std.proofs.Common.{length}
use Rattle.irtext_tokens.specs.Lists.{Calls, TailAfter}
use Rattle.irtext_tokens.proofs.irfmt.parsers.lists.tail.Given as goal

-- the results of what follows are those of what follows from the beginning, with the items found so far before them
abbrev pub invariant-loop-sep : goal.invariant-loop-sep
invariant-loop-sep g l =
    goal.F-IsAlwaysCallable g l.item
    × ((q : _) (u : _) → TailAfter g.S.CharStream.view g.S.CharStream.at (Calls (λ r. r) g.F.FnMut) l.sep l.found.items l.item l.stream q u
    → TailAfter g.S.CharStream.view g.S.CharStream.at (Calls (λ r. r) g.F.FnMut) l.sep l.fn.found.items l.fn.item l.fn.stream q u)

abbrev pub decreases-loop-sep : goal.decreases-loop-sep
decreases-loop-sep g l = length (g.S.CharStream.view l.stream).rest
