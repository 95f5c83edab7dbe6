use Rattle.std.proofs.Common.{ℕ}
use Rattle.irtext_context.specs.Context.{ContextView, KeepsOlder}
use Rattle.irtext_graph.specs.Back.{IsClosedBelow}
use Rattle.irtext_parse_locations.specs.Applied.{GivesAll, ItemsAreNewer}
use Rattle.irtext_parse_locations.proofs.applied.items_given.Given as goal

-- what is left is given after what was given, and older objects are unchanged
abbrev pub invariant-loop-entry : goal.invariant-loop-entry
invariant-loop-entry g l =
    ((new : ContextView g.row.T.Denot g.row.A.Denot) → GivesAll l.fn.once.entries l.entry-iterator.rest.items l.ctx new → GivesAll l.fn.once.entries l.fn.items.items l.fn.ctx new)
    × ((mark : ℕ) → ItemsAreNewer mark l.fn.ctx l.fn.items.items → KeepsOlder mark l.fn.ctx l.ctx × ItemsAreNewer mark l.fn.ctx l.entry-iterator.rest.items)
    × ((mark : ℕ) → IsClosedBelow mark l.fn.ctx.graph → IsClosedBelow mark l.ctx.graph)
