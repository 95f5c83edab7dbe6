-- The next root can be parsed.
use Rattle.std.proofs.Common.{◌≡◌}
use Rattle.irtext_formatter.specs.Stands.{IsReady}
use Rattle.irtext_tool.proofs.stats.add_roots.Given as goal

abbrev pub invariant-loop-turn : goal.invariant-loop-turn
invariant-loop-turn g l = (l.roots.stream.state.ctx.ghost_name ≡ l.fn.roots.stream.state.ctx.ghost_name) × IsReady l.roots
