use Rattle.std.proofs.Common.{◌≡◌, ◌≤◌, ℕ, None}
use Rattle.irtext_graph.specs.Graph.{IsLive}
use Rattle.irtext_graph.specs.Store.{before}
use Rattle.irtext_graph.specs.declared.object.Object.TheVariants.{TheOperation}
use Rattle.irtext_context.specs.Context.{KeepsOlder}
use Rattle.irtext_context.specs.Made.{AddsRegions}
use Rattle.irtext_checked.proofs.make.operation.add_regions.Given as goal

abbrev pub invariant-loop-region : goal.invariant-loop-region
invariant-loop-region g l = record {
  alive : IsLive l.ctx.graph (TheOperation l.op);
  adds : AddsRegions l._region l.fn.ctx l.ctx l.op;
  kept : (mark : ℕ) → mark ≤ l.fn.ctx.graph.made → before mark l.fn.ctx.graph.operations l.op ≡ None → KeepsOlder mark l.fn.ctx l.ctx;
  count : l.fn.ctx.graph.made ≤ l.ctx.graph.made;
}
