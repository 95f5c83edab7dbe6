use Rattle.std.proofs.Common.{◌≡◌, drop, map}
use Rattle.irtext_base.specs.declared.result.Cause.{Cause}
use Rattle.irtext_demo.specs.DemoDialects.{demo_op, with_all, RefusesOne}
use Rattle.irtext_demo.proofs.dialects.add_all.Given as goal

-- registering what is left after what was registered so far gives the same as registering all at the start, and fails for the same reasons
abbrev pub invariant-loop-demo : goal.invariant-loop-demo
invariant-loop-demo g l = record {
  left : with_all l.ctx.dialects (map demo_op (drop l.demo-index l.demos)) ≡ with_all l.fn.ctx.dialects (map demo_op l.demos);
  rest : l.ctx ≡ record l.fn.ctx { dialects = l.ctx.dialects };
  refused : (cause : Cause g.row.A.Denot) → RefusesOne l.ctx.dialects (map demo_op (drop l.demo-index l.demos)) cause → RefusesOne l.fn.ctx.dialects (map demo_op l.demos) cause;
}
