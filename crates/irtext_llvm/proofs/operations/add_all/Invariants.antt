use Rattle.std.proofs.Common.{◌≡◌, drop, map}
use Rattle.irtext_base.specs.declared.result.Cause.{Cause}
use Rattle.irtext_llvm.specs.Operations.{llvm_op, with_all, RefusesOne}
use Rattle.irtext_llvm.proofs.operations.add_all.Given as goal

-- registering what is left after what was registered so far gives the same as registering all at the start, and fails for the same reasons
abbrev pub invariant-loop-op : goal.invariant-loop-op
invariant-loop-op g l = record {
  left : with_all l.ctx.dialects (map llvm_op (drop l.op-index l.ops)) ≡ with_all l.fn.ctx.dialects (map llvm_op l.ops);
  rest : l.ctx ≡ record l.fn.ctx { dialects = l.ctx.dialects };
  refused : (cause : Cause g.row.A.Denot) → RefusesOne l.ctx.dialects (map llvm_op (drop l.op-index l.ops)) cause → RefusesOne l.fn.ctx.dialects (map llvm_op l.ops) cause;
}
