use Rattle.std.proofs.lemmas.Result.{on_ok_weaker}
use Rattle.irtext_demo.specs.DemoDialects.{demo_operations, with_all as with_demo}
use Rattle.irtext_llvm.specs.Operations.{llvm_operations}
use Rattle.irllvm.proofs.Registered.{one_after_the_other}
use Rattle.irllvm.proofs.dialects.AllDialectsAnyTypeAnyAttr.register.Goals as goal

-- the demo dialects are registered, and then those of llvm
pub returns-clause-ok : goal.returns-clause-ok
returns-clause-ok c = on_ok_weaker c.register_llvm.result (one_after_the_other llvm_operations c.args.ctx.now.dialects c.register_demo.new.ctx.dialects c.register_llvm.new.ctx.dialects (with_demo c.args.ctx.now.dialects demo_operations) c.in_ok-register_demo.ensures.ok) c.register_llvm.ensures.ok
