use Rattle.irtext_examples.specs.Pass.{ChangesAttributes}
use Rattle.irtext_examples.proofs.pass.double_all.Given as goal

abbrev pub invariant-loop-op : goal.invariant-loop-op
invariant-loop-op l = ChangesAttributes l.fn.ctx l.ctx
