use Rattle.std.proofs.Common.{subst, sym}
use Rattle.irtext_interner.specs.Interned.{texts_of, AreDistinct}
use Rattle.irtext_interner.proofs.Numbers.{distinct_first}
use Rattle.irtext_interner.proofs.Interner.truncate.Goals as goal

pub invariant_of-self : goal.invariant_of-self
invariant_of-self c = subst (λ texts. AreDistinct texts) (sym c.truncate.ensures.keys) (distinct_first c.args.count (texts_of c.self.inside.texts) c.self.invariant)
