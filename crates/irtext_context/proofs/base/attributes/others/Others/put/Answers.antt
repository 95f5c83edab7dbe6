use Rattle.irtext_context.proofs.FewEntries.{differ_after}
use Rattle.irtext_context.specs.Others.{entries_of}
use Rattle.irtext_context.proofs.base.attributes.others.Others.put.Goals as goal

pub invariant_of-self : goal.invariant_of-self
invariant_of-self g c = (
  c.put.ensures.few,
  differ_after c.put.result c.args.key c.args.attr (entries_of c.self.inside.stored) (entries_of c.put.new.stored) c.self.invariant.1 c.put.ensures.ok c.put.ensures.err,
)
