use Rattle.std.proofs.Common.{refl}
use Rattle.irtext_context.proofs.base.context.making.ContextMaking.make_operation.Goals as goal

pub returns-clause-kept : goal.returns-clause-kept
returns-clause-kept g c = rw (← c.self.view_is) (λ mark up. record { graph = c.make_operation.ensures.kept mark up; paths = λ i path h. h; dialects = refl })
