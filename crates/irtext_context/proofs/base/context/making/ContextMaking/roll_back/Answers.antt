use Rattle.std.proofs.Common.{refl}
use Rattle.irtext_context.proofs.base.context.making.ContextMaking.roll_back.Goals as goal

pub returns-clause-kept : goal.returns-clause-kept
returns-clause-kept g c = rw (← c.self.view_is) (λ m up. record { graph = c.roll_back.ensures.kept m up; paths = λ i path h. h; dialects = refl })
