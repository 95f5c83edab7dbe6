use Rattle.std.proofs.Common.{refl}
use Rattle.irtext_context.proofs.base.context.Context.dialect_at.Goals as goal

pub returns : goal.returns
returns g c = ((refl, λ w. rw (← c.self.view_is) refl), record { lends = tt; value = rw (← c.self.view_is) c.index_mut.ensures.value })
