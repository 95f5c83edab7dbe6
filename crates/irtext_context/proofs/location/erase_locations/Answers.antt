use Rattle.std.proofs.Common.{refl}
use Rattle.irtext_context.proofs.Locations.{erased_alone, erased-keeps}
use Rattle.irtext_context.proofs.location.erase_locations.Goals as goal

pub returns-clause-erased : goal.returns-clause-erased
returns-clause-erased g c = rw (← c.ctx.view_is) (record { graph = c.erase_inside.ensures; paths = refl; dialects = refl })

pub returns-clause-alone : goal.returns-clause-alone
returns-clause-alone g c =
    rw (← c.ctx.view_is) (λ none. erased_alone _ _ c.args.op c.keeps_nesting.ensures.forest (record { graph = c.erase_inside.ensures; paths = refl; dialects = refl }) none)

pub returns-clause-kept : goal.returns-clause-kept
returns-clause-kept g c =
    rw (← c.ctx.view_is) (λ mark young. erased-keeps _ _ c.args.op c.keeps_nesting.ensures.forest (record { graph = c.erase_inside.ensures; paths = refl; dialects = refl }) mark young)
