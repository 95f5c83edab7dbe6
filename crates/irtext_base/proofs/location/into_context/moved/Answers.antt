use Rattle.std.proofs.Common.{◌∙◌, ap₂, length}
use Rattle.irtext_base.specs.Locations.{location_view}
use Rattle.irtext_base.specs.Paths.{are_known, written_with}
use Rattle.irtext_base.proofs.Moves.{under_known, under_written}
use Rattle.irtext_base.proofs.location.into_context.moved.Goals as goal

pub returns-in-Ok-clause-known : goal.returns-in-Ok-clause-known
returns-in-Ok-clause-known g c =
    let e = c.in-Ok.ensures in
    ap₂ (λ paths l. are_known (length paths) l) e.kept e.ok ∙ under_known c.args.to.now (written_with c.args.from.now (location_view c.args.location.now))

pub returns-in-Ok-clause-text : goal.returns-in-Ok-clause-text
returns-in-Ok-clause-text g c =
    let e = c.in-Ok.ensures in
    ap₂ written_with e.kept e.ok ∙ under_written c.args.to.now (written_with c.args.from.now (location_view c.args.location.now))
