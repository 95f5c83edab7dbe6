use Rattle.std.proofs.Common.{◌∙◌, ap, true}
use Rattle.irtext_base.specs.Locations.{location_view}
use Rattle.irtext_base.specs.Paths.{are_known}
use Rattle.irtext_base.proofs.Feeds.{all_among}
use Rattle.irtext_base.proofs.location.paths.Paths.contain.Goals as goal

pub returns : goal.returns
returns g c =
    let seen = location_view c.args.location.now in
    ap (λ among. among.all) (c.see_sources.ensures ∙ all_among c.len.result true seen) ∙ ap (λ count. are_known count seen) c.len.ensures
