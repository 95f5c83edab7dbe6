use Rattle.std.proofs.Common.{◌∙◌}
use Rattle.irtext_base.specs.Locations.{location_view}
use Rattle.irtext_base.proofs.Feeds.{all_fed}
use Rattle.irtext_base.proofs.location.fed.feed.Goals as goal

pub returns : goal.returns
returns g c =
    c.visit.ensures ∙ all_fed g.H.Hasher.write g.A.Hash.hash_input c.args.state.now (location_view c.args.location.now)
