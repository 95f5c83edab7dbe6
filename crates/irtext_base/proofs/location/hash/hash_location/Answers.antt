use Rattle.std.proofs.Common.{◌∙◌}
use Rattle.irtext_base.specs.Locations.{location_view}
use Rattle.irtext_base.proofs.Feeds.{all_hashed}
use Rattle.irtext_base.proofs.location.hash.hash_location.Goals as goal

pub returns : goal.returns
returns g c =
    c.visit.ensures ∙ all_hashed g.H.Hasher.write g.A.Hash.hash_input c.args.paths.now c.args.state.now (location_view c.args.location.now)
