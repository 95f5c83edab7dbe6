use Rattle.std.proofs.Common.{◌≡◌}
use Rattle.irtext_base.specs.Locations.{location_view}
use Rattle.irtext_base.specs.Walks.{Reached, taken, whole, work}
use Rattle.irtext_base.proofs.location.walk.Walk.copy.Given as goal

-- what the turn makes, inside the open frames, is the copy of the whole
abbrev pub invariant-loop-turn : goal.invariant-loop-turn
invariant-loop-turn g l =
    let rule = g.M.NewSources.rule l.self.sources.now in
    record {
      on : whole rule l.frames.items l.turn l.state ≡ taken rule l.fn.state (location_view l.location);
      reached : Reached rule l.fn.state l.state;
    }

abbrev pub decreases-loop-turn : goal.decreases-loop-turn
decreases-loop-turn g l = work l.frames.items l.turn
