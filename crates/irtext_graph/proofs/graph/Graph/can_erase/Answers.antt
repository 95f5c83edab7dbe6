use Rattle.irtext_graph.proofs.Views.{lives_at}
use Rattle.irtext_graph.proofs.Erasures.{can_seen, can_at}
use Rattle.irtext_graph.proofs.graph.Graph.can_erase.Goals as goal

pub can_erase-requires-clause-lives : goal.can_erase-requires-clause-lives
can_erase-requires-clause-lives g c = lives_at c.self.inside.made c.self.inside.counters c.self.inside.objects c.args.o (rw (← c.self.view_is) at c.requires)

pub returns : goal.returns
returns g c =
    let m = c.self.inside.made in
    let v = c.self.inside.counters in
    let x = c.self.inside.objects in
    let e = c.can_erase.ensures in
    rw (← c.self.view_is) (λ t. can_seen m v x c.args.o c.self.invariant.sound (e.0 t), λ can. e.1 (can_at m v x c.args.o can))
