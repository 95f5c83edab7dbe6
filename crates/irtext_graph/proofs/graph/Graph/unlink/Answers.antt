use Rattle.irtext_graph.proofs.Views.{lives_at, unlinks_seen}
use Rattle.irtext_graph.proofs.Frames.{unlinked-keeps}
use Rattle.irtext_graph.proofs.Numbers.{moved_kept}
use Rattle.irtext_graph.proofs.graph.Graph.unlink.Goals as goal

pub unlink-requires-clause-lives : goal.unlink-requires-clause-lives
unlink-requires-clause-lives g c = lives_at c.self.inside.made c.self.inside.counters c.self.inside.objects c.args.c (rw (← c.self.view_is) at c.requires)

pub invariant_of-self : goal.invariant_of-self
invariant_of-self g c =
    let s = c.unlink.ensures in
    moved_kept c.self.inside.made c.self.inside.counters c.self.inside.log.items c.self.inside.objects c.unlink.new.self s.all_data s.forest s.places s.data c.self.invariant

pub returns-clause-unlinks : goal.returns-clause-unlinks
returns-clause-unlinks g c =
    let s = c.unlink.ensures in
    rw (← c.self.view_is) (unlinks_seen c.self.inside.made c.self.inside.counters c.self.inside.objects c.unlink.new.self c.args.c s.free s.ups s.left s.kids s.data s.places)

pub returns-clause-kept : goal.returns-clause-kept
returns-clause-kept g c = λ m nc nk. unlinked-keeps m _ _ c.args.c nc nk (returns-clause-unlinks g c)
