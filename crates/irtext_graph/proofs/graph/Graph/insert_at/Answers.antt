use Rattle.irtext_graph.proofs.Views.{lives_at, can_at, kids_seen, refused_seen}
use Rattle.irtext_graph.proofs.Inserting.{inserted_what, inserts_seen, inserts_keeps}
use Rattle.irtext_graph.proofs.Numbers.{moved_kept}
use Rattle.irtext_graph.proofs.graph.Graph.insert_at.Goals as goal

pub insert_at-requires-clause-holder : goal.insert_at-requires-clause-holder
insert_at-requires-clause-holder g c = lives_at c.self.inside.made c.self.inside.counters c.self.inside.objects c.args.k (rw (← c.self.view_is) at c.requires.holder)

pub insert_at-requires-clause-lives : goal.insert_at-requires-clause-lives
insert_at-requires-clause-lives g c = lives_at c.self.inside.made c.self.inside.counters c.self.inside.objects c.args.c (rw (← c.self.view_is) at c.requires.alive)

pub insert_at-requires-clause-can : goal.insert_at-requires-clause-can
insert_at-requires-clause-can g c = can_at c.self.inside.made c.self.inside.counters c.self.inside.objects c.args.k c.args.c (rw (← c.self.view_is) at c.requires.can)

pub insert_at-requires-clause-within : goal.insert_at-requires-clause-within
insert_at-requires-clause-within g c = rw (← kids_seen c.self.inside.made c.self.inside.counters c.self.inside.objects c.args.k) (rw (← c.self.view_is) at c.requires.within)

pub invariant_of-self : goal.invariant_of-self
invariant_of-self g c =
    let s = c.insert_at.ensures in
    moved_kept c.self.inside.made c.self.inside.counters c.self.inside.log.items c.self.inside.objects c.insert_at.new.self s.«data» s.forest s.places (inserted_what c.self.inside.objects c.insert_at.new.self c.args.k c.args.c c.args.i c.insert_at.result s.ok s.err) c.self.invariant

pub returns-clause-ok : goal.returns-clause-ok
returns-clause-ok g c = rw (← c.self.view_is) (inserts_seen c.self.inside.made c.self.inside.counters c.self.inside.objects c.insert_at.new.self c.args.k c.args.c c.args.i c.insert_at.result c.insert_at.ensures.places c.insert_at.ensures.ok)

pub returns-clause-err : goal.returns-clause-err
returns-clause-err g c = rw (← c.self.view_is) (refused_seen c.self.inside.made c.self.inside.counters c.self.inside.objects c.insert_at.new.self c.insert_at.result c.insert_at.ensures.refused)

pub returns-clause-kept : goal.returns-clause-kept
returns-clause-kept g c = λ m nk nc. inserts_keeps m _ _ c.args.k c.args.c c.args.i nk nc c.insert_at.result (returns-clause-ok g c) (returns-clause-err g c)
