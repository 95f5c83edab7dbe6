use Rattle.std.proofs.Common.{◌∙◌, sym, ap, length, arith}
use Rattle.irtext_graph.specs.Graph.{graph_of}
use Rattle.irtext_graph.proofs.Views.{lives_at, can_at, kids_seen, refused_seen}
use Rattle.irtext_graph.proofs.Inserting.{inserted_what, inserts_seen, appends_keeps, inserts_last}
use Rattle.irtext_graph.proofs.Numbers.{moved_kept}
use Rattle.irtext_graph.proofs.graph.Graph.insert_at_back.Goals as goal

pub insert_at-requires-clause-holder : goal.insert_at-requires-clause-holder
insert_at-requires-clause-holder g c = lives_at c.self.inside.made c.self.inside.counters c.self.inside.objects c.args.k (rw (← c.self.view_is) at c.requires.holder)

pub insert_at-requires-clause-lives : goal.insert_at-requires-clause-lives
insert_at-requires-clause-lives g c = lives_at c.self.inside.made c.self.inside.counters c.self.inside.objects c.args.c (rw (← c.self.view_is) at c.requires.alive)

pub insert_at-requires-clause-can : goal.insert_at-requires-clause-can
insert_at-requires-clause-can g c = can_at c.self.inside.made c.self.inside.counters c.self.inside.objects c.args.k c.args.c (rw (← c.self.view_is) at c.requires.can)

pub child_count-count-requires : goal.child_count-count-requires
child_count-count-requires g c = lives_at c.self.inside.made c.self.inside.counters c.self.inside.objects c.args.k (rw (← c.self.view_is) at c.requires.holder)

pub insert_at-requires-clause-within : goal.insert_at-requires-clause-within
insert_at-requires-clause-within g c = let e = c.child_count-count.ensures in omega (arith, e)

pub invariant_of-self : goal.invariant_of-self
invariant_of-self g c =
    let s = c.insert_at.ensures in
    moved_kept c.self.inside.made c.self.inside.counters c.self.inside.log.items c.self.inside.objects c.insert_at.new.self s.«data» s.forest s.places (inserted_what c.self.inside.objects c.insert_at.new.self c.args.k c.args.c c.child_count-count.result c.insert_at.result s.ok s.err) c.self.invariant

pub returns-clause-ok : goal.returns-clause-ok
returns-clause-ok g c =
    let x = c.self.inside.objects in
    let m = c.self.inside.made in
    let v = c.self.inside.counters in
    let y = c.insert_at.new.self in
    let last = c.child_count-count.ensures ∙ ap length (sym (kids_seen m v x c.args.k)) in
    rw (← c.self.view_is) (inserts_last (graph_of m v x) (graph_of m v y) c.args.k c.args.c c.child_count-count.result last c.insert_at.result (inserts_seen m v x y c.args.k c.args.c c.child_count-count.result c.insert_at.result c.insert_at.ensures.places c.insert_at.ensures.ok))

pub returns-clause-err : goal.returns-clause-err
returns-clause-err g c = rw (← c.self.view_is) (refused_seen c.self.inside.made c.self.inside.counters c.self.inside.objects c.insert_at.new.self c.insert_at.result c.insert_at.ensures.refused)

pub returns-clause-kept : goal.returns-clause-kept
returns-clause-kept g c = λ m nk nc. appends_keeps m _ _ c.args.k c.args.c nk nc c.insert_at.result (returns-clause-ok g c) (returns-clause-err g c)
