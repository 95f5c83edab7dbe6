use Rattle.std.proofs.Common.{◌≤◌, sym, ap, length, subst}
use Rattle.irtext_graph.specs.Edits.{without}
use Rattle.irtext_graph.proofs.Views.{lives_at, within_seen, kids_seen, refused_seen}
use Rattle.irtext_graph.proofs.Moving.{moves_what, moves_seen, moves_keeps}
use Rattle.irtext_graph.proofs.Nesting.{forest_seen}
use Rattle.irtext_graph.proofs.Numbers.{moved_kept}
use Rattle.irtext_graph.proofs.graph.Graph.move_to.Goals as goal

pub move_to-requires-clause-holder : goal.move_to-requires-clause-holder
move_to-requires-clause-holder g c = lives_at c.self.inside.made c.self.inside.counters c.self.inside.objects c.args.k (rw (← c.self.view_is) at c.requires.holder)

pub move_to-requires-clause-lives : goal.move_to-requires-clause-lives
move_to-requires-clause-lives g c = lives_at c.self.inside.made c.self.inside.counters c.self.inside.objects c.args.c (rw (← c.self.view_is) at c.requires.alive)

pub move_to-requires-clause-apart : goal.move_to-requires-clause-apart
move_to-requires-clause-apart g c = λ w. c.requires.apart (rw (← c.self.view_is) (within_seen c.self.inside.made c.self.inside.counters c.self.inside.objects c.args.c c.args.k w))

pub move_to-requires-clause-within : goal.move_to-requires-clause-within
move_to-requires-clause-within g c = subst (λ xs. c.args.i ≤ length (without c.args.c xs)) (kids_seen c.self.inside.made c.self.inside.counters c.self.inside.objects c.args.k) (rw (← c.self.view_is) at c.requires.within)

pub invariant_of-self : goal.invariant_of-self
invariant_of-self g c =
    let s = c.move_to.ensures in
    moved_kept c.self.inside.made c.self.inside.counters c.self.inside.log.items c.self.inside.objects c.move_to.new.self s.«data» s.forest s.places (moves_what c.self.inside.objects c.move_to.new.self c.args.k c.args.c c.args.i c.move_to.result s.ok s.err) c.self.invariant

pub returns-clause-ok : goal.returns-clause-ok
returns-clause-ok g c = rw (← c.self.view_is) (moves_seen c.self.inside.made c.self.inside.counters c.self.inside.objects c.move_to.new.self c.args.k c.args.c c.args.i c.move_to.result c.move_to.ensures.places c.move_to.ensures.ok)

pub returns-clause-err : goal.returns-clause-err
returns-clause-err g c = rw (← c.self.view_is) (refused_seen c.self.inside.made c.self.inside.counters c.self.inside.objects c.move_to.new.self c.move_to.result c.move_to.ensures.refused)

pub returns-clause-kept : goal.returns-clause-kept
returns-clause-kept g c = λ m nk nc np.
    moves_keeps m _ _ c.args.k c.args.c c.args.i (rw (← c.self.view_is) (forest_seen c.self.inside.made c.self.inside.counters c.self.inside.objects c.self.invariant.sound.forest)) nk nc np c.move_to.result (returns-clause-ok g c) (returns-clause-err g c)
