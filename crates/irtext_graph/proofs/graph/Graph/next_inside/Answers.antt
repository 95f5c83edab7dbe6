use Rattle.std.proofs.Common.{◌≡◌, ◌∷◌, subst, Some}
use Rattle.irtext_graph.specs.Throughout.{all_from}
use Rattle.irtext_graph.proofs.Throughout.{next_seen, found_inside, found_is_live}
use Rattle.irtext_graph.proofs.Views.{lives_at, within_at}
use Rattle.irtext_graph.proofs.graph.Graph.next_inside.Goals as goal

pub after-requires-clause-lives : goal.after-requires-clause-lives
after-requires-clause-lives g c = lives_at c.self.inside.made c.self.inside.counters c.self.inside.objects c.args.q (rw (← c.self.view_is) at c.requires.alive)

pub after-requires-clause-inside : goal.after-requires-clause-inside
after-requires-clause-inside g c = within_at c.self.inside.made c.self.inside.counters c.self.inside.objects c.args.o c.args.q (rw (← c.self.view_is) at c.requires.within)

pub returns-clause-next : goal.returns-clause-next
returns-clause-next g c = subst (λ v. all_from v c.args.o (Some c.args.q) ≡ c.args.q ∷ all_from v c.args.o c.after.result) c.self.view_is (next_seen c.self.inside.made c.self.inside.counters c.self.inside.objects c.args.o c.args.q c.after.result c.after.ensures.next)

pub returns-clause-inside : goal.returns-clause-inside
returns-clause-inside g c = rw (← c.self.view_is) (found_inside c.self.inside.made c.self.inside.counters c.self.inside.objects c.args.o c.after.result c.after.ensures.found)

pub returns-clause-there : goal.returns-clause-there
returns-clause-there g c = rw (← c.self.view_is) (found_is_live c.self.inside.made c.self.inside.counters c.self.inside.objects c.after.result c.after.ensures.lives)
