use Rattle.std.proofs.Common.{◌∙◌, ap, arith, length, slice_get}
use Rattle.irtext_graph.proofs.Views.{lives_at, kids_seen}
use Rattle.irtext_graph.specs.Graph.{graph_of}
use Rattle.irtext_graph.proofs.Nesting.{child_fits}
use Rattle.irtext_graph.proofs.graph.Graph.get_child.Goals as goal

pub child_at-requires-clause-lives : goal.child_at-requires-clause-lives
child_at-requires-clause-lives g c = lives_at c.self.inside.made c.self.inside.counters c.self.inside.objects c.args.o (rw (← c.self.view_is) at c.requires.alive)

pub child_at-requires-clause-within : goal.child_at-requires-clause-within
child_at-requires-clause-within g c =
    let w = rw (← c.self.view_is) at c.requires.within in
    let l = ap length (kids_seen c.self.inside.made c.self.inside.counters c.self.inside.objects c.args.o) in
    omega (arith, w, l)

pub returns-clause-child : goal.returns-clause-child
returns-clause-child g c = rw (← c.self.view_is) (ap (λ cs. slice_get cs c.args.i) (kids_seen c.self.inside.made c.self.inside.counters c.self.inside.objects c.args.o) ∙ c.child_at.ensures)

pub returns-clause-fits : goal.returns-clause-fits
returns-clause-fits g c =
    let m = c.self.inside.made in
    let v = c.self.inside.counters in
    let x = c.self.inside.objects in
    child_fits (graph_of m v x) c.args.o c.child_at.result c.args.i (ap (λ cs. slice_get cs c.args.i) (kids_seen m v x c.args.o) ∙ c.child_at.ensures)
