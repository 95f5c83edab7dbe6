use Rattle.std.proofs.Common.{ap, arith, length}
use Rattle.irtext_graph.specs.Content.{node_of}
use Rattle.irtext_graph.proofs.Children.{links_with}
use Rattle.irtext_graph.proofs.Relisted.{relisted, relisted_here}
use Rattle.irtext_graph.proofs.Stores.{content_same}
use Rattle.irtext_graph.proofs.nest.Arena+Nest+P+C+D.make_child_room.Goals as goal

pub returns-clause-here : goal.returns-clause-here
returns-clause-here g c = relisted_here c.args.self.now c.args.p c.content_mut.result.now c.make_room.new.self c.content_mut.ensures.value (λ cs. cs) c.make_room.ensures.same

pub returns-clause-links : goal.returns-clause-links
returns-clause-links g c =
    let x = c.content_mut.result.now in
    let k = links_with c.args.self.now c.args.p x (record x { children = c.make_room.new.self }) c.content_mut.ensures.value in
    let m = ap length c.make_room.ensures.same in
    omega (arith, k, m)

pub returns-clause-only : goal.returns-clause-only
returns-clause-only g c = relisted c.args.self.now c.args.p c.content_mut.result.now _ c.content_mut.ensures.value

pub returns-clause-same : goal.returns-clause-same
returns-clause-same g c =
    let x = c.content_mut.result.now in
    content_same (node_of (λ d. d)) c.args.self.now c.args.p x _ c.content_mut.ensures.value
    (ap (λ cs. record { parent = x.parent; children = cs; content = x.data }) c.make_room.ensures.same)
