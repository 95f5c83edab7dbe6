use Rattle.std.proofs.Common.{◌≡◌, ap, arith, length}
use Rattle.std.specs.List.{remove}
use Rattle.std.proofs.lemmas.List.Edits.{length-remove}
use Rattle.irtext_few.specs.Growing.{listed}
use Rattle.irtext_graph.specs.Nest.{kids, children_in}
use Rattle.irtext_graph.proofs.Arenas.{content_is_live, replaced}
use Rattle.irtext_graph.proofs.Children.{links_with}
use Rattle.irtext_graph.proofs.Relisted.{relisted, relisted_here}
use Rattle.irtext_graph.proofs.Rooms.{room_kept}
use Rattle.irtext_graph.proofs.nest.Arena+Nest+P+C+D.remove_child.Goals as goal

pub returns-clause-only : goal.returns-clause-only
returns-clause-only g c = relisted c.args.self.now c.args.p c.content_mut.result.now _ c.content_mut.ensures.value

pub returns-clause-less : goal.returns-clause-less
returns-clause-less g c =
    let x = c.content_mut.result.now in
    let k = links_with c.args.self.now c.args.p x (record x { children = c.remove.new.self }) c.content_mut.ensures.value in
    let r = content_is_live c.args.self.now c.args.p x c.content_mut.ensures.value in
    let here : length (kids c.args.self.now c.args.p) ≡ length (listed x.children) = ap (λ e. length (children_in e)) r.1 in
    let n = length-remove (listed x.children) c.args.i (omega (arith, here, c.requires.within)) in
    let m = ap length c.remove.ensures.removed in
    omega (arith, k, n, m)

pub returns-clause-here : goal.returns-clause-here
returns-clause-here g c = relisted_here c.args.self.now c.args.p c.content_mut.result.now c.remove.new.self c.content_mut.ensures.value (λ cs. remove cs c.args.i) c.remove.ensures.removed

pub returns-clause-room : goal.returns-clause-room
returns-clause-room g c =
    let x = c.content_mut.result.now in
    room_kept c.args.self.now _ c.args.p x (record x { children = c.remove.new.self }) (replaced c.args.self.now c.args.p x _ c.content_mut.ensures.value) c.remove.ensures.room
