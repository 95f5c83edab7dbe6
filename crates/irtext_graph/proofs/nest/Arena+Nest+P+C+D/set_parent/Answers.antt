use Rattle.std.proofs.Common.{ap, arith, refl}
use Rattle.irtext_graph.specs.Nest.{parent_in, children_in, datum_in}
use Rattle.irtext_graph.proofs.Arenas.{replaced, same_view, places_kept}
use Rattle.irtext_graph.proofs.Children.{links_with}
use Rattle.irtext_graph.proofs.Rooms.{room_kept}
use Rattle.irtext_graph.proofs.nest.Arena+Nest+P+C+D.set_parent.Goals as goal

pub returns-clause-places : goal.returns-clause-places
returns-clause-places g c = places_kept c.args.self.now c.args.p c.content_mut.result.now _ c.content_mut.ensures.value

pub returns-clause-kids : goal.returns-clause-kids
returns-clause-kids g c = λ q. same_view children_in (replaced c.args.self.now c.args.p c.content_mut.result.now _ c.content_mut.ensures.value) (λ b. refl) q

pub returns-clause-data : goal.returns-clause-data
returns-clause-data g c = λ q. same_view datum_in (replaced c.args.self.now c.args.p c.content_mut.result.now _ c.content_mut.ensures.value) (λ b. refl) q

pub returns-clause-links : goal.returns-clause-links
returns-clause-links g c = let x = c.content_mut.result.now in let k = links_with c.args.self.now c.args.p x (record x { parent = c.args.parent }) c.content_mut.ensures.value in omega (arith, k)

pub returns-clause-others : goal.returns-clause-others
returns-clause-others g c = λ q ne. let x = c.content_mut.result.now in let r = replaced c.args.self.now c.args.p x (record x { parent = c.args.parent }) c.content_mut.ensures.value in ap parent_in (r.others q ne)

pub returns-clause-here : goal.returns-clause-here
returns-clause-here g c =
    let x = c.content_mut.result.now in
    let r = replaced c.args.self.now c.args.p x (record x { parent = c.args.parent }) c.content_mut.ensures.value in
    ap parent_in r.now

pub returns-clause-room : goal.returns-clause-room
returns-clause-room g c =
    let x = c.content_mut.result.now in
    room_kept c.args.self.now _ c.args.p x (record x { parent = c.args.parent }) (replaced c.args.self.now c.args.p x _ c.content_mut.ensures.value) (λ h. h)
