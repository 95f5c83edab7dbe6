use Rattle.std.proofs.Common.{◌≡◌, ◌∙◌, sym, ap, refl, Some, slice_get, length, IsSome, option_map, subst, arith}
use Rattle.std.proofs.lemmas.Option.{slice_get_read}
use Rattle.irtext_graph.specs.Arena.{held, content, found}
use Rattle.irtext_graph.specs.Lending.{with_content_of}
use Rattle.irtext_graph.proofs.Arenas.{within, held_found}
use Rattle.irtext_graph.proofs.arena.Arena.content_mut.Goals as goal

pub index_mut-requires : goal.index_mut-requires
index_mut-requires g c = omega (arith, within c.args.self.now.slots.items c.args.p.index c.args.p.generation c.requires, c.args.self.now.slots.ok.0)

pub content_mut-requires : goal.content_mut-requires
content_mut-requires g c =
    let a = c.args.self.now in
    let e : slice_get a.slots.items c.args.p.index ≡ Some c.index_mut.result.now =
    slice_get_read a.slots.items (length a.slots.items) c.args.p.index c.index_mut.result.now refl (within a.slots.items c.args.p.index c.args.p.generation c.requires) c.index_mut.ensures.value in
    let live : IsSome (content c.index_mut.result.now c.args.p.generation) = subst (λ s. IsSome (found s c.args.p.generation)) e c.requires in
    subst (λ o. IsSome o) (held_found c.index_mut.result.now c.args.p.generation live) live

pub returns : goal.returns
returns g c =
    let a = c.args.self.now in
    let i = c.args.p.index in
    let e : slice_get a.slots.items i ≡ Some c.index_mut.result.now =
    slice_get_read a.slots.items (length a.slots.items) i c.index_mut.result.now refl (within a.slots.items i c.args.p.generation c.requires) c.index_mut.ensures.value in
    let live : IsSome (content c.index_mut.result.now c.args.p.generation) = subst (λ s. IsSome (found s c.args.p.generation)) e c.requires in
    let here : found (slice_get a.slots.items i) c.args.p.generation ≡ held c.index_mut.result.now =
    ap (λ s. found s c.args.p.generation) e ∙ held_found c.index_mut.result.now c.args.p.generation live in (
      (refl, λ w. sym (ap (λ s. with_content_of s a i w) e)),
      record {
        lends = tt;
        value = ap (option_map (λ o. o.content)) here ∙ c.content_mut.ensures.value;
      },
    )
