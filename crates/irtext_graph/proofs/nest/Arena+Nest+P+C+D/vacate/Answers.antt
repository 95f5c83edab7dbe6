use Rattle.std.proofs.Common.{◌≡◌, ◌∙◌, length, ap, arith, refl, inl, inr, sum_by}
use Rattle.irtext_graph.specs.Arena.{get}
use Rattle.irtext_graph.specs.Nest.{links, size}
use Rattle.irtext_graph.proofs.Nests.{seen}
use Rattle.irtext_graph.specs.declared.arena.Slot.TheVariants.{Vacant}
use Rattle.irtext_graph.proofs.Counts.{entry-low, sum-nothing}
use Rattle.std.proofs.lemmas.List.{length-set}
use Rattle.irtext_graph.proofs.Kept.{shed_one}
use Rattle.irtext_graph.proofs.nest.Arena+Nest+P+C+D.vacate.Goals as goal

pub returns-clause-links : goal.returns-clause-links
returns-clause-links g c =
    let a = c.args.self.now in
    elim (seen (get a c.args.p)) [
      | inl none ↦ let e : links c.remove.new.self ≡ links a = ap (sum_by size) (c.remove.ensures.same none) in omega (arith, e)
      | inr (x, some) ↦
          let e = ap (sum_by size) (c.remove.ensures.stored (rw some refl)) in
          let k = sum-nothing size a.slots.items c.args.p.index (Vacant c.args.p.generation a.free) (entry-low a.slots.items c.args.p.index c.args.p.generation (rw some refl)) refl in
          omega (arith, e, k)
    ]

pub returns-clause-sheds : goal.returns-clause-sheds
returns-clause-sheds g c =
    let a = c.args.self.now in
    let b = c.remove.new.self in
    let u = c.remove.ensures in
    let as_many : length b.slots.items ≡ length a.slots.items = elim (seen (get a c.args.p)) [
      | inl none ↦ ap length (u.same none)
      | inr (x, some) ↦ ap length (u.stored (rw some refl)) ∙ length-set a.slots.items c.args.p.index (Vacant c.args.p.generation a.free)
    ] in
    shed_one a b c.args.p u.generations as_many u.updates.changed u.updates.others
