use Rattle.std.proofs.Common.{◌∙◌, ap, sym, Some}
use Rattle.irtext_graph.specs.Places.{pointer_in}
use Rattle.irtext_graph.proofs.Slots.{slot_is, no_slot}
use Rattle.irtext_graph.proofs.arena.Arena.pointer_at.Goals as goal

pub returns-in-Some-Full : goal.returns-in-Some-Full
returns-in-Some-Full g c =
    let k = c.in-Some-Full in
    sym (ap (λ s. pointer_in c.args.index s)
    (slot_is c.args.self.now.slots.items c.deref.result.now c.args.index k.field-0.now c.deref.ensures.value k.ensures.lookup.3.0 k.ensures.lookup.1 ∙ ap Some k.field-0-is))

pub returns-in_default-2 : goal.returns-in_default-2
returns-in_default-2 g c =
    let k = rw c.in_default.is at c.get.ensures.lookup in
    sym (ap (λ s. pointer_in c.args.index s) (no_slot c.args.self.now.slots.items c.deref.result.now c.args.index c.deref.ensures.value k.3))
