use Rattle.std.proofs.Common.{◌∙◌, ap, refl, Some}
use Rattle.irtext_graph.proofs.Slots.{slot_is, no_slot, exhausted, none_to_use}
use Rattle.irtext_graph.proofs.arena.Arena.reusable.Goals as goal

pub returns-then-last-clause-slot : goal.returns-then-last-clause-slot
returns-then-last-clause-slot g c =
    let k = c.in-Some-Vacant in
    slot_is c.args.self.now.slots.items c.deref.result.now c.args.self.now.free k.field-0.now c.deref.ensures.value k.ensures.lookup.3.0 k.ensures.lookup.1 ∙ ap Some k.field-0-is

pub returns-else-last-clause-none : goal.returns-else-last-clause-none
returns-else-last-clause-none g c =
    let k = c.in-Some-Vacant in
    let none = exhausted c.args.self.now k.last k.next
    (slot_is c.args.self.now.slots.items c.deref.result.now c.args.self.now.free k.field-0.now c.deref.ensures.value k.ensures.lookup.3.0 k.ensures.lookup.1 ∙ ap Some k.field-0-is)
    c.if-last.false in
    (λ _. none, λ _. refl)

pub returns-in_default-2-clause-none : goal.returns-in_default-2-clause-none
returns-in_default-2-clause-none g c =
    let k = rw c.in_default.is at c.get.ensures.lookup in
    let none = none_to_use c.args.self.now (no_slot c.args.self.now.slots.items c.deref.result.now c.args.self.now.free c.deref.ensures.value k.3) in
    (λ _. none, λ _. refl)
