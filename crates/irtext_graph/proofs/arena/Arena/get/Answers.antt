use Rattle.irtext_graph.proofs.Slots.{found_full, found_other}
use Rattle.irtext_graph.proofs.arena.Arena.get.Goals as goal

pub returns-then-generation-p : goal.returns-then-generation-p
returns-then-generation-p g c =
    let k = c.in-Some-Full in
    found_full c.args.self.now c.args.p k.generation _ c.deref.result.now k.field-0.now c.deref.ensures.value k.ensures.lookup.3.0 k.ensures.lookup.1 k.field-0-is c.if-generation-p.true

pub returns-else-generation-p : goal.returns-else-generation-p
returns-else-generation-p g c =
    let k = c.in-Some-Full in
    found_other c.args.self.now c.args.p k.generation _ c.deref.result.now k.field-0.now c.deref.ensures.value k.ensures.lookup.3.0 k.ensures.lookup.1 k.field-0-is c.if-generation-p.false
