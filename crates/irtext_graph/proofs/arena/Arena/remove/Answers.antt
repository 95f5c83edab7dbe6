use Rattle.std.proofs.Common.{◌∙◌, ap, sym, set}
use Rattle.irtext_graph.specs.Arena.{get}
use Rattle.irtext_graph.proofs.Slots.{not_vacant, full_content, vacated_updates, vacated_generations, some_object}
use Rattle.irtext_graph.proofs.arena.Arena.remove.Goals.{then-p, else-p}
use Rattle.irtext_graph.proofs.arena.Arena.remove.Goals as goal

pub unreachable-requires : goal.unreachable-requires
unreachable-requires g c = not_vacant c.args.self.now c.args.p c.index_mut.result.now _ _ (c.contains.ensures.0 c.if-not-contains.false) c.index_mut.ensures.value (sym c.replace.ensures.value ∙ c.in-Vacant.is)

pub returns-clause-value : goal.returns-clause-value
returns-clause-value g c = sym (full_content c.args.self.now c.args.p c.index_mut.result.now _ _ (c.contains.ensures.0 c.if-not-contains.false) c.index_mut.ensures.value (sym c.replace.ensures.value ∙ c.in-Full.is))

pub returns-clause-stored : goal.returns-clause-stored
returns-clause-stored g c = λ live. elim c.if-p.branch [
  | then-p w ↦ ap (λ b. b.slots.items) w.self-is ∙ ap (λ s. set c.args.self.now.slots.items c.args.p.index s) c.replace.ensures.after
  | else-p w ↦ ap (λ b. b.slots.items) w.self-is ∙ ap (λ s. set c.args.self.now.slots.items c.args.p.index s) c.replace.ensures.after
]

pub returns-clause-updates : goal.returns-clause-updates
returns-clause-updates g c =
    let live = c.contains.ensures.0 c.if-not-contains.false in
    let o = some_object (get c.args.self.now c.args.p) live in
    vacated_updates c.args.self.now c.if-p.self c.args.p c.args.self.now.free o.0 o.1 (returns-clause-stored g c live)

pub returns-clause-generations : goal.returns-clause-generations
returns-clause-generations g c =
    let live = c.contains.ensures.0 c.if-not-contains.false in
    let o = some_object (get c.args.self.now c.args.p) live in
    vacated_generations c.args.self.now c.if-p.self c.args.p c.args.self.now.free o.0 o.1 (returns-clause-stored g c live)
