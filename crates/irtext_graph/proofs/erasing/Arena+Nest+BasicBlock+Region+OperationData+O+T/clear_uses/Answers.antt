use Rattle.std.proofs.Common.{◌∙◌, ap, slice_get, refl}
use Rattle.irtext_graph.specs.Uses.{operand_in, successor_in, result_in}
use Rattle.irtext_graph.proofs.Arenas.{places_kept, replaced, same_view}
use Rattle.irtext_graph.specs.Content.{operation_content, node_of}
use Rattle.irtext_graph.specs.Used.{without_uses_in}
use Rattle.irtext_graph.proofs.Stores.{content_edits}
use Rattle.irtext_graph.proofs.erasing.Arena+Nest+BasicBlock+Region+OperationData+O+T.clear_uses.Goals as goal

pub returns-clause-edits : goal.returns-clause-edits
returns-clause-edits g c =
    let x = c.content_mut-node.result.now in
    content_edits (node_of operation_content) without_uses_in c.args.self.now c.args.p x _ c.content_mut-node.ensures.value
    (rw (c.clear.ensures, c.clear-2.ensures) refl)

pub returns-clause-others : goal.returns-clause-others
returns-clause-others g c = λ q ne. let x = c.content_mut-node.result.now in let r = replaced c.args.self.now c.args.p x (record x { «data» = record x.data { operands = c.clear.new.self; successors = c.clear-2.new.self } }) c.content_mut-node.ensures.value in r.others q ne

pub returns-clause-results : goal.returns-clause-results
returns-clause-results g c = λ q i. same_view (λ s. result_in s i) (replaced c.args.self.now c.args.p c.content_mut-node.result.now _ c.content_mut-node.ensures.value) (λ b. refl) q

pub returns-clause-operands : goal.returns-clause-operands
returns-clause-operands g c = λ i.
    let x = c.content_mut-node.result.now in
    let r = replaced c.args.self.now c.args.p x (record x { «data» = record x.data { operands = c.clear.new.self; successors = c.clear-2.new.self } }) c.content_mut-node.ensures.value in
    ap (λ s. operand_in s i) r.now ∙ ap (λ us. slice_get us i) c.clear.ensures

pub returns-clause-successors : goal.returns-clause-successors
returns-clause-successors g c = λ i.
    let x = c.content_mut-node.result.now in
    let r = replaced c.args.self.now c.args.p x (record x { «data» = record x.data { operands = c.clear.new.self; successors = c.clear-2.new.self } }) c.content_mut-node.ensures.value in
    ap (λ s. successor_in s i) r.now ∙ ap (λ us. slice_get us i) c.clear-2.ensures

pub returns-clause-places : goal.returns-clause-places
returns-clause-places g c = places_kept c.args.self.now c.args.p c.content_mut-node.result.now _ c.content_mut-node.ensures.value
