use Rattle.std.proofs.Common.{◌++◌, ◌∷◌, [], ap}
use Rattle.irtext_graph.specs.Content.{operation_content, node_of}
use Rattle.irtext_graph.specs.Regions.{with_child}
use Rattle.irtext_graph.proofs.Relisted.{relisted, relisted_here}
use Rattle.irtext_graph.proofs.Stores.{content_edits}
use Rattle.irtext_graph.proofs.making.Arena+Nest+BasicBlock+Region+OperationData+O+T.push_region.Goals as goal

pub returns-clause-edits : goal.returns-clause-edits
returns-clause-edits g c =
    let x = c.content_mut.result.now in
    content_edits (node_of operation_content) (with_child c.args.r) c.args.self.now c.args.p x _ c.content_mut.ensures.value
    (ap (λ cs. record { parent = x.parent; children = cs; content = operation_content x.data }) c.push_reserved.ensures)

pub returns-clause-only : goal.returns-clause-only
returns-clause-only g c = relisted c.args.self.now c.args.p c.content_mut.result.now _ c.content_mut.ensures.value

pub returns-clause-here : goal.returns-clause-here
returns-clause-here g c = relisted_here c.args.self.now c.args.p c.content_mut.result.now c.push_reserved.new.self c.content_mut.ensures.value (λ cs. cs ++ c.args.r ∷ []) c.push_reserved.ensures
