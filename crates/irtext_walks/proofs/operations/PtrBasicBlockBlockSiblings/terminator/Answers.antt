use Rattle.std.proofs.Common.{◌≡◌, ◌∙◌, subst}
use Rattle.irtext_graph.specs.declared.object.Object.TheVariants.{TheOperation}
use Rattle.irtext_graph.specs.Parts.{operations_in}
use Rattle.irtext_walks.specs.Siblings.{last_item}
use Rattle.irtext_walks.proofs.Ends.{last_mapped}
use Rattle.irtext_walks.proofs.operations.PtrBasicBlockBlockSiblings.terminator.Goals as goal

pub returns-clause-last : goal.returns-clause-last
returns-clause-last g c =
    let xs = operations_in c.graph.result.now c.args.self in
    subst (λ v. c.operation_of.result ≡ last_item (operations_in v c.args.self)) c.graph.ensures
    (c.operation_of.ensures.here (last_item xs) (c.last_child.ensures.last ∙ last_mapped TheOperation xs))
