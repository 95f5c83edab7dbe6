use Rattle.std.proofs.Common.{◌≡◌, ◌∙◌, subst, slice_get}
use Rattle.irtext_graph.specs.declared.object.Object.TheVariants.{TheOperation}
use Rattle.irtext_graph.specs.Parts.{operations_in}
use Rattle.std.proofs.lemmas.Option.{slice_get-map}
use Rattle.irtext_walks.proofs.operations.PtrBasicBlockBlockSiblings.first_op.Goals as goal

pub returns-clause-first : goal.returns-clause-first
returns-clause-first g c =
    let xs = operations_in c.graph.result.now c.args.self in
    subst (λ v. c.operation_of.result ≡ slice_get (operations_in v c.args.self) 0) c.graph.ensures
    (c.operation_of.ensures.here (slice_get xs 0) (c.first_child.ensures.first ∙ slice_get-map TheOperation xs 0))
