use Rattle.std.proofs.Common.{◌≡◌, ◌∙◌, ℕ, ap, subst, Some, slice_get}
use Rattle.std.specs.Option.{option_map}
use Rattle.std.proofs.lemmas.Option.{slice_get-map}
use Rattle.irtext_graph.specs.declared.arena.Ptr.{Ptr}
use Rattle.irtext_graph.specs.declared.object.BasicBlock.{BasicBlock}
use Rattle.irtext_graph.specs.declared.object.Object.TheVariants.{TheOperation, TheBlock}
use Rattle.irtext_graph.specs.Graph.{parent}
use Rattle.irtext_graph.specs.Parts.{operations_in}
use Rattle.irtext_walks.specs.Siblings.{item_before}
use Rattle.irtext_walks.proofs.Ends.{before_mapped}
use Rattle.irtext_walks.proofs.operations.PtrOperationOperationSiblings.previous_op.Goals as goal

pub returns-clause-previous : goal.returns-clause-previous
returns-clause-previous g c =
    let this = c.args.self in
    let result = c.operation_of.result in
    subst (λ v. (k : Ptr BasicBlock) (i : ℕ) → parent v (TheOperation this) ≡ Some (TheBlock k) → slice_get (operations_in v k) i ≡ Some this
    → result ≡ item_before (operations_in v k) i) c.graph.ensures
    (λ k i e f.
    let xs = operations_in c.graph.result.now k in
    c.operation_of.ensures.here (item_before xs i) (c.previous_sibling.ensures.previous (TheBlock k) i e
    (slice_get-map TheOperation xs i ∙ ap (option_map TheOperation) f) ∙ before_mapped TheOperation xs i))
