use Rattle.std.proofs.Common.{◌≡◌, ◌+◌, ◌∙◌, ℕ, ap, subst, Some, slice_get}
use Rattle.std.specs.Option.{option_map}
use Rattle.std.proofs.lemmas.Option.{slice_get-map}
use Rattle.irtext_graph.specs.declared.arena.Ptr.{Ptr}
use Rattle.irtext_graph.specs.declared.object.BasicBlock.{BasicBlock}
use Rattle.irtext_graph.specs.declared.object.Object.TheVariants.{TheOperation, TheBlock}
use Rattle.irtext_graph.specs.Graph.{parent}
use Rattle.irtext_graph.specs.Parts.{operations_in}
use Rattle.irtext_walks.proofs.operations.PtrOperationOperationSiblings.next_op.Goals as goal

pub returns-clause-next : goal.returns-clause-next
returns-clause-next g c =
    let this = c.args.self in
    let result = c.operation_of.result in
    subst (λ v. (k : Ptr BasicBlock) (i : ℕ) → parent v (TheOperation this) ≡ Some (TheBlock k) → slice_get (operations_in v k) i ≡ Some this
    → result ≡ slice_get (operations_in v k) (i + 1)) c.graph.ensures
    (λ k i e f.
    let xs = operations_in c.graph.result.now k in
    c.operation_of.ensures.here (slice_get xs (i + 1)) (c.next_sibling.ensures.next (TheBlock k) i e
    (slice_get-map TheOperation xs i ∙ ap (option_map TheOperation) f) ∙ slice_get-map TheOperation xs (i + 1)))
