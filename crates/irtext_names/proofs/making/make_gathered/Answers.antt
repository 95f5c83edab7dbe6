use Rattle.std.proofs.Common.{◌≡◌, Some, subst, slice_get}
use Rattle.irtext_graph.specs.Graph.{IsLive}
use Rattle.irtext_graph.specs.Parts.{IsDefinedValue}
use Rattle.irtext_graph.specs.declared.object.Object.TheVariants.{TheBlock}
use Rattle.irtext_names.proofs.Ordering.{all_in_order}
use Rattle.irtext_names.proofs.making.make_gathered.Goals as goal

pub make_of-requires-clause-operands : goal.make_of-requires-clause-operands
make_of-requires-clause-operands g c = λ i v e.
    let x = c.args.gathered.operands in
    all_in_order (λ v. IsDefinedValue c.args.ctx.now.graph v) x.single.items x.list.items c.requires.operands c.requires.listed_operands i v (subst (λ xs. slice_get xs i ≡ Some v) c.in-Ok.ensures.operands e)

pub make_of-requires-clause-successors : goal.make_of-requires-clause-successors
make_of-requires-clause-successors g c = λ i b e.
    let x = c.args.gathered.successors in
    all_in_order (λ b. IsLive c.args.ctx.now.graph (TheBlock b)) x.single.items x.list.items c.requires.successors c.requires.listed_successors i b (subst (λ xs. slice_get xs i ≡ Some b) c.in-Ok.ensures.successors e)
