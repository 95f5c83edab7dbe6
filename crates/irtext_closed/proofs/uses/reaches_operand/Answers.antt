use Rattle.std.proofs.Common.{◌≡◌, sym, ap, subst, Some, option_map, slice_get}
use Rattle.irtext_graph.specs.declared.object.Defined.{Defined}
use Rattle.irtext_graph.specs.declared.object.Defined.TheVariants.{OfValue}
use Rattle.irtext_graph.specs.declared.object.Site.{Site}
use Rattle.irtext_graph.specs.declared.object.Site.TheVariants.{AtOperand}
use Rattle.irtext_graph.specs.Graph.{IsLive}
use Rattle.irtext_graph.specs.Parts.{operands}
use Rattle.irtext_graph.specs.Used.{IsUse, IsDefined}
use Rattle.irtext_closed.proofs.Indices.{operand_reached}
use Rattle.irtext_closed.proofs.Owners.{owner_live}
use Rattle.irtext_closed.proofs.uses.reaches_operand.Goals as goal

pub shares_scope-requires-clause-second : goal.shares_scope-requires-clause-second
shares_scope-requires-clause-second g c =
    let v = c.get_operand-value.result in
    let uses = subst (λ x. (u : Site) (d : Defined) → IsUse x d u → IsDefined x d) c.graph-graph.ensures c.keeps_nesting.ensures.uses in
    let at = subst (λ x. slice_get (operands x c.args.op) c.args.index ≡ Some v) c.graph-graph.ensures c.get_operand-value.ensures in
    subst (IsLive c.args.ctx.now.graph) (sym c.owner_of.ensures) (owner_live c.args.ctx.now.graph v (uses (AtOperand c.args.op c.args.index) (OfValue v) (ap (option_map OfValue) at)))

pub returns : goal.returns
returns g c =
    let v = c.get_operand-value.result in
    let at = subst (λ x. slice_get (operands x c.args.op) c.args.index ≡ Some v) c.graph-graph.ensures c.get_operand-value.ensures in
    operand_reached c.args.ctx.now c.args.op c.args.index v c.owner_of.result c.shares_scope.result at c.owner_of.ensures c.shares_scope.ensures
