use Rattle.std.proofs.Common.{◌≡◌, ap, subst, Some, option_map, slice_get}
use Rattle.irtext_graph.specs.declared.object.Defined.TheVariants.{OfBlock}
use Rattle.irtext_graph.specs.declared.object.Object.TheVariants.{TheOperation, TheBlock}
use Rattle.irtext_graph.specs.declared.object.Site.TheVariants.{AtSuccessor}
use Rattle.irtext_graph.specs.Graph.{parent, ancestor}
use Rattle.irtext_graph.specs.Parts.{successors}
use Rattle.irtext_closed.proofs.Indices.{successor_reached}
use Rattle.irtext_closed.proofs.uses.reaches_successor.Goals as goal

pub get_parent-holder-requires : goal.get_parent-holder-requires
get_parent-holder-requires g c = c.keeps_nesting.ensures.uses (AtSuccessor c.args.op c.args.index) (OfBlock c.get_successor-block.result) (ap (option_map OfBlock) c.get_successor-block.ensures)

pub returns : goal.returns
returns g c =
    let b = c.get_successor-block.result in
    successor_reached c.args.ctx.now c.args.op c.args.index b c.get_parent-holder.result c.ancestor.result c.is_same.result
    (subst (λ x. slice_get (successors x c.args.op) c.args.index ≡ Some b) c.graph-graph.ensures c.get_successor-block.ensures)
    (subst (λ x. c.get_parent-holder.result ≡ parent x (TheBlock b)) c.graph-graph.ensures c.get_parent-holder.ensures.parent)
    (subst (λ x. c.ancestor.result ≡ ancestor x 2 (TheOperation c.args.op)) c.graph-graph.ensures c.ancestor.ensures.ancestor)
    c.is_same.ensures
