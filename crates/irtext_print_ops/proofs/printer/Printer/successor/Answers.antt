use Rattle.std.proofs.Common.{ap, subst}
use Rattle.std.specs.Option.{option_map}
use Rattle.irtext_graph.specs.Graph.{IsLive}
use Rattle.irtext_graph.specs.declared.object.Defined.TheVariants.{OfBlock}
use Rattle.irtext_graph.specs.declared.object.Object.TheVariants.{TheBlock}
use Rattle.irtext_graph.specs.declared.object.Site.TheVariants.{AtSuccessor}
use Rattle.irtext_print_ops.proofs.LiveViews.{block_there}
use Rattle.irtext_print_ops.proofs.printer.Printer.successor.Goals as goal

pub returns-clause-there : goal.returns-clause-there
returns-clause-there g c =
    block_there c.args.self.ctx.now c.get_successor.result
    (subst (λ x. IsLive x (TheBlock c.get_successor.result)) c.graph-graph.ensures (c.keeps_nesting.ensures.uses (AtSuccessor c.args.op c.args.index) (OfBlock c.get_successor.result) (ap (option_map OfBlock) c.get_successor.ensures)))
