use Rattle.std.proofs.Common.{◌++◌, ◌∙◌, ap}
use Rattle.irtext_graph.specs.Throughout.{all_from}
use Rattle.irtext_walks.specs.Walks.{all_in}
use Rattle.irtext_walks.proofs.Picked.{both}
use Rattle.irtext_walks.proofs.steps.picked_after_nested.Goals as goal

pub returns-clause-next : goal.returns-clause-next
returns-clause-next g c =
    let graph = c.args.graph.now in
    let among = g.K.Picked.among in
    ap among c.after_nested.ensures.next ∙ both g.met.K.Picked.picks (all_in graph c.args.at) (all_from graph c.args.root c.after_nested.result)
    ∙ ap (λ ys. among (all_in graph c.args.at) ++ ys) c.pick_from.ensures.picked
