use Rattle.std.proofs.Common.{sym}
use Rattle.irtext_walks.proofs.Branches.{all_listed}
use Rattle.irtext_walks.proofs.Picked.{root_live}
use Rattle.irtext_walks.proofs.steps.first_picked.Goals as goal

pub pick_from-requires : goal.pick_from-requires
pick_from-requires g c = root_live c.args.graph.now c.args.root c.requires

pub returns-clause-first : goal.returns-clause-first
returns-clause-first g c = sym c.pick_from.ensures.picked

pub returns-clause-objects : goal.returns-clause-objects
returns-clause-objects g c = all_listed c.args.graph.now c.keeps_nesting.ensures.forest c.args.root
