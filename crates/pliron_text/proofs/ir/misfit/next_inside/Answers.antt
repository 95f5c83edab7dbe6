use Rattle.std.proofs.Common.{◌≡◌, ◌∷◌, Some, subst}
use Rattle.irtext_graph.specs.Throughout.{all_from}
use Rattle.pliron_text.proofs.ir.misfit.next_inside.Goals as goal

pub returns-clause-next : goal.returns-clause-next
returns-clause-next g c = subst (λ v. all_from v c.args.top (Some c.args.object) ≡ c.args.object ∷ all_from v c.args.top c.next_inside.result) c.graph.ensures c.next_inside.ensures.next
