use Rattle.irtext_graph.proofs.Linkings.{blank}
use Rattle.irtext_graph.proofs.making.new_operation.Goals as goal

pub returns-clause-blank : goal.returns-clause-blank
returns-clause-blank g c =
    let b = c.blank_operation.ensures in
    blank _ _ _ _ _ _ _ _ _ b.parent b.children b.value b.operands b.successors b.results c.in_ok-used.ensures c.in_ok-led_to.ensures c.in_ok-results.ensures.defines
