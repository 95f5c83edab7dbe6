use Rattle.pliron_text.proofs.Alike.There.{graph_alike}
use Rattle.pliron_text.proofs.laws.dialects.known_in_every_graph.Goals as goal

pub returns : goal.returns
returns g c a b alike x = graph_alike a b alike x
