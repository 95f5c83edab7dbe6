use Rattle.irtext_graph.proofs.PartsSeen.{value_there, value_is_defined}
use Rattle.irtext_graph.proofs.graph.Graph.contains_value.Goals as goal

pub returns : goal.returns
returns g c = rw (← c.self.view_is) (λ t. value_is_defined c.self.inside.made c.self.inside.counters c.self.inside.objects c.args.v (c.is_defined.ensures.0 t), λ s. c.is_defined.ensures.1 (value_there c.self.inside.made c.self.inside.counters c.self.inside.objects c.args.v s))
