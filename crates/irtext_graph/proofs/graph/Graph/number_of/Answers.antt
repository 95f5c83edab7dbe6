use Rattle.std.proofs.Common.{◌∙◌, ap, option_map}
use Rattle.irtext_graph.specs.Content.{typed}
use Rattle.irtext_graph.proofs.PartsSeen.{value_there, value_seen}
use Rattle.irtext_graph.proofs.graph.Graph.number_of.Goals as goal

pub definition-requires : goal.definition-requires
definition-requires g c = value_there c.self.inside.made c.self.inside.counters c.self.inside.objects c.args.v (rw (← c.self.view_is) at c.requires)

pub returns : goal.returns
returns g c = rw (← c.self.view_is) (ap (option_map (λ t. t.number)) (value_seen c.self.inside.made c.self.inside.counters c.self.inside.objects c.args.v ∙ ap (option_map typed) c.definition.ensures))
