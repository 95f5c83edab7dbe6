use Rattle.std.proofs.Common.{◌∙◌, sym, ap, Some}
use Rattle.irtext_graph.proofs.UsesSeen.{head_there, is_used, has_head}
use Rattle.irtext_graph.proofs.graph.Graph.has_use.Goals as goal

pub head_of-requires : goal.head_of-requires
head_of-requires g c = head_there c.self.inside.made c.self.inside.counters c.self.inside.objects c.args.d (rw (← c.self.view_is) at c.requires)

pub returns : goal.returns
returns g c = rw (← c.self.view_is) (
  λ t. is_used c.self.inside.made c.self.inside.counters c.self.inside.objects c.self.invariant.sound c.args.d c.site.result (c.head_of.ensures ∙ ap Some (sym c.site.ensures.value)) (sym c.is_some.ensures ∙ t),
  λ k. c.is_some.ensures ∙ (has_head c.self.inside.made c.self.inside.counters c.self.inside.objects c.self.invariant.sound c.args.d c.site.result (c.head_of.ensures ∙ ap Some (sym c.site.ensures.value)) k),
)
