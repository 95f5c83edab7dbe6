use Rattle.std.proofs.Common.{subst}
use Rattle.irtext_graph.specs.Graph.{children, parent}
use Rattle.irtext_graph.specs.Nested.{Nested}
use Rattle.irtext_grammar.proofs.Knot.Formats.{each_accepted}
use Rattle.irtext_parse_root.proofs.tree.context_keeps.Goals as goal

pub returns-clause-nest : goal.returns-clause-nest
returns-clause-nest g c = subst (λ k. Nested (children k) (parent k)) c.graph.ensures c.keeps_nesting.ensures.forest

pub returns-clause-accepted : goal.returns-clause-accepted
returns-clause-accepted g c = each_accepted c.args.state.now.ctx.now.dialects c.keeps_formats.ensures
