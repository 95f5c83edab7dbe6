use Rattle.std.specs.List.{insert}
use Rattle.irtext_graph.proofs.Relisted.{relisted, relisted_here}
use Rattle.irtext_graph.proofs.nest.Arena+Nest+P+C+D.insert_child.Goals as goal

pub returns-clause-only : goal.returns-clause-only
returns-clause-only g c = relisted c.args.self.now c.args.p c.content_mut.result.now _ c.content_mut.ensures.value

pub returns-clause-here : goal.returns-clause-here
returns-clause-here g c = relisted_here c.args.self.now c.args.p c.content_mut.result.now c.insert_reserved.new.self c.content_mut.ensures.value (λ cs. insert cs c.args.i c.args.c) c.insert_reserved.ensures
