use Rattle.std.proofs.Common.{refl}
use Rattle.irtext_graph.specs.declared.object.Defined.TheVariants.{OfValue}
use Rattle.irtext_graph.specs.Parts.{operands}
use Rattle.irtext_graph_queries.proofs.Siblings.{mapped_there}
use Rattle.irtext_graph_queries.proofs.edits.PtrOperationOperationEdits.set_operand.Goals as goal

pub returns : goal.returns
returns g c = let seen = g.met.C.HasGraph.graph_with c.args.ctx.now c.set_use.new.self in
    record {
      redirects = rw seen (rw (← c.graph_mut.ensures.value) c.set_use.ensures.redirects);
      kept = rw seen
          (rw (← c.graph_mut.ensures.value) c.set_use.ensures.kept);
      rest = rw seen refl;
    }

pub set_use-requires-clause-used : goal.set_use-requires-clause-used
set_use-requires-clause-used g c = rw c.graph_mut.ensures.value (mapped_there OfValue (operands (g.C.HasGraph.graph c.args.ctx.now) c.args.self) c.args.index
    c.requires.within)

pub set_use-requires-clause-alive : goal.set_use-requires-clause-alive
set_use-requires-clause-alive g c = rw c.graph_mut.ensures.value c.requires.alive
