use Rattle.std.proofs.Common.{refl}
use Rattle.irtext_graph_queries.proofs.edits.PtrObjectEdits.erase.Goals as goal

pub returns : goal.returns
returns g c = let seen = g.met.C.HasGraph.graph_with c.args.ctx.now c.erase.new.self in
    record {
      erases = rw seen (rw (← c.graph_mut.ensures.value) (rw (← c.object.ensures) c.erase.ensures.erases));
      kept = rw seen
          (rw (← c.graph_mut.ensures.value) (rw (← c.object.ensures) c.erase.ensures.kept));
      rest = rw seen refl;
    }

pub erase-requires-clause-alive : goal.erase-requires-clause-alive
erase-requires-clause-alive g c = rw (c.graph_mut.ensures.value, c.object.ensures) c.requires.alive

pub erase-requires-clause-can : goal.erase-requires-clause-can
erase-requires-clause-can g c = rw (c.graph_mut.ensures.value, c.object.ensures) c.requires.can
