use Rattle.std.proofs.Common.{refl}
use Rattle.irtext_graph_queries.proofs.edits.PtrObjectEdits.unlink.Goals as goal

pub returns : goal.returns
returns g c = let seen = g.met.C.HasGraph.graph_with c.args.ctx.now c.unlink.new.self in
    record {
      unlinks = rw seen (rw (← c.graph_mut.ensures.value) (rw (← c.object.ensures) c.unlink.ensures.unlinks));
      kept = rw seen
          (rw (← c.graph_mut.ensures.value) (rw (← c.object.ensures) c.unlink.ensures.kept));
      rest = rw seen refl;
    }

pub unlink-requires : goal.unlink-requires
unlink-requires g c = rw (c.graph_mut.ensures.value, c.object.ensures) c.requires
