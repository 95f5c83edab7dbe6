use Rattle.std.proofs.Common.{refl}
use Rattle.irtext_graph_queries.proofs.edits.PtrObjectEdits.drop_all_uses.Goals as goal

pub returns : goal.returns
returns g c = let seen = g.met.C.HasGraph.graph_with c.args.ctx.now c.drop_all_uses.new.self in
    record {
      drops = rw seen (rw (← c.graph_mut.ensures.value) (rw (← c.object.ensures) c.drop_all_uses.ensures.drops));
      kept = rw seen
          (rw (← c.graph_mut.ensures.value) (rw (← c.object.ensures) c.drop_all_uses.ensures.kept));
      rest = rw seen refl;
    }

pub drop_all_uses-requires : goal.drop_all_uses-requires
drop_all_uses-requires g c = rw (c.graph_mut.ensures.value, c.object.ensures) c.requires
