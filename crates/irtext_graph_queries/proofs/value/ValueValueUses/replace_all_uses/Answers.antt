use Rattle.std.proofs.Common.{refl}
use Rattle.irtext_graph_queries.proofs.value.ValueValueUses.replace_all_uses.Goals as goal

pub returns : goal.returns
returns g c = let seen = g.met.C.HasGraph.graph_with c.args.ctx.now c.replace_all_uses.new.self in
    record { replaces = rw seen (rw (← c.graph_mut.ensures.value) c.replace_all_uses.ensures.replaces); kept = rw seen (rw (← c.graph_mut.ensures.value) c.replace_all_uses.ensures.kept); rest = rw seen refl }

pub replace_all_uses-requires-clause-alive : goal.replace_all_uses-requires-clause-alive
replace_all_uses-requires-clause-alive g c = rw c.graph_mut.ensures.value c.requires.alive

pub replace_all_uses-requires-clause-alive_too : goal.replace_all_uses-requires-clause-alive_too
replace_all_uses-requires-clause-alive_too g c = rw c.graph_mut.ensures.value c.requires.alive_too
