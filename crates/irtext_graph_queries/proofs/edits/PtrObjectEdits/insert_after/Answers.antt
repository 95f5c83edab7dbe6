use Rattle.std.proofs.Common.{◌≡◌, ◌∙◌, refl, ap}
use Rattle.std.proofs.lemmas.Result.{on_err_weaker}
use Rattle.irtext_graph_queries.proofs.edits.PtrObjectEdits.insert_after.Goals as goal

pub returns-clause-ok : goal.returns-clause-ok
returns-clause-ok g c = rw (g.met.C.HasGraph.graph_with c.args.ctx.now c.insert_after.new.graph)
    (rw (← c.graph_mut.ensures.value) (rw (← c.object.ensures, ← c.object-item.ensures) c.insert_after.ensures.ok))

pub returns-clause-err : goal.returns-clause-err
returns-clause-err g c = on_err_weaker c.insert_after.result (λ (e : c.insert_after.new.graph ≡ c.graph_mut.result.now). ap
    (λ x. g.C.HasGraph.with_graph c.args.ctx.now x) (e ∙ c.graph_mut.ensures.value) ∙ g.met.C.HasGraph.with_own c.args.ctx.now) c.insert_after.ensures.err

pub returns-clause-kept : goal.returns-clause-kept
returns-clause-kept g c = rw (g.met.C.HasGraph.graph_with c.args.ctx.now c.insert_after.new.graph)
    (rw (← c.graph_mut.ensures.value) (rw (← c.object.ensures, ← c.object-item.ensures) c.insert_after.ensures.kept))

pub returns-clause-rest : goal.returns-clause-rest
returns-clause-rest g c = rw (g.met.C.HasGraph.graph_with c.args.ctx.now c.insert_after.new.graph) refl

pub insert_after-requires-clause-there : goal.insert_after-requires-clause-there
insert_after-requires-clause-there g c = rw (c.graph_mut.ensures.value, c.object.ensures) c.requires.there

pub insert_after-requires-clause-inside : goal.insert_after-requires-clause-inside
insert_after-requires-clause-inside g c = rw (c.graph_mut.ensures.value, c.object.ensures) c.requires.inside

pub insert_after-requires-clause-alive : goal.insert_after-requires-clause-alive
insert_after-requires-clause-alive g c = rw (c.graph_mut.ensures.value, c.object-item.ensures) c.requires.alive

pub insert_after-requires-clause-alike : goal.insert_after-requires-clause-alike
insert_after-requires-clause-alike g c = rw (c.object.ensures, c.object-item.ensures) (g.K.Kind.alike c.args.mark c.args.self)

pub insert_after-requires-clause-can : goal.insert_after-requires-clause-can
insert_after-requires-clause-can g c = rw (c.graph_mut.ensures.value, c.object.ensures, c.object-item.ensures) c.requires.can
