use Rattle.std.proofs.Common.{◌≡◌, ◌∙◌, refl, ap}
use Rattle.std.proofs.lemmas.Result.{on_err_weaker}
use Rattle.irtext_graph_queries.proofs.edits.PtrObjectEdits.move_after.Goals as goal

pub returns-clause-ok : goal.returns-clause-ok
returns-clause-ok g c = rw (g.met.C.HasGraph.graph_with c.args.ctx.now c.move_after.new.graph)
    (rw (← c.graph_mut.ensures.value) (rw (← c.object.ensures, ← c.object-item.ensures) c.move_after.ensures.ok))

pub returns-clause-err : goal.returns-clause-err
returns-clause-err g c = on_err_weaker c.move_after.result (λ (e : c.move_after.new.graph ≡ c.graph_mut.result.now). ap
    (λ x. g.C.HasGraph.with_graph c.args.ctx.now x) (e ∙ c.graph_mut.ensures.value) ∙ g.met.C.HasGraph.with_own c.args.ctx.now) c.move_after.ensures.err

pub returns-clause-kept : goal.returns-clause-kept
returns-clause-kept g c = rw (g.met.C.HasGraph.graph_with c.args.ctx.now c.move_after.new.graph)
    (rw (← c.graph_mut.ensures.value) (rw (← c.object.ensures, ← c.object-item.ensures) c.move_after.ensures.kept))

pub returns-clause-rest : goal.returns-clause-rest
returns-clause-rest g c = rw (g.met.C.HasGraph.graph_with c.args.ctx.now c.move_after.new.graph) refl

pub move_after-requires-clause-there : goal.move_after-requires-clause-there
move_after-requires-clause-there g c = rw (c.graph_mut.ensures.value, c.object.ensures) c.requires.there

pub move_after-requires-clause-inside : goal.move_after-requires-clause-inside
move_after-requires-clause-inside g c = rw (c.graph_mut.ensures.value, c.object.ensures) c.requires.inside

pub move_after-requires-clause-alive : goal.move_after-requires-clause-alive
move_after-requires-clause-alive g c = rw (c.graph_mut.ensures.value, c.object-item.ensures) c.requires.alive

pub move_after-requires-clause-alike : goal.move_after-requires-clause-alike
move_after-requires-clause-alike g c = rw (c.object.ensures, c.object-item.ensures) (g.K.Kind.alike c.args.mark c.args.self)

pub move_after-requires-clause-apart : goal.move_after-requires-clause-apart
move_after-requires-clause-apart g c = rw (c.graph_mut.ensures.value, c.object.ensures, c.object-item.ensures) c.requires.apart
