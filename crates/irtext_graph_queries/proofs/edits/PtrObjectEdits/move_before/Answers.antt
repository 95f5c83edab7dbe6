use Rattle.std.proofs.Common.{◌≡◌, ◌∙◌, refl, ap}
use Rattle.std.proofs.lemmas.Result.{on_err_weaker}
use Rattle.irtext_graph_queries.proofs.edits.PtrObjectEdits.move_before.Goals as goal

pub returns-clause-ok : goal.returns-clause-ok
returns-clause-ok g c = rw (g.met.C.HasGraph.graph_with c.args.ctx.now c.move_before.new.graph)
    (rw (← c.graph_mut.ensures.value) (rw (← c.object.ensures, ← c.object-item.ensures) c.move_before.ensures.ok))

pub returns-clause-err : goal.returns-clause-err
returns-clause-err g c = on_err_weaker c.move_before.result (λ (e : c.move_before.new.graph ≡ c.graph_mut.result.now). ap
    (λ x. g.C.HasGraph.with_graph c.args.ctx.now x) (e ∙ c.graph_mut.ensures.value) ∙ g.met.C.HasGraph.with_own c.args.ctx.now) c.move_before.ensures.err

pub returns-clause-kept : goal.returns-clause-kept
returns-clause-kept g c = rw (g.met.C.HasGraph.graph_with c.args.ctx.now c.move_before.new.graph)
    (rw (← c.graph_mut.ensures.value) (rw (← c.object.ensures, ← c.object-item.ensures) c.move_before.ensures.kept))

pub returns-clause-rest : goal.returns-clause-rest
returns-clause-rest g c = rw (g.met.C.HasGraph.graph_with c.args.ctx.now c.move_before.new.graph) refl

pub move_before-requires-clause-there : goal.move_before-requires-clause-there
move_before-requires-clause-there g c = rw (c.graph_mut.ensures.value, c.object.ensures) c.requires.there

pub move_before-requires-clause-inside : goal.move_before-requires-clause-inside
move_before-requires-clause-inside g c = rw (c.graph_mut.ensures.value, c.object.ensures) c.requires.inside

pub move_before-requires-clause-alive : goal.move_before-requires-clause-alive
move_before-requires-clause-alive g c = rw (c.graph_mut.ensures.value, c.object-item.ensures) c.requires.alive

pub move_before-requires-clause-alike : goal.move_before-requires-clause-alike
move_before-requires-clause-alike g c = rw (c.object.ensures, c.object-item.ensures) (g.K.Kind.alike c.args.mark c.args.self)

pub move_before-requires-clause-apart : goal.move_before-requires-clause-apart
move_before-requires-clause-apart g c = rw (c.graph_mut.ensures.value, c.object.ensures, c.object-item.ensures) c.requires.apart
