use Rattle.std.proofs.Common.{◌≡◌, ◌∙◌, refl, ap}
use Rattle.std.proofs.lemmas.Result.{on_err_weaker}
use Rattle.irtext_graph_queries.proofs.edits.PtrObjectEdits.move_to_end.Goals as goal

pub returns-clause-ok : goal.returns-clause-ok
returns-clause-ok g c = rw (g.met.C.HasGraph.graph_with c.args.ctx.now c.move_to_end.new.graph)
    (rw (← c.graph_mut.ensures.value) (rw (← c.object.ensures, ← c.object-item.ensures) c.move_to_end.ensures.ok))

pub returns-clause-err : goal.returns-clause-err
returns-clause-err g c = on_err_weaker c.move_to_end.result (λ (e : c.move_to_end.new.graph ≡ c.graph_mut.result.now). ap
    (λ x. g.C.HasGraph.with_graph c.args.ctx.now x) (e ∙ c.graph_mut.ensures.value) ∙ g.met.C.HasGraph.with_own c.args.ctx.now) c.move_to_end.ensures.err

pub returns-clause-kept : goal.returns-clause-kept
returns-clause-kept g c = rw (g.met.C.HasGraph.graph_with c.args.ctx.now c.move_to_end.new.graph)
    (rw (← c.graph_mut.ensures.value) (rw (← c.object.ensures, ← c.object-item.ensures) c.move_to_end.ensures.kept))

pub returns-clause-rest : goal.returns-clause-rest
returns-clause-rest g c = rw (g.met.C.HasGraph.graph_with c.args.ctx.now c.move_to_end.new.graph) refl

pub move_to_end-requires-clause-holder : goal.move_to_end-requires-clause-holder
move_to_end-requires-clause-holder g c = rw (c.graph_mut.ensures.value, c.object.ensures) c.requires.holder

pub move_to_end-requires-clause-alive : goal.move_to_end-requires-clause-alive
move_to_end-requires-clause-alive g c = rw (c.graph_mut.ensures.value, c.object-item.ensures) c.requires.alive

pub move_to_end-requires-clause-fits : goal.move_to_end-requires-clause-fits
move_to_end-requires-clause-fits g c = rw (c.object.ensures, c.object-item.ensures) (g.met.H.Holds.fits c.args.holder c.args.self)

pub move_to_end-requires-clause-apart : goal.move_to_end-requires-clause-apart
move_to_end-requires-clause-apart g c = rw (c.graph_mut.ensures.value, c.object.ensures, c.object-item.ensures) c.requires.apart
