use Rattle.std.proofs.Common.{◌≡◌, ◌∙◌, refl, ap}
use Rattle.std.proofs.lemmas.Result.{on_err_weaker}
use Rattle.irtext_graph_queries.proofs.edits.PtrObjectEdits.insert_at_back.Goals as goal

pub returns-clause-ok : goal.returns-clause-ok
returns-clause-ok g c = rw (g.met.C.HasGraph.graph_with c.args.ctx.now c.insert_at_back.new.self)
    (rw (← c.graph_mut.ensures.value) (rw (← c.object.ensures, ← c.object-item.ensures) c.insert_at_back.ensures.ok))

pub returns-clause-err : goal.returns-clause-err
returns-clause-err g c = on_err_weaker c.insert_at_back.result (λ (e : c.insert_at_back.new.self ≡ c.graph_mut.result.now). ap
    (λ x. g.C.HasGraph.with_graph c.args.ctx.now x) (e ∙ c.graph_mut.ensures.value) ∙ g.met.C.HasGraph.with_own c.args.ctx.now) c.insert_at_back.ensures.err

pub returns-clause-kept : goal.returns-clause-kept
returns-clause-kept g c = rw (g.met.C.HasGraph.graph_with c.args.ctx.now c.insert_at_back.new.self)
    (rw (← c.graph_mut.ensures.value) (rw (← c.object.ensures, ← c.object-item.ensures) c.insert_at_back.ensures.kept))

pub returns-clause-rest : goal.returns-clause-rest
returns-clause-rest g c = rw (g.met.C.HasGraph.graph_with c.args.ctx.now c.insert_at_back.new.self) refl

pub insert_at_back-requires-clause-holder : goal.insert_at_back-requires-clause-holder
insert_at_back-requires-clause-holder g c = rw (c.graph_mut.ensures.value, c.object.ensures) c.requires.holder

pub insert_at_back-requires-clause-alive : goal.insert_at_back-requires-clause-alive
insert_at_back-requires-clause-alive g c = rw (c.graph_mut.ensures.value, c.object-item.ensures) c.requires.alive

pub insert_at_back-requires-clause-can : goal.insert_at_back-requires-clause-can
insert_at_back-requires-clause-can g c = rw (c.graph_mut.ensures.value, c.object.ensures, c.object-item.ensures) c.requires.can

pub insert_at_back-requires-clause-fits : goal.insert_at_back-requires-clause-fits
insert_at_back-requires-clause-fits g c = rw (c.object.ensures, c.object-item.ensures) (g.met.H.Holds.fits c.args.holder c.args.self)
