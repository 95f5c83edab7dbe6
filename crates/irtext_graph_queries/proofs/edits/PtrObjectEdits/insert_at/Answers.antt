use Rattle.std.proofs.Common.{◌≡◌, ◌∙◌, refl, ap}
use Rattle.std.proofs.lemmas.Result.{on_err_weaker}
use Rattle.irtext_graph_queries.proofs.edits.PtrObjectEdits.insert_at.Goals as goal

pub returns-clause-ok : goal.returns-clause-ok
returns-clause-ok g c = rw (g.met.C.HasGraph.graph_with c.args.ctx.now c.insert_at.new.self)
    (rw (← c.graph_mut.ensures.value) (rw (← c.object.ensures, ← c.object-item.ensures) c.insert_at.ensures.ok))

pub returns-clause-err : goal.returns-clause-err
returns-clause-err g c = on_err_weaker c.insert_at.result (λ (e : c.insert_at.new.self ≡ c.graph_mut.result.now). ap
    (λ x. g.C.HasGraph.with_graph c.args.ctx.now x) (e ∙ c.graph_mut.ensures.value) ∙ g.met.C.HasGraph.with_own c.args.ctx.now) c.insert_at.ensures.err

pub returns-clause-kept : goal.returns-clause-kept
returns-clause-kept g c = rw (g.met.C.HasGraph.graph_with c.args.ctx.now c.insert_at.new.self)
    (rw (← c.graph_mut.ensures.value) (rw (← c.object.ensures, ← c.object-item.ensures) c.insert_at.ensures.kept))

pub returns-clause-rest : goal.returns-clause-rest
returns-clause-rest g c = rw (g.met.C.HasGraph.graph_with c.args.ctx.now c.insert_at.new.self) refl

pub insert_at-requires-clause-holder : goal.insert_at-requires-clause-holder
insert_at-requires-clause-holder g c = rw (c.graph_mut.ensures.value, c.object.ensures) c.requires.holder

pub insert_at-requires-clause-alive : goal.insert_at-requires-clause-alive
insert_at-requires-clause-alive g c = rw (c.graph_mut.ensures.value, c.object-item.ensures) c.requires.alive

pub insert_at-requires-clause-can : goal.insert_at-requires-clause-can
insert_at-requires-clause-can g c = rw (c.graph_mut.ensures.value, c.object.ensures, c.object-item.ensures) c.requires.can

pub insert_at-requires-clause-within : goal.insert_at-requires-clause-within
insert_at-requires-clause-within g c = rw (c.graph_mut.ensures.value, c.object.ensures) c.requires.within

pub insert_at-requires-clause-fits : goal.insert_at-requires-clause-fits
insert_at-requires-clause-fits g c = rw (c.object.ensures, c.object-item.ensures) (g.met.H.Holds.fits c.args.holder c.args.self)
