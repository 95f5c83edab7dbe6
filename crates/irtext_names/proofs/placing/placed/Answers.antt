use Rattle.std.proofs.Common.{sym, subst}
use Rattle.std.specs.Prelude.{IfSome, OnOk}
use Rattle.irtext_graph.specs.declared.object.Object.TheVariants.{TheOperation, TheBlock}
use Rattle.irtext_graph.specs.Graph as graphs
use Rattle.irtext_graph.specs.Graph.{Appends, CanInsert, IsLive, IsNew, children, parent}
use Rattle.irtext_graph.specs.Nested.{Nested}
use Rattle.irtext_names.specs.Placing.{PlacedIn}
use Rattle.irtext_context.specs.Context.{with_graph}
use Rattle.irtext_names.proofs.Apart.{apart_of}
use Rattle.irtext_names.proofs.Appending.{placed_in, keeps_with}
use Rattle.irtext_names.proofs.placing.placed.Goals as goal

pub insert_at_back-requires-clause-holder : goal.insert_at_back-requires-clause-holder
insert_at_back-requires-clause-holder g c = subst (λ k. IsLive k (TheBlock c.in-Some.block)) (sym c.graph_mut-graph.ensures.value) (subst (λ o. IfSome o (λ b. IsLive c.args.ctx.now.graph (TheBlock b))) c.in-Some.is c.requires.block)

pub insert_at_back-requires-clause-alive : goal.insert_at_back-requires-clause-alive
insert_at_back-requires-clause-alive g c = subst (λ k. IsLive k (TheOperation c.args.op)) (sym c.graph_mut-graph.ensures.value) c.requires.op

pub insert_at_back-requires-clause-can : goal.insert_at_back-requires-clause-can
insert_at_back-requires-clause-can g c = subst (λ k. CanInsert k (TheBlock c.in-Some.block) (TheOperation c.args.op)) (sym c.graph_mut-graph.ensures.value) (record {
  free = c.requires.free;
  apart = apart_of (subst (λ k. Nested (children k) (parent k)) c.graph.ensures c.keeps_nesting.ensures.forest) (TheOperation c.args.op) (TheBlock c.in-Some.block) c.requires.empty (λ e. cc);
})

pub returns-clause-places : goal.returns-clause-places
returns-clause-places g c =
    let old = c.args.ctx.now in
    let new = c.insert_at_back.new.self in
    let r = c.insert_at_back.result in
    let h = subst (λ k. OnOk r (Appends k new (TheBlock c.in-Some.block) (TheOperation c.args.op))) c.graph_mut-graph.ensures.value c.insert_at_back.ensures.ok in
    subst (λ o. OnOk r (PlacedIn o old (with_graph old new) c.args.op)) (sym c.in-Some.is) (placed_in old new c.in-Some.block c.args.op r h)

pub returns-clause-kept : goal.returns-clause-kept
returns-clause-kept g c = λ m b o.
    let old = c.args.ctx.now in
    let new = c.insert_at_back.new.self in
    let block = subst (λ x. IfSome x (λ b. IsNew m old.graph (TheBlock b))) c.in-Some.is b in
    keeps_with old new m (subst (λ k. IsNew m k (TheBlock c.in-Some.block) → IsNew m k (TheOperation c.args.op) → graphs.KeepsOlder m k new) c.graph_mut-graph.ensures.value (c.insert_at_back.ensures.kept m) block o)
