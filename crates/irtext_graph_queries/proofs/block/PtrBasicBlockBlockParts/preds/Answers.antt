use Rattle.std.proofs.Common.{◌≡◌, ◌++◌, ◌∙◌, ap, arith, Some, get_or, slice_get}
use Rattle.std.proofs.lemmas.Option.{slice_get-get_or}
use Rattle.irtext_graph.specs.declared.object.Defined.TheVariants.{OfBlock}
use Rattle.irtext_graph.specs.declared.object.Site.TheVariants.{AtOperand}
use Rattle.irtext_graph.specs.Graph.{parent_of}
use Rattle.irtext_graph.specs.Store.{get}
use Rattle.irtext_graph.specs.Used.{user}
use Rattle.irtext_graph_queries.specs.Lists.{blocks_of}
use Rattle.irtext_graph_queries.proofs.Preds.{met_at, same_block, user_is_live, found, missed, all_met}
use Rattle.irtext_graph_queries.proofs.block.PtrBasicBlockBlockParts.preds.Goals.{in-Some+in_ok-push, in_default}
use Rattle.irtext_graph_queries.proofs.block.PtrBasicBlockBlockParts.preds.Goals as goal

pub get_parent_block-requires : goal.get_parent_block-requires
get_parent_block-requires g c =
    let xs = c.deref-u-items.result.now in
    let i = c.loop-u.u-index in
    let u = get_or xs i (AtOperand (record { index = 0; generation = 0; of = record {} }) 0) in
    let at : slice_get xs i ≡ Some u = slice_get-get_or xs i _ c.loop-u-test.true in
    rw c.user.ensures (rw (← c.graph.ensures) (user_is_live c.graph.result.now (OfBlock c.args.self) u (c.in_ok-uses.ensures.only u (rw (← c.deref-u-items.ensures.value) (met_at xs i u at)))))

pub loop-u-preserved : goal.loop-u-preserved
loop-u-preserved g c =
    let v = g.C.HasGraph.graph c.args.ctx.now in
    let xs = c.deref-u-items.result.now in
    let i = c.loop-u.u-index in
    let u = get_or xs i (AtOperand (record { index = 0; generation = 0; of = record {} }) 0) in
    let at : slice_get xs i ≡ Some u = slice_get-get_or xs i _ c.loop-u-test.true in
    let same = same_block (parent_of (get v.operations c.user.result)) c.get_parent_block.result c.get_parent_block.ensures.parent in
    let block : parent_of (get v.operations (user u)) ≡ c.get_parent_block.result = rw (← c.user.ensures) same in
    elim c.match-get_parent_block.branch [
      | in-Some+in_ok-push w ↦ record { met = found v xs i u w.in-Some.block c.loop-u.all.items c.match-get_parent_block.all.items at (block ∙ w.in-Some.is) c.loop-u.invariant.met (ap (λ a. a.items) w.all-is ∙ w.in_ok-push.ensures.items) }
      | in_default w ↦ record { met = rw w.all-is (missed v xs i u c.loop-u.all.items at (block ∙ w.in_default.is) c.loop-u.invariant.met) }
    ]

pub loop-u-init : goal.loop-u-init
loop-u-init g c = record { met = ap (λ bs. bs ++ blocks_of (g.C.HasGraph.graph c.args.ctx.now) c.deref-u-items.result.now) c.new-all.ensures.items }

pub returns : goal.returns
returns g c = record {
  uses = c.deref-u-items.result.now;
  lists = rw c.deref-u-items.ensures.value (rw (← c.graph.ensures) c.in_ok-uses.ensures);
  blocks = all_met (g.C.HasGraph.graph c.args.ctx.now) c.deref-u-items.result.now c.loop-u.u-index c.loop-u.all.items (let end = c.loop-u-test.false in omega (arith, end)) c.loop-u.invariant.met;
}
