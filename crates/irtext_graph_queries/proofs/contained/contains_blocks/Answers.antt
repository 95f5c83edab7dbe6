use Rattle.std.proofs.Common.{◌≡◌, refl, arith, Some, get_or, slice_get}
use Rattle.std.proofs.lemmas.Option.{slice_get-get_or, slice_get_within}
use Rattle.irtext_graph.specs.declared.object.Object.TheVariants.{TheBlock}
use Rattle.irtext_graph.specs.Graph.{IsLive}
use Rattle.irtext_graph.proofs.Indexed.{one_more_holds}
use Rattle.irtext_graph_queries.proofs.contained.contains_blocks.Goals as goal

pub loop-b-preserved : goal.loop-b-preserved
loop-b-preserved g c =
    let xs = c.args.blocks.now in
    let i = c.loop-b.b-index in
    let x = get_or xs i (record { index = 0; generation = 0; of = record {} }) in
    let at : slice_get xs i ≡ Some x = slice_get-get_or xs i _ c.loop-b-test.true in
    record { there = one_more_holds (λ b. IsLive c.args.graph.now (TheBlock b)) xs i x at (c.contains.ensures.0 c.if-not-contains.false) c.loop-b.invariant.there }

pub returns-then-not-contains : goal.returns-then-not-contains
returns-then-not-contains g c =
    let xs = c.args.blocks.now in
    let i = c.loop-b.b-index in
    let x = get_or xs i (record { index = 0; generation = 0; of = record {} }) in
    let at : slice_get xs i ≡ Some x = slice_get-get_or xs i _ c.loop-b-test.true in
    (λ e. absurd (cc), λ all. absurd (let met = c.contains.ensures.1 (all i x at) in let not_met = c.if-not-contains.true in cc))

pub returns : goal.returns
returns g c =
    (λ e i x at. c.loop-b.invariant.there i x (let low = slice_get_within c.args.blocks.now i x at in let end = c.loop-b-test.false in omega (arith, low, end)) at, λ all. refl)
