use Rattle.std.proofs.Common.{◌≡◌, refl, arith, Some, get_or, slice_get}
use Rattle.std.proofs.lemmas.Option.{slice_get-get_or, slice_get_within}
use Rattle.irtext_graph.specs.declared.object.Value.TheVariants.{Result}
use Rattle.irtext_graph.specs.Parts.{IsDefinedValue}
use Rattle.irtext_graph.proofs.Indexed.{one_more_holds}
use Rattle.irtext_graph_queries.proofs.contained.contains_values.Goals as goal

pub loop-v-preserved : goal.loop-v-preserved
loop-v-preserved g c =
    let xs = c.args.values.now in
    let i = c.loop-v.v-index in
    let x = get_or xs i (Result (record { index = 0; generation = 0; of = record {} }) 0) in
    let at : slice_get xs i ≡ Some x = slice_get-get_or xs i _ c.loop-v-test.true in
    record { there = one_more_holds (λ v. IsDefinedValue c.args.graph.now v) xs i x at (c.contains_value.ensures.0 c.if-not-contains_value.false) c.loop-v.invariant.there }

pub returns-then-not-contains_value : goal.returns-then-not-contains_value
returns-then-not-contains_value g c =
    let xs = c.args.values.now in
    let i = c.loop-v.v-index in
    let x = get_or xs i (Result (record { index = 0; generation = 0; of = record {} }) 0) in
    let at : slice_get xs i ≡ Some x = slice_get-get_or xs i _ c.loop-v-test.true in
    (λ e. absurd (cc), λ all. absurd (let met = c.contains_value.ensures.1 (all i x at) in let not_met = c.if-not-contains_value.true in cc))

pub returns : goal.returns
returns g c =
    (λ e i x at. c.loop-v.invariant.there i x (let low = slice_get_within c.args.values.now i x at in let end = c.loop-v-test.false in omega (arith, low, end)) at, λ all. refl)
