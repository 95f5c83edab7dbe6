use Rattle.std.proofs.Common.{refl, ◌∙◌, ap}
use Rattle.irtext_tokens.proofs.Exits.{propagated}
use Rattle.irtext_parse_locations.specs.Checked.{pair_wrong, pairs_wrong}
use Rattle.irtext_parse_locations.proofs.CheckSteps.{refused_first, none_wrong}
use Rattle.irtext_parse_locations.proofs.checked.pairs_checked.Goals as goal

pub loop-pair-init : goal.loop-pair-init
loop-pair-init g c = (refl, refl)

pub returns-in_err-pair_checked : goal.returns-in_err-pair_checked
returns-in_err-pair_checked g c =
    let i = c.loop-pair.invariant in
    let once = c.args.once.now.entries in
    let next = c.in-Some in
    let f = ap (pairs_wrong once c.args.of_block) next.ensures.cases.0 in
    rw (propagated c.from_residual.result c.from_residual.ensures.1) (refused_first (pairs_wrong once c.args.of_block c.args.pairs.now) (pairs_wrong once c.args.of_block c.loop-pair.left.now) (pair_wrong once c.args.of_block next.pair.now) (pairs_wrong once c.args.of_block next.rest.now) c.args.stream.now c.loop-pair.stream c.pair_checked.new.stream c.in_err-pair_checked.field-0.0 i.1 f i.0 c.in_err-pair_checked.ensures)

pub loop-pair-preserved : goal.loop-pair-preserved
loop-pair-preserved g c =
    let i = c.loop-pair.invariant in
    let once = c.args.once.now.entries in
    let next = c.in-Some in
    let k = c.in_ok-pair_checked.ensures in
    let f = ap (pairs_wrong once c.args.of_block) next.ensures.cases.0 in
    (k.1 ∙ i.0, none_wrong (pairs_wrong once c.args.of_block c.args.pairs.now) (pairs_wrong once c.args.of_block c.loop-pair.left.now) (pair_wrong once c.args.of_block next.pair.now) (pairs_wrong once c.args.of_block next.rest.now) i.1 f k.0)
