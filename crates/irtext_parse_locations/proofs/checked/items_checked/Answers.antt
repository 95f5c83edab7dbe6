use Rattle.std.proofs.Common.{refl, ◌∙◌, ap}
use Rattle.irtext_tokens.proofs.Exits.{propagated}
use Rattle.irtext_parse_locations.specs.Checked.{pairs_wrong, items_wrong}
use Rattle.irtext_parse_locations.specs.Rules.{is_block}
use Rattle.irtext_parse_locations.proofs.CheckSteps.{refused_first, none_wrong}
use Rattle.irtext_parse_locations.proofs.checked.items_checked.Goals as goal

pub loop-entry-preserved : goal.loop-entry-preserved
loop-entry-preserved g c =
    let i = c.loop-entry.invariant in
    let once = c.args.once.now.entries in
    let next = c.in-Some in
    let entry = next.entry.now in
    let k = rw (c.is_block.ensures, c.as_slice.ensures.value) at c.in_ok-pairs_checked.ensures in
    let f = ap (items_wrong once) next.ensures.cases.0 in
    (k.1 ∙ i.0, none_wrong (items_wrong once c.args.items.now) (items_wrong once c.loop-entry.left.now) (pairs_wrong once (is_block entry.item) entry.pairs.items) (items_wrong once next.rest.now) i.1 f k.0)

pub returns-in_err-pairs_checked : goal.returns-in_err-pairs_checked
returns-in_err-pairs_checked g c =
    let i = c.loop-entry.invariant in
    let once = c.args.once.now.entries in
    let next = c.in-Some in
    let f = ap (items_wrong once) next.ensures.cases.0 in
    rw (propagated c.from_residual.result c.from_residual.ensures.1) (refused_first (items_wrong once c.args.items.now) (items_wrong once c.loop-entry.left.now) (pairs_wrong once (is_block next.entry.now.item) next.entry.now.pairs.items) (items_wrong once next.rest.now) c.args.stream.now c.loop-entry.stream c.pairs_checked.new.stream c.in_err-pairs_checked.field-0.0 i.1 f i.0 (rw (c.is_block.ensures, c.as_slice.ensures.value) at c.in_err-pairs_checked.ensures))

pub loop-entry-init : goal.loop-entry-init
loop-entry-init g c = (refl, refl)
