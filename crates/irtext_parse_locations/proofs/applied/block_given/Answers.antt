use Rattle.std.proofs.Common.{◌∙◌}
use Rattle.irtext_context.proofs.Kept.{kept_trans}
use Rattle.irtext_parse_locations.proofs.GivenSteps.{located_block_closed, stored_block_closed, labelled_closed}
use Rattle.irtext_parse_locations.proofs.applied.block_given.Goals as goal

pub returns-in_err-label-clause-kept : goal.returns-in_err-label-clause-kept
returns-in_err-label-clause-kept g c = λ mark none.
    let first = c.block_located.ensures.kept mark none in
    kept_trans first (c.in_err-label.ensures.kept mark (first.graph.blocks c.args.at ∙ none))

pub returns-in_err-label-clause-closed : goal.returns-in_err-label-clause-closed
returns-in_err-label-clause-closed g c = λ mark closed.
    stored_block_closed mark c.args.at c.block_located.new.ctx c.block_stored.new.ctx c.in_err-label.ensures.edits (located_block_closed mark c.args.at c.args.location c.args.ctx.now c.block_located.new.ctx c.block_located.ensures.locates closed)

pub returns-clause-kept : goal.returns-clause-kept
returns-clause-kept g c = λ mark none.
    let first = c.block_located.ensures.kept mark none in
    let both = kept_trans first (c.in_ok-label.ensures.kept mark (first.graph.blocks c.args.at ∙ none)) in
    kept_trans both (c.block_labelled.ensures.kept mark (both.graph.blocks c.args.at ∙ none))

pub returns-clause-closed : goal.returns-clause-closed
returns-clause-closed g c = λ mark closed.
    labelled_closed mark c.args.at c.in_ok-label.label c.block_stored.new.ctx c.block_labelled.new.ctx c.block_labelled.ensures.labels
    (stored_block_closed mark c.args.at c.block_located.new.ctx c.block_stored.new.ctx c.in_ok-label.ensures.edits (located_block_closed mark c.args.at c.args.location c.args.ctx.now c.block_located.new.ctx c.block_located.ensures.locates closed))
