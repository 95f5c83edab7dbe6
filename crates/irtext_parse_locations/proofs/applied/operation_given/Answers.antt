use Rattle.std.proofs.Common.{◌∙◌}
use Rattle.irtext_context.proofs.Kept.{kept_trans}
use Rattle.irtext_parse_locations.proofs.GivenSteps.{located_closed, stored_closed}
use Rattle.irtext_parse_locations.proofs.applied.operation_given.Goals as goal

pub returns-clause-kept : goal.returns-clause-kept
returns-clause-kept g c = λ mark none.
    let first = c.operation_located.ensures.kept mark none in
    kept_trans first (c.operation_stored.ensures.kept mark (first.graph.operations c.args.op ∙ none))

pub returns-clause-closed : goal.returns-clause-closed
returns-clause-closed g c = λ mark closed.
    stored_closed mark c.args.op c.operation_located.new.ctx c.operation_stored.new.ctx c.operation_stored.ensures.edits (located_closed mark c.args.op c.args.location c.args.ctx.now c.operation_located.new.ctx c.operation_located.ensures.locates closed)
