-- The lines that are passed are the same, so the changes lead on.
use Rattle.irtext_diff.proofs.Leads.{leads_on}
use Rattle.irtext_diff.proofs.changes.Walk.keep.Goals as goal

pub returns-clause-leads : goal.returns-clause-leads
returns-clause-leads c old new same leads = leads_on old new 0 0 _ _ _ c.args.count same leads
