-- One change more.
use Rattle.irtext_diff.proofs.Leads.{leads_to}
use Rattle.irtext_diff.proofs.changes.Walk.replace.Goals as goal

pub returns-clause-leads : goal.returns-clause-leads
returns-clause-leads c old new leads = rw c.in_ok-push.ensures.items (leads_to old new 0 0 _ _ _ _ _ c.requires.after_old c.requires.after_new leads)
