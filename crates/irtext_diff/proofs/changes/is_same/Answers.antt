-- The test compares the bytes of both lines.
use Rattle.irtext_diff.proofs.Leads.{one_decides}
use Rattle.irtext_diff.proofs.changes.is_same.Goals as goal

pub returns : goal.returns
returns c = rw c.eq.ensures (one_decides _ _ _ _ _ c.requires.of_old c.requires.of_new)
