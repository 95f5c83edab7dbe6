-- The lines before this one are the same, and so is this one.
use Rattle.std.proofs.Common.{IsTrue, rules}
use Rattle.irtext_diff.proofs.Leads.{same_more}
use Rattle.irtext_diff.proofs.changes.common_front.Goals as goal

pub loop-count-preserved : goal.loop-count-preserved
loop-count-preserved c =
    let same : IsTrue c.is_same.result = search rules in
    same_more _ _ c.args.from.old c.args.from.new c.loop-count.count 1 c.loop-count.invariant (c.is_same.ensures.0 same)
