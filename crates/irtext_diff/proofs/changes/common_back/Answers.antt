-- The lines after this one are the same, and so is this one.
use Rattle.std.proofs.Common.{IsTrue, rules, arith, ◌-◌, ◌+◌}
use Rattle.irtext_diff.proofs.Leads.{same_at, same_before}
use Rattle.irtext_diff.proofs.changes.common_back.Goals as goal

pub loop-count-preserved : goal.loop-count-preserved
loop-count-preserved c =
    let same : IsTrue c.is_same.result = search rules in
    let n = c.loop-count.count in
    same_before _ _ (c.args.to.old - n) (c.args.to.new - n) (c.args.to.old - (n + 1)) (c.args.to.new - (n + 1)) n (omega arith) (omega arith)
    (same_at _ _ (c.args.to.old - n - 1) (c.args.to.old - (n + 1)) (c.args.to.new - n - 1) (c.args.to.new - (n + 1)) 1
    (omega arith) (omega arith) (c.is_same.ensures.0 same))
    c.loop-count.invariant
