use Rattle.std.proofs.Common.{◌≡◌, ◌+◌, suc, drop, subst, arith}
use Rattle.irtext_context.specs.Dialects.{AllAccepted}
use Rattle.irtext_context.proofs.Dialects.{accepted_from}
use Rattle.irtext_context.proofs.base.context.Context.keeps_formats.Goals as goal

pub loop-index-preserved : goal.loop-index-preserved
loop-index-preserved g c = λ h.
    let i = c.loop-index.index in
    let next : i + 1 ≡ suc i = omega arith in
    c.loop-index.invariant (accepted_from i c.args.self.now.dialects c.index.result.now (rw (← c.self.view_is) c.index.ensures) c.keeps_formats.ensures (subst (λ n. AllAccepted (drop n c.args.self.now.dialects)) next h))
