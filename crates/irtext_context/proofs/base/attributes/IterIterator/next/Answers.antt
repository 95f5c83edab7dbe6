use Rattle.std.proofs.Common.{ap, arith, length}
use Rattle.std.specs.Map.Iter.{deref_pair}
use Rattle.irtext_context.proofs.Drops.{one_left}
use Rattle.irtext_context.proofs.base.attributes.IterIterator.next.Goals as goal

pub returns-clause-steps : goal.returns-clause-steps
returns-clause-steps g c =
    let it = c.args.self.now in
    one_left it.dict.now it.at (deref_pair c.in_ok-pair.pair) c.in_ok-pair.ensures

pub returns-clause-goes : goal.returns-clause-goes
returns-clause-goes g c =
    let it = c.args.self.now in
    let shorter = ap length (one_left it.dict.now it.at (deref_pair c.in_ok-pair.pair) c.in_ok-pair.ensures) in
    record { on = λ finite. (tt, finite, omega (arith, shorter)); keeps = tt; rests = λ finite. tt }
