use Rattle.std.proofs.Common.{◌≡◌, ◌∙◌, ◌<◌, ◌≤◌, ◌/◌, ◌*◌, suc, ap, sym, arith}
use Rattle.std.proofs.Math.Nat.{div-div-eq-div-mul, pow-suc}
use Rattle.irtext_parts.proofs.hex.first_place.Goals as goal

pub loop-place-preserved : goal.loop-place-preserved
loop-place-preserved c =
    let kept = c.loop-place.invariant in
    let next : c.args.bits / c.loop-place.place / 16 ≡ c.args.bits / (c.loop-place.place * 16) = div-div-eq-div-mul c.args.bits c.loop-place.place 16 in
    (omega (arith, kept.0), (suc kept.1.0, ap (λ z. z * 16) kept.1.1 ∙ sym (pow-suc 16 kept.1.0)), λ _. omega (arith, next, c.loop-place-test.true))
