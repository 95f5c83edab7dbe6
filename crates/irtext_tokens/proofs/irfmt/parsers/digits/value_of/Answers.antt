use Rattle.std.proofs.Common.{Some, None, ◌+◌, ◌∙◌, arith, sym}
use Rattle.irtext_tokens.proofs.Numbers.{value_in-next, value_in-stops}
use Rattle.irtext_tokens.proofs.irfmt.parsers.digits.value_of.Goals as goal

pub returns-in_err-number : goal.returns-in_err-number
returns-in_err-number c =
    let digits = c.args.digits.now in
    let i = c.loop-digit.digit-index in
    c.from_residual.ensures ∙ sym (value_in-stops c.args.radix digits (i + 1) (value_in-next c.args.radix digits i c.loop-digit.number None (omega (arith, c.loop-digit-test.true)) c.loop-digit.invariant c.in_err-number.ensures))

pub loop-digit-preserved : goal.loop-digit-preserved
loop-digit-preserved c =
    value_in-next c.args.radix c.args.digits.now c.loop-digit.digit-index c.loop-digit.number (Some c.in_ok-number.number) (omega (arith, c.loop-digit-test.true)) c.loop-digit.invariant c.in_ok-number.ensures
