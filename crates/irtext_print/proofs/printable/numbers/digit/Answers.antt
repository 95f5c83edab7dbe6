use Rattle.std.proofs.Common.{◌*◌, ◌+◌, ◌≤◌, ◌∙◌, ap, arith, length}
use Rattle.std.proofs.lemmas.Str.{IsCharBoundary-from_ascii}
use Rattle.std.proofs.lemmas.Fmt.{decimal_digit}
use Rattle.irtext_print.proofs.Digits.{pairs, pairs-ascii, one-slice}
use Rattle.irtext_print.proofs.printable.numbers.digit.Goals as goal

pub range-requires-clause-start_boundary : goal.range-requires-clause-start_boundary
range-requires-clause-start_boundary c =
    let few : 2 * c.args.number + 1 ≤ 200 = omega (arith, c.requires) in
    λ _. IsCharBoundary-from_ascii (pairs 0 100) (2 * c.args.number + 1) (pairs-ascii 0 100 (omega arith)) few

pub range-requires-clause-end_boundary : goal.range-requires-clause-end_boundary
range-requires-clause-end_boundary c =
    let few : 2 * c.args.number + 1 + 1 ≤ 200 = omega (arith, c.requires) in
    IsCharBoundary-from_ascii (pairs 0 100) (2 * c.args.number + 1 + 1) (pairs-ascii 0 100 (omega arith)) few

pub returns : goal.returns
returns c =
    let digits = c.range.ensures.value ∙ one-slice c.args.number c.requires in
    record { value = digits; len = ap length (digits ∙ decimal_digit c.args.number c.requires) }
