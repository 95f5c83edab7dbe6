use Rattle.std.proofs.Common.{◌≡◌, Some, take}
use Rattle.irtext_tokens.specs.Digits.{base, value_in}
use Rattle.irtext_tokens.proofs.irfmt.parsers.digits.value_of.Given as goal

abbrev pub invariant-loop-digit : goal.invariant-loop-digit
invariant-loop-digit l = value_in (base l.radix) (take l.digit-index l.digits) ≡ Some l.number
