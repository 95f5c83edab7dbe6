-- For callers: what the types of the dialect `arith` hold.
use Rattle.std.specs.Prelude.{ℕ, Option, Some, None}
use Rattle.irtext_arith.specs.declared.types.ArithType.{ArithType}
use Rattle.irtext_arith.specs.declared.types.ArithType.TheVariants as ty

-- what `arith.int` holds, if it is one: number
abbrev pub as_int : ArithType → Option ℕ
as_int (ty.Int x) = Some x.value
as_int _ = None
