use Rattle.std.proofs.Common.{[], ap, sym}
use Rattle.std.specs.Str.{chars}
use Rattle.irtext_stream.specs.NotationPieces.{means}
use Rattle.irtext_arith.specs.Operations.{arith_op}
use Rattle.irtext_arith.proofs.operations.notation.Goals as goal

pub returns-in-Constant : goal.returns-in-Constant
unfolding chars
returns-in-Constant c = ap (λ op. means (arith_op op).format []) (sym c.in-Constant.is)

pub returns-in-Add : goal.returns-in-Add
unfolding chars
returns-in-Add c = ap (λ op. means (arith_op op).format []) (sym c.in-Add.is)

pub returns-in-Compare : goal.returns-in-Compare
unfolding chars
returns-in-Compare c = ap (λ op. means (arith_op op).format []) (sym c.in-Compare.is)

pub returns-in-Func : goal.returns-in-Func
unfolding chars
returns-in-Func c = ap (λ op. means (arith_op op).format []) (sym c.in-Func.is)

pub returns-in-Return : goal.returns-in-Return
unfolding chars
returns-in-Return c = ap (λ op. means (arith_op op).format []) (sym c.in-Return.is)
