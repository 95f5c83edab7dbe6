use Rattle.std.proofs.Common.{[], ap, sym}
use Rattle.std.specs.Str.{chars}
use Rattle.irtext_stream.specs.NotationPieces.{means}
use Rattle.irtext_demo.specs.DemoDialects.{demo_op}
use Rattle.irtext_demo.proofs.dialects.notation.Goals as goal

pub returns-in-Module : goal.returns-in-Module
unfolding chars
returns-in-Module c = ap (λ demo. means (demo_op demo).format []) (sym c.in-Module.is)

pub returns-in-Function : goal.returns-in-Function
unfolding chars
returns-in-Function c = ap (λ demo. means (demo_op demo).format []) (sym c.in-Function.is)

pub returns-in-Constant : goal.returns-in-Constant
unfolding chars
returns-in-Constant c = ap (λ demo. means (demo_op demo).format []) (sym c.in-Constant.is)

pub returns-in-Return : goal.returns-in-Return
unfolding chars
returns-in-Return c = ap (λ demo. means (demo_op demo).format []) (sym c.in-Return.is)

pub returns-in-Use : goal.returns-in-Use
unfolding chars
returns-in-Use c = ap (λ demo. means (demo_op demo).format []) (sym c.in-Use.is)

pub returns-in-Make : goal.returns-in-Make
unfolding chars
returns-in-Make c = ap (λ demo. means (demo_op demo).format []) (sym c.in-Make.is)

pub returns-in-Branch : goal.returns-in-Branch
unfolding chars
returns-in-Branch c = ap (λ demo. means (demo_op demo).format []) (sym c.in-Branch.is)

pub returns-in-Scope : goal.returns-in-Scope
unfolding chars
returns-in-Scope c = ap (λ demo. means (demo_op demo).format []) (sym c.in-Scope.is)

pub returns-in-Nop : goal.returns-in-Nop
unfolding chars
returns-in-Nop c = ap (λ demo. means (demo_op demo).format []) (sym c.in-Nop.is)

pub returns-in-Global : goal.returns-in-Global
unfolding chars
returns-in-Global c = ap (λ demo. means (demo_op demo).format []) (sym c.in-Global.is)
