use Rattle.std.proofs.Common.{refl}
use Rattle.irtext_print.proofs.Printers.Appended.{then}
use Rattle.irtext_print_ir.proofs.printable.items.fmt_between.Goals as goal

pub returns-then-first-clause-text : goal.returns-then-first-clause-text
returns-then-first-clause-text g c = rw c.if-first.true refl

pub returns-clause-text : goal.returns-clause-text
returns-clause-text g c = then c.fmt.result (λ p. rw c.if-first.false p.text) c.fmt.ensures.text
