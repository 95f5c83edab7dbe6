use Rattle.std.proofs.Common.{sym, subst, string_bytes, option_and_then}
use Rattle.irtext_print.specs.Printers.Appended.{Writes}
use Rattle.irtext_print_ir.specs.Printers.Printed.{region_gives}
use Rattle.irtext_print_ir.proofs.irfmt.printers.op.OneRegionPrintable.fmt.Goals as goal

pub returns-clause-text : goal.returns-clause-text
returns-clause-text g c =
    let p = c.in_ok-print_region.ensures.prints in
    subst (λ o. Writes (option_and_then (λ r. region_gives g.T.IrText g.A.IrText g.A.AttrText g.A.PartialEq.eq c.args.ctx.now r c.args.state.now) o) c.print_region.new.state (string_bytes c.args.f.now) (string_bytes c.print_region.new.f)) (sym p.1)
    (record { text = p.2.text; state = p.2.state })
