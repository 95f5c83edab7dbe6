use Rattle.std.proofs.Common.{◌≡◌, ◌∙◌, refl, ap, subst, OnOk, IfErr, string_bytes}
use Rattle.irtext_print.proofs.Printers.Appended.{then}
use Rattle.irtext_print.specs.Printers.Printing.{with_limit}
use Rattle.irtext_print.specs.declared.printable.state.RegionPrintDepthLimit.TheVariants.{Max}
use Rattle.irtext_print_ir.specs.Printers.Printed as printed
use Rattle.irtext_print_ops.specs.Heads as heads
use Rattle.irtext_print_ir.proofs.ir.print.debug.print_elided.Goals as goal

pub returns-clause-prints : goal.returns-clause-prints
returns-clause-prints g c =
    let is : c.set_region_print_depth_limit.new.self ≡ printed.debugging = c.set_region_print_depth_limit.ensures ∙ ap (λ s. with_limit s (Max 0)) c.new-state.ensures in
    subst (λ s. OnOk c.print_concrete.result (printed.Printed (printed.concrete_text g.T.IrText g.A.IrText g.A.AttrText g.A.PartialEq.eq c.args.ctx.now c.args.op s) (printed.concrete_left g.T.IrText g.A.IrText g.A.AttrText g.A.PartialEq.eq c.args.ctx.now c.args.op s) (heads.MisfitsUnder g.T.IrText g.A.IrText g.A.AttrText g.A.PartialEq.eq c.args.ctx.now c.args.op s) (string_bytes c.args.f.now) (printed.concrete_left g.T.IrText g.A.IrText g.A.AttrText g.A.PartialEq.eq c.args.ctx.now c.args.op s) (string_bytes c.print_concrete.new.f))) is
    (then c.print_concrete.result (λ p. record { text = p.text; state = refl; fits = p.fits }) c.print_concrete.ensures.prints)

pub returns-clause-refused : goal.returns-clause-refused
returns-clause-refused g c =
    let is : c.set_region_print_depth_limit.new.self ≡ printed.debugging = c.set_region_print_depth_limit.ensures ∙ ap (λ s. with_limit s (Max 0)) c.new-state.ensures in
    subst (λ s. IfErr c.print_concrete.result (heads.RefusesUnder g.T.IrText g.A.IrText g.A.AttrText g.A.PartialEq.eq c.args.ctx.now c.args.op s)) is c.print_concrete.ensures.refused
