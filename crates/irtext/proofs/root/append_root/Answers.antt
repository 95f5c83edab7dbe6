use Rattle.std.proofs.Common.{◌∙◌, sym, ap, subst, string_bytes}
use Rattle.std.specs.Prelude.{OnOk, IfErr}
use Rattle.irtext_print.specs.Printers.Printing.{with_limit}
use Rattle.irtext_print.specs.declared.printable.state.RegionPrintDepthLimit.TheVariants.{Max}
use Rattle.irtext.specs.Roots.{AppendsIn, RefusesIn}
use Rattle.irtext.specs.declared.root.Form.{Form}
use Rattle.irtext.specs.declared.root.Form.TheVariants.{Whole, Elided}
use Rattle.irtext.proofs.Printing.{whole_appended, elided_appended, refused_in}
use Rattle.irtext.proofs.root.append_root.Goals as goal

pub returns-in-Whole-clause-appends : goal.returns-in-Whole-clause-appends
returns-in-Whole-clause-appends g c =
    subst (λ (f : Form). OnOk c.print_root.result (AppendsIn g.T.IrText g.A.IrText g.A.AttrText g.A.PartialEq.eq c.args.ctx.now c.args.root f (string_bytes c.args.text.now) (string_bytes c.print_root.new.f))) (sym c.in-Whole.is)
    (whole_appended g.T.IrText g.A.IrText g.A.AttrText g.A.PartialEq.eq c.args.ctx.now c.args.root c.new-state.result c.new-state.ensures c.requires.seen c.print_root.new.state c.args.text.now c.print_root.new.f c.print_root.result c.print_root.ensures.prints c.print_root.ensures.defined)

pub returns-in-Whole-clause-refused : goal.returns-in-Whole-clause-refused
returns-in-Whole-clause-refused g c =
    subst (λ (f : Form). IfErr c.print_root.result (RefusesIn g.T.IrText g.A.IrText g.A.AttrText g.A.PartialEq.eq c.args.ctx.now c.args.root f)) (sym c.in-Whole.is)
    (refused_in g.T.IrText g.A.IrText g.A.AttrText g.A.PartialEq.eq c.args.ctx.now c.args.root c.new-state.result Whole c.new-state.ensures c.print_root.result c.print_root.ensures.refused)

pub returns-clause-appends : goal.returns-clause-appends
returns-clause-appends g c =
    subst (λ (f : Form). OnOk c.print_concrete.result (AppendsIn g.T.IrText g.A.IrText g.A.AttrText g.A.PartialEq.eq c.args.ctx.now c.args.root f (string_bytes c.args.text.now) (string_bytes c.print_concrete.new.f))) (sym c.in-Elided.is)
    (elided_appended g.T.IrText g.A.IrText g.A.AttrText g.A.PartialEq.eq c.args.ctx.now c.args.root c.set_region_print_depth_limit.new.self (c.set_region_print_depth_limit.ensures ∙ ap (λ s. with_limit s (Max 0)) c.new-state.ensures) c.print_concrete.new.state c.args.text.now c.print_concrete.new.f c.print_concrete.result c.print_concrete.ensures.prints)

pub returns-clause-refused : goal.returns-clause-refused
returns-clause-refused g c =
    subst (λ (f : Form). IfErr c.print_concrete.result (RefusesIn g.T.IrText g.A.IrText g.A.AttrText g.A.PartialEq.eq c.args.ctx.now c.args.root f)) (sym c.in-Elided.is)
    (refused_in g.T.IrText g.A.IrText g.A.AttrText g.A.PartialEq.eq c.args.ctx.now c.args.root c.set_region_print_depth_limit.new.self Elided (c.set_region_print_depth_limit.ensures ∙ ap (λ s. with_limit s (Max 0)) c.new-state.ensures) c.print_concrete.result c.print_concrete.ensures.refused)
