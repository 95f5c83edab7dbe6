use Rattle.std.proofs.Common.{string_bytes, inl}
use Rattle.irtext_base.proofs.OnlyAppended.{appends_this, failed_after}
use Rattle.irtext_print.specs.Printers.Printing.{width_of}
use Rattle.irtext_print_ops.specs.Heads as heads
use Rattle.irtext_print_ops.proofs.Printed.{operation_fits, operation_printed}
use Rattle.irtext_print_ops.proofs.Refused.{propagated, under_refuses, misfits}
use Rattle.irtext_print_ops.proofs.nested.print_nested.Goals as goal

pub print_operation-requires : goal.print_operation-requires
print_operation-requires g c = record { fits = operation_fits g.T.IrText g.A.IrText g.A.AttrText g.A.PartialEq.eq c.args.ctx.now c.indent_width-width.result c.current_indent-indent.result c.current_region_print_depth_limit-limit.result c.args.op c.args.marked c.in_ok-begun.begun c.requires.live c.in_ok-begun.ensures.begun c.in_ok-begun.ensures.found c.in_ok-begun.ensures.fits }

pub returns : goal.returns
returns g c =
    let p =
    operation_printed g.T.IrText g.A.IrText g.A.AttrText g.A.PartialEq.eq c.args.ctx.now c.args.state.now c.print_operation.result c.args.items.now.items c.print_operation.new.items.items (string_bytes c.args.f.now) (string_bytes c.print_operation.new.f)
    c.indent_width-width.result c.current_indent-indent.result c.current_region_print_depth_limit-limit.result c.indent_width-width.ensures c.current_indent-indent.ensures c.current_region_print_depth_limit-limit.ensures
    c.args.op c.args.marked c.in_ok-begun.begun (string_bytes c.begin_operation.new.f) c.in_ok-begun.ensures.text c.in_ok-begun.ensures.begun c.in_ok-begun.ensures.fits (record { text = c.print_operation.ensures.text; items = c.print_operation.ensures.items; fits = c.print_operation.ensures.fits; refused = c.print_operation.ensures.refused }) in
    record { text = p.text; items = p.items; fits = p.fits; refused = p.refused; appended = failed_after c.print_operation.result c.print_operation.new.f (appends_this _ c.in_ok-begun.ensures.text) c.print_operation.ensures.appended }

pub returns-in_err-begun-clause-refused : goal.returns-in_err-begun-clause-refused
returns-in_err-begun-clause-refused g c =
    let ctx = c.args.ctx.now in
    let s = c.args.state.now in
    let e = c.in_err-begun.field-0.0 in
    propagated _ c.from_residual.result e c.from_residual.ensures.1 (under_refuses g.T.IrText g.A.IrText g.A.AttrText g.A.PartialEq.eq ctx c.args.op s e (λ other. inl (misfits (heads.printing_of g.T.IrText g.A.IrText g.A.AttrText g.A.PartialEq.eq ctx) (heads.language_of g.T.IrText g.A.IrText g.A.AttrText g.A.PartialEq.eq ctx) ctx (width_of s) c.args.op e c.in_err-begun.ensures.refused other)))
