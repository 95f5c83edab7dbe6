use Rattle.std.proofs.Common.{◌++◌, ◌∙◌, ap, string_bytes}
use Rattle.irtext_base.proofs.OnlyAppended.{appends_this, failed_after}
use Rattle.irtext_print_ops.specs.Steps.{listed}
use Rattle.irtext_print_ops.proofs.Tests.{if_none}
use Rattle.irtext_print_ops.proofs.Printed.{region_fits, region_printed, region_unprinted}
use Rattle.irtext_print_ops.proofs.Refused.{propagated}
use Rattle.irtext_print_ops.proofs.nested.print_nested_region.Goals as goal

pub print_frames-requires : goal.print_frames-requires
print_frames-requires g c = record {
  some = if_none c.region_frame.result c.new-frames.ensures.items;
  fit = region_fits g.T.IrText g.A.IrText g.A.AttrText g.A.PartialEq.eq c.args.ctx.now c.indent_width-width.result c.current_indent-indent.result c.current_region_print_depth_limit-limit.result c.args.region (c.new-frames.result.items ++ listed c.region_frame.result)
      (ap (λ z. z ++ listed c.region_frame.result) c.new-frames.ensures.items ∙ (c.region_frame.ensures ∙ c.in_ok-begun.ensures.opens)) c.requires.live;
}

pub returns : goal.returns
returns g c =
    let p =
    region_printed g.T.IrText g.A.IrText g.A.AttrText g.A.PartialEq.eq c.args.ctx.now c.args.state.now c.print_frames.result c.args.items.now.items c.print_frames.new.items.items (string_bytes c.args.f.now) (string_bytes c.print_frames.new.f)
    c.indent_width-width.result c.current_indent-indent.result c.current_region_print_depth_limit-limit.result c.indent_width-width.ensures c.current_indent-indent.ensures c.current_region_print_depth_limit-limit.ensures
    c.args.region (c.new-frames.result.items ++ listed c.region_frame.result) (string_bytes c.begin_region.new.f) c.in_ok-begun.ensures.text
    (ap (λ z. z ++ listed c.region_frame.result) c.new-frames.ensures.items ∙ (c.region_frame.ensures ∙ c.in_ok-begun.ensures.opens)) (record { text = c.print_frames.ensures.text; items = c.print_frames.ensures.items; fits = c.print_frames.ensures.fits; refused = c.print_frames.ensures.refused }) in
    record { text = p.text; items = p.items; fits = p.fits; refused = p.refused; appended = failed_after c.print_frames.result c.print_frames.new.f (appends_this _ c.in_ok-begun.ensures.text) c.print_frames.ensures.appended }

pub returns-in_err-begun-clause-refused : goal.returns-in_err-begun-clause-refused
returns-in_err-begun-clause-refused g c = propagated _ c.from_residual.result c.in_err-begun.field-0.0 c.from_residual.ensures.1
    (region_unprinted g.T.IrText g.A.IrText g.A.AttrText g.A.PartialEq.eq c.args.ctx.now c.args.state.now c.indent_width-width.result c.current_indent-indent.result c.current_region_print_depth_limit-limit.result
    c.indent_width-width.ensures c.current_indent-indent.ensures c.current_region_print_depth_limit-limit.ensures c.args.region c.in_err-begun.field-0.0 c.in_err-begun.ensures.refused)
