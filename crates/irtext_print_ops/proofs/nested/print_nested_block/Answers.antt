use Rattle.std.proofs.Common.{◌++◌, ◌∷◌, [], ap, string_bytes}
use Rattle.irtext_base.proofs.OnlyAppended.{appends_more, appends_next, appends_this, failed_after, if_failed}
use Rattle.irtext_print_ops.proofs.Printed.{block_fits, block_frame, block_printed, block_unprinted}
use Rattle.irtext_print_ops.proofs.Refused.{propagated}
use Rattle.irtext_print_ops.proofs.nested.print_nested_block.Goals as goal

pub print_frames-requires : goal.print_frames-requires
print_frames-requires g c = record {
  some = tt;
  fit = block_fits g.T.IrText g.A.IrText g.A.AttrText g.A.PartialEq.eq c.args.ctx.now c.indent_width-width.result c.current_indent-indent.result c.current_region_print_depth_limit-limit.result c.args.block (c.new-frames.result.items ++ block_frame c.args.block c.current_indent-indent.result c.current_region_print_depth_limit-limit.result ∷ [])
      (ap (λ z. z ++ block_frame c.args.block c.current_indent-indent.result c.current_region_print_depth_limit-limit.result ∷ []) c.new-frames.ensures.items) c.requires.live;
}

pub returns : goal.returns
returns g c =
    let p =
    block_printed g.T.IrText g.A.IrText g.A.AttrText g.A.PartialEq.eq c.args.ctx.now c.args.state.now c.print_frames.result c.args.items.now.items c.print_frames.new.items.items (string_bytes c.args.f.now) (string_bytes c.print_frames.new.f)
    c.indent_width-width.result c.current_indent-indent.result c.current_region_print_depth_limit-limit.result c.indent_width-width.ensures c.current_indent-indent.ensures c.current_region_print_depth_limit-limit.ensures
    c.args.block (c.new-frames.result.items ++ block_frame c.args.block c.current_indent-indent.result c.current_region_print_depth_limit-limit.result ∷ []) c.in_ok-inner.inner c.fmt_block_mark.new.items.items (string_bytes c.fmt_block_head.new.f) (string_bytes c.fmt_block_mark.new.f) (string_bytes c.fmt_colon.new.f)
    c.in_ok-inner.ensures.ok c.in_ok-fmt_block_head.ensures.text c.in_ok-fmt_block_mark.ensures.text c.in_ok-fmt_colon.ensures.text c.in_ok-fmt_block_mark.ensures.items
    (ap (λ z. z ++ block_frame c.args.block c.current_indent-indent.result c.current_region_print_depth_limit-limit.result ∷ []) c.new-frames.ensures.items) (record { text = c.print_frames.ensures.text; items = c.print_frames.ensures.items; fits = c.print_frames.ensures.fits; refused = c.print_frames.ensures.refused }) in
    record { text = p.text; items = p.items; fits = p.fits; refused = p.refused; appended = failed_after c.print_frames.result c.print_frames.new.f (appends_next (appends_next {new = c.fmt_block_mark.new.f} (appends_this {new = c.fmt_block_head.new.f} _ c.in_ok-fmt_block_head.ensures.text) _ c.in_ok-fmt_block_mark.ensures.text) _ c.in_ok-fmt_colon.ensures.text) c.print_frames.ensures.appended }

pub returns-in_err-inner-clause-refused : goal.returns-in_err-inner-clause-refused
returns-in_err-inner-clause-refused g c = propagated _ c.from_residual.result c.in_err-inner.field-0.0 c.from_residual.ensures.1
    (block_unprinted g.T.IrText g.A.IrText g.A.AttrText g.A.PartialEq.eq c.args.ctx.now c.args.state.now c.indent_width-width.result c.current_indent-indent.result c.current_region_print_depth_limit-limit.result
    c.indent_width-width.ensures c.current_indent-indent.ensures c.current_region_print_depth_limit-limit.ensures c.args.block c.in_err-inner.field-0.0 c.in_err-inner.ensures.refused)

pub returns-in_err-fmt_colon-clause-appended : goal.returns-in_err-fmt_colon-clause-appended
returns-in_err-fmt_colon-clause-appended g c =
    if_failed _ (appends_more (appends_next {now = c.fmt_block_head.new.f} {new = c.fmt_block_mark.new.f} (appends_this _ c.in_ok-fmt_block_head.ensures.text) _ c.in_ok-fmt_block_mark.ensures.text) c.in_err-fmt_colon.ensures.appended)
