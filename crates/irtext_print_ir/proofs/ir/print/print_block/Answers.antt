use Rattle.std.proofs.Common.{IfErr, subst, string_bytes}
use Rattle.irtext_print_ops.specs.Heads as heads
use Rattle.irtext_print.specs.declared.printable.refusal.Refusal.TheVariants.{Misfit}
use Rattle.irtext_print_ir.proofs.Printers.Gathered.{put_back, rests_put}
use Rattle.irtext_print_ir.proofs.ir.print.print_block.Goals as goal

pub returns : goal.returns
returns g c = record {
  prints = put_back c.print_nested_block-answer.result (λ z n. heads.block_text_under g.T.IrText g.A.IrText g.A.AttrText g.A.PartialEq.eq c.args.ctx.now c.args.block z n) (λ z. heads.block_items_under g.T.IrText g.A.IrText g.A.AttrText g.A.PartialEq.eq c.args.ctx.now c.args.block z) (λ z. heads.BlockFaultUnder g.T.IrText g.A.IrText g.A.AttrText g.A.PartialEq.eq c.args.ctx.now c.args.block z Misfit) c.args.state.now c.take_gathered-items.new.state c.put_gathered.new.state c.take_gathered-items.result.items c.print_nested_block-answer.new.items.items (string_bytes c.args.f.now) (string_bytes c.print_nested_block-answer.new.f) c.take_gathered-items.ensures.taken c.take_gathered-items.ensures.left c.put_gathered.ensures c.print_nested_block-answer.ensures.text c.print_nested_block-answer.ensures.items c.print_nested_block-answer.ensures.fits;
  refused = subst (λ z. IfErr c.print_nested_block-answer.result (heads.RefusesBlockUnder g.T.IrText g.A.IrText g.A.AttrText g.A.PartialEq.eq c.args.ctx.now c.args.block z)) c.take_gathered-items.ensures.left c.print_nested_block-answer.ensures.refused;
  rest = rests_put c.args.state.now c.take_gathered-items.new.state c.put_gathered.new.state c.print_nested_block-answer.new.items.items c.take_gathered-items.ensures.left c.put_gathered.ensures;
  appended = c.print_nested_block-answer.ensures.appended;
}
