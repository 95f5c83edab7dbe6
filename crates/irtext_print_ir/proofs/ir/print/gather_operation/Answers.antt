use Rattle.std.proofs.Common.{IfErr, subst, string_bytes}
use Rattle.irtext_print_ops.specs.Heads as heads
use Rattle.irtext_print_ir.proofs.Printers.Gathered.{put_back, rests_put}
use Rattle.irtext_print_ir.proofs.ir.print.gather_operation.Goals as goal

pub returns : goal.returns
returns g c = record {
  prints = put_back c.print_nested-answer.result (λ z n. heads.text_under g.T.IrText g.A.IrText g.A.AttrText g.A.PartialEq.eq c.args.ctx.now c.args.op z c.args.marked n) (λ z. heads.items_under g.T.IrText g.A.IrText g.A.AttrText g.A.PartialEq.eq c.args.ctx.now c.args.op z c.args.marked) (λ z. heads.MisfitsUnder g.T.IrText g.A.IrText g.A.AttrText g.A.PartialEq.eq c.args.ctx.now c.args.op z) c.args.state.now c.take_gathered-items.new.state c.put_gathered.new.state c.take_gathered-items.result.items c.print_nested-answer.new.items.items (string_bytes c.args.f.now) (string_bytes c.print_nested-answer.new.f) c.take_gathered-items.ensures.taken c.take_gathered-items.ensures.left c.put_gathered.ensures c.print_nested-answer.ensures.text c.print_nested-answer.ensures.items c.print_nested-answer.ensures.fits;
  refused = subst (λ z. IfErr c.print_nested-answer.result (heads.RefusesUnder g.T.IrText g.A.IrText g.A.AttrText g.A.PartialEq.eq c.args.ctx.now c.args.op z)) c.take_gathered-items.ensures.left c.print_nested-answer.ensures.refused;
  rest = rests_put c.args.state.now c.take_gathered-items.new.state c.put_gathered.new.state c.print_nested-answer.new.items.items c.take_gathered-items.ensures.left c.put_gathered.ensures;
  appended = c.print_nested-answer.ensures.appended;
}
