use Rattle.std.proofs.Common.{option_map, subst, string_bytes}
use Rattle.irtext_print.proofs.Printers.Appended.{then, then-err}
use Rattle.irtext_print_ops.specs.Heads as heads
use Rattle.irtext_print_ops.specs.Walk.{Reaches}
use Rattle.irtext_print_ops.specs.declared.frame.Frame.TheVariants as framed
use Rattle.irtext_print_ops.proofs.Descents.{reached_end, reached_fits, reached_fault}
use Rattle.irtext_print_ops.proofs.step.step.Goals as goal

pub block_step-requires : goal.block_step-requires
block_step-requires g c =
    let ctx = c.args.ctx.now in
    let r = subst (λ z. Reaches (heads.printing_of g.T.IrText g.A.IrText g.A.AttrText g.A.PartialEq.eq ctx) (heads.language_of g.T.IrText g.A.IrText g.A.AttrText g.A.PartialEq.eq ctx) ctx c.args.width c.args.frame (option_map framed.Block z) c.args.items.now.items c.innermost_block.new.items.items c.args.frames.now.items c.innermost_block.new.frames.items (string_bytes c.args.f.now) (string_bytes c.innermost_block.new.f)) c.in-Some.is c.in_ok-block.ensures.steps in
    record { fits = reached_fits (heads.printing_of g.T.IrText g.A.IrText g.A.AttrText g.A.PartialEq.eq ctx) (heads.language_of g.T.IrText g.A.IrText g.A.AttrText g.A.PartialEq.eq ctx) ctx c.args.width c.args.frame (framed.Block c.in-Some.block) c.args.items.now.items c.innermost_block.new.items.items c.args.frames.now.items c.innermost_block.new.frames.items (string_bytes c.args.f.now) (string_bytes c.innermost_block.new.f) c.requires.fits r }

pub returns-clause-steps : goal.returns-clause-steps
returns-clause-steps g c =
    let ctx = c.args.ctx.now in
    let r = subst (λ z. Reaches (heads.printing_of g.T.IrText g.A.IrText g.A.AttrText g.A.PartialEq.eq ctx) (heads.language_of g.T.IrText g.A.IrText g.A.AttrText g.A.PartialEq.eq ctx) ctx c.args.width c.args.frame (option_map framed.Block z) c.args.items.now.items c.innermost_block.new.items.items c.args.frames.now.items c.innermost_block.new.frames.items (string_bytes c.args.f.now) (string_bytes c.innermost_block.new.f)) c.in-Some.is c.in_ok-block.ensures.steps in
    then c.block_step.result (λ t. reached_end (heads.printing_of g.T.IrText g.A.IrText g.A.AttrText g.A.PartialEq.eq ctx) (heads.language_of g.T.IrText g.A.IrText g.A.AttrText g.A.PartialEq.eq ctx) ctx c.args.width c.args.frame (framed.Block c.in-Some.block) c.args.items.now.items c.innermost_block.new.items.items c.args.frames.now.items c.innermost_block.new.frames.items (string_bytes c.args.f.now) (string_bytes c.innermost_block.new.f) c.block_step.new.items.items c.block_step.new.frames.items (string_bytes c.block_step.new.f) r t) c.block_step.ensures.steps

pub returns-clause-refused : goal.returns-clause-refused
returns-clause-refused g c =
    let ctx = c.args.ctx.now in
    let r = subst (λ z. Reaches (heads.printing_of g.T.IrText g.A.IrText g.A.AttrText g.A.PartialEq.eq ctx) (heads.language_of g.T.IrText g.A.IrText g.A.AttrText g.A.PartialEq.eq ctx) ctx c.args.width c.args.frame (option_map framed.Block z) c.args.items.now.items c.innermost_block.new.items.items c.args.frames.now.items c.innermost_block.new.frames.items (string_bytes c.args.f.now) (string_bytes c.innermost_block.new.f)) c.in-Some.is c.in_ok-block.ensures.steps in
    then-err c.block_step.result (λ e h other. reached_fault (heads.printing_of g.T.IrText g.A.IrText g.A.AttrText g.A.PartialEq.eq ctx) (heads.language_of g.T.IrText g.A.IrText g.A.AttrText g.A.PartialEq.eq ctx) ctx c.args.width c.args.frame (framed.Block c.in-Some.block) c.args.items.now.items c.innermost_block.new.items.items c.args.frames.now.items c.innermost_block.new.frames.items (string_bytes c.args.f.now) (string_bytes c.innermost_block.new.f) r e (h other)) c.block_step.ensures.refused
