use Rattle.std.proofs.Common.{inr, option_map, subst, string_bytes}
use Rattle.irtext_print.proofs.Printers.Appended.{then-err}
use Rattle.irtext_print_ops.specs.Heads as heads
use Rattle.irtext_print_ops.specs.Steps.{block_left}
use Rattle.irtext_print_ops.specs.Walk.{Leads}
use Rattle.irtext_print_ops.specs.declared.frame.Frame.TheVariants as framed
use Rattle.irtext_print_ops.proofs.Descents.{leads_on, reached_fits, reached_fault}
use Rattle.irtext_print_ops.proofs.Tests.{in_ok}
use Rattle.irtext_print_ops.proofs.step.next_block.Goals as goal

pub region_step-requires : goal.region_step-requires
region_step-requires g c =
    let ctx = c.args.ctx.now in
    let d = subst (λ z. Leads (heads.printing_of g.T.IrText g.A.IrText g.A.AttrText g.A.PartialEq.eq ctx) (heads.language_of g.T.IrText g.A.IrText g.A.AttrText g.A.PartialEq.eq ctx) ctx c.args.width (framed.Block c.args.frame) (block_left z) c.args.items.now.items c.block_turn.new.items.items c.args.frames.now.items c.block_turn.new.frames.items (string_bytes c.args.f.now) (string_bytes c.block_turn.new.f)) c.in-Enters.is c.in_ok-block_turn.ensures.steps in
    record { fits = reached_fits (heads.printing_of g.T.IrText g.A.IrText g.A.AttrText g.A.PartialEq.eq ctx) (heads.language_of g.T.IrText g.A.IrText g.A.AttrText g.A.PartialEq.eq ctx) ctx c.args.width (framed.Block c.args.frame) (framed.Region c.in-Enters.inside) c.args.items.now.items c.block_turn.new.items.items c.args.frames.now.items c.block_turn.new.frames.items (string_bytes c.args.f.now) (string_bytes c.block_turn.new.f) c.requires.fits (inr d) }

pub returns-in-Enters-clause-steps : goal.returns-in-Enters-clause-steps
returns-in-Enters-clause-steps g c =
    let ctx = c.args.ctx.now in
    let d = subst (λ z. Leads (heads.printing_of g.T.IrText g.A.IrText g.A.AttrText g.A.PartialEq.eq ctx) (heads.language_of g.T.IrText g.A.IrText g.A.AttrText g.A.PartialEq.eq ctx) ctx c.args.width (framed.Block c.args.frame) (block_left z) c.args.items.now.items c.block_turn.new.items.items c.args.frames.now.items c.block_turn.new.frames.items (string_bytes c.args.f.now) (string_bytes c.block_turn.new.f)) c.in-Enters.is c.in_ok-block_turn.ensures.steps in
    in_ok c.region_step.result (λ inner t. leads_on (heads.printing_of g.T.IrText g.A.IrText g.A.AttrText g.A.PartialEq.eq ctx) (heads.language_of g.T.IrText g.A.IrText g.A.AttrText g.A.PartialEq.eq ctx) ctx c.args.width (framed.Block c.args.frame) (framed.Region c.in-Enters.inside) c.args.items.now.items c.block_turn.new.items.items c.args.frames.now.items c.block_turn.new.frames.items (string_bytes c.args.f.now) (string_bytes c.block_turn.new.f) (option_map framed.Block inner) c.region_step.new.items.items c.region_step.new.frames.items (string_bytes c.region_step.new.f) (inr d) t) c.region_step.ensures.steps

pub returns-in-Enters-clause-refused : goal.returns-in-Enters-clause-refused
returns-in-Enters-clause-refused g c =
    let ctx = c.args.ctx.now in
    let d = subst (λ z. Leads (heads.printing_of g.T.IrText g.A.IrText g.A.AttrText g.A.PartialEq.eq ctx) (heads.language_of g.T.IrText g.A.IrText g.A.AttrText g.A.PartialEq.eq ctx) ctx c.args.width (framed.Block c.args.frame) (block_left z) c.args.items.now.items c.block_turn.new.items.items c.args.frames.now.items c.block_turn.new.frames.items (string_bytes c.args.f.now) (string_bytes c.block_turn.new.f)) c.in-Enters.is c.in_ok-block_turn.ensures.steps in
    then-err c.region_step.result (λ e h other. reached_fault (heads.printing_of g.T.IrText g.A.IrText g.A.AttrText g.A.PartialEq.eq ctx) (heads.language_of g.T.IrText g.A.IrText g.A.AttrText g.A.PartialEq.eq ctx) ctx c.args.width (framed.Block c.args.frame) (framed.Region c.in-Enters.inside) c.args.items.now.items c.block_turn.new.items.items c.args.frames.now.items c.block_turn.new.frames.items (string_bytes c.args.f.now) (string_bytes c.block_turn.new.f) (inr d) e (h other)) c.region_step.ensures.refused
