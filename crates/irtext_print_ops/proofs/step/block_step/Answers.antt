use Rattle.std.proofs.Common.{refl, inl, inr, option_map, subst, string_bytes}
use Rattle.irtext_base.proofs.OnlyAppended.{appends_more, appends_nothing}
use Rattle.irtext_print_ops.specs.Heads as heads
use Rattle.irtext_print_ops.specs.Walk.{Leads}
use Rattle.irtext_print_ops.specs.declared.frame.Frame.TheVariants as framed
use Rattle.irtext_print_ops.proofs.Descents.{fewer_inside, reached_end, reached_fits, reached_fault, reached_on}
use Rattle.irtext_print_ops.proofs.Refused.{propagated}
use Rattle.irtext_print_ops.proofs.step.block_step.Goals as goal

pub loop-next-init : goal.loop-next-init
loop-next-init g c = (inl (record { same = refl; marks = refl; stack = refl; bytes = refl }), appends_nothing refl)

pub next_block-requires : goal.next_block-requires
next_block-requires g c =
    let ctx = c.args.ctx.now in
    record { fits = reached_fits (heads.printing_of g.T.IrText g.A.IrText g.A.AttrText g.A.PartialEq.eq ctx) (heads.language_of g.T.IrText g.A.IrText g.A.AttrText g.A.PartialEq.eq ctx) ctx c.args.width (framed.Block c.args.frame) (framed.Block c.loop-next.left) c.args.items.now.items c.loop-next.items.items c.args.frames.now.items c.loop-next.frames.items (string_bytes c.args.f.now) (string_bytes c.loop-next.f) c.requires.fits c.loop-next.invariant.0 }

pub loop-next-smaller : goal.loop-next-smaller
loop-next-smaller g c =
    let ctx = c.args.ctx.now in
    let d = subst (λ z. Leads (heads.printing_of g.T.IrText g.A.IrText g.A.AttrText g.A.PartialEq.eq ctx) (heads.language_of g.T.IrText g.A.IrText g.A.AttrText g.A.PartialEq.eq ctx) ctx c.args.width (framed.Block c.loop-next.left) (option_map framed.Block z) c.loop-next.items.items c.next_block.new.items.items c.loop-next.frames.items c.next_block.new.frames.items (string_bytes c.loop-next.f) (string_bytes c.next_block.new.f)) c.in-Some.is c.in_ok-next.ensures.steps in
    fewer_inside (heads.printing_of g.T.IrText g.A.IrText g.A.AttrText g.A.PartialEq.eq ctx) (heads.language_of g.T.IrText g.A.IrText g.A.AttrText g.A.PartialEq.eq ctx) ctx c.args.width (framed.Block c.loop-next.left) (framed.Block c.in-Some.next) c.loop-next.items.items c.next_block.new.items.items c.loop-next.frames.items c.next_block.new.frames.items (string_bytes c.loop-next.f) (string_bytes c.next_block.new.f) d

pub loop-next-preserved : goal.loop-next-preserved
loop-next-preserved g c =
    let ctx = c.args.ctx.now in
    let d = subst (λ z. Leads (heads.printing_of g.T.IrText g.A.IrText g.A.AttrText g.A.PartialEq.eq ctx) (heads.language_of g.T.IrText g.A.IrText g.A.AttrText g.A.PartialEq.eq ctx) ctx c.args.width (framed.Block c.loop-next.left) (option_map framed.Block z) c.loop-next.items.items c.next_block.new.items.items c.loop-next.frames.items c.next_block.new.frames.items (string_bytes c.loop-next.f) (string_bytes c.next_block.new.f)) c.in-Some.is c.in_ok-next.ensures.steps in
    (inr (reached_on (heads.printing_of g.T.IrText g.A.IrText g.A.AttrText g.A.PartialEq.eq ctx) (heads.language_of g.T.IrText g.A.IrText g.A.AttrText g.A.PartialEq.eq ctx) ctx c.args.width (framed.Block c.args.frame) (framed.Block c.loop-next.left) c.args.items.now.items c.loop-next.items.items c.args.frames.now.items c.loop-next.frames.items (string_bytes c.args.f.now) (string_bytes c.loop-next.f) (framed.Block c.in-Some.next) c.next_block.new.items.items c.next_block.new.frames.items (string_bytes c.next_block.new.f) c.loop-next.invariant.0 d), appends_more c.loop-next.invariant.1 c.next_block.ensures.appended)

pub returns-in_default-clause-steps : goal.returns-in_default-clause-steps
returns-in_default-clause-steps g c =
    let ctx = c.args.ctx.now in
    let d = subst (λ z. Leads (heads.printing_of g.T.IrText g.A.IrText g.A.AttrText g.A.PartialEq.eq ctx) (heads.language_of g.T.IrText g.A.IrText g.A.AttrText g.A.PartialEq.eq ctx) ctx c.args.width (framed.Block c.loop-next.left) (option_map framed.Block z) c.loop-next.items.items c.next_block.new.items.items c.loop-next.frames.items c.next_block.new.frames.items (string_bytes c.loop-next.f) (string_bytes c.next_block.new.f)) c.in_default.is c.in_ok-next.ensures.steps in
    reached_end (heads.printing_of g.T.IrText g.A.IrText g.A.AttrText g.A.PartialEq.eq ctx) (heads.language_of g.T.IrText g.A.IrText g.A.AttrText g.A.PartialEq.eq ctx) ctx c.args.width (framed.Block c.args.frame) (framed.Block c.loop-next.left) c.args.items.now.items c.loop-next.items.items c.args.frames.now.items c.loop-next.frames.items (string_bytes c.args.f.now) (string_bytes c.loop-next.f) c.next_block.new.items.items c.next_block.new.frames.items (string_bytes c.next_block.new.f) c.loop-next.invariant.0 d

pub returns-in_err-next-clause-refused : goal.returns-in_err-next-clause-refused
returns-in_err-next-clause-refused g c =
    let ctx = c.args.ctx.now in
    let e = c.in_err-next.field-0.0 in
    propagated _ c.from_residual.result e c.from_residual.ensures.1 (λ other. reached_fault (heads.printing_of g.T.IrText g.A.IrText g.A.AttrText g.A.PartialEq.eq ctx) (heads.language_of g.T.IrText g.A.IrText g.A.AttrText g.A.PartialEq.eq ctx) ctx c.args.width (framed.Block c.args.frame) (framed.Block c.loop-next.left) c.args.items.now.items c.loop-next.items.items c.args.frames.now.items c.loop-next.frames.items (string_bytes c.args.f.now) (string_bytes c.loop-next.f) c.loop-next.invariant.0 e (c.in_err-next.ensures.refused other))
