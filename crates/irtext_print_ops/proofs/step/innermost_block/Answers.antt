use Rattle.std.proofs.Common.{inr, option_map, sym, subst, string_bytes}
use Rattle.irtext_grammar.specs.Contexts.Formats.{isolated}
use Rattle.irtext_print.proofs.Printers.Appended.{then-err}
use Rattle.irtext_print_ops.specs.Faults.{OpenFault}
use Rattle.irtext_print_ops.specs.Heads as heads
use Rattle.irtext_print_ops.specs.Walk.{open_of, FrameFits, Leads, Reaches}
use Rattle.irtext_print_ops.specs.declared.frame.Frame.TheVariants as framed
use Rattle.irtext_print_ops.proofs.Descents.{leads_on, reached_fits, reached_fault, reaches}
use Rattle.irtext_print_ops.proofs.Tests.{in_ok}
use Rattle.irtext_print_ops.proofs.step.innermost_block.Goals as goal

pub region_step-requires : goal.region_step-requires
region_step-requires g c =
    let ctx = c.args.ctx.now in
    let d = subst (λ z. Leads (heads.printing_of g.T.IrText g.A.IrText g.A.AttrText g.A.PartialEq.eq ctx) (heads.language_of g.T.IrText g.A.IrText g.A.AttrText g.A.PartialEq.eq ctx) ctx c.args.width (framed.Operation c.in-Operation.frame) (option_map framed.Region z) c.args.items.now.items c.operation_step.new.items.items c.args.frames.now.items c.operation_step.new.frames.items (string_bytes c.args.f.now) (string_bytes c.operation_step.new.f)) c.in-Some.is c.in_ok-inside-in-Operation.ensures.steps in
    record { fits = reached_fits (heads.printing_of g.T.IrText g.A.IrText g.A.AttrText g.A.PartialEq.eq ctx) (heads.language_of g.T.IrText g.A.IrText g.A.AttrText g.A.PartialEq.eq ctx) ctx c.args.width (framed.Operation c.in-Operation.frame) (framed.Region c.in-Some.inside) c.args.items.now.items c.operation_step.new.items.items c.args.frames.now.items c.operation_step.new.frames.items (string_bytes c.args.f.now) (string_bytes c.operation_step.new.f) (subst (FrameFits (heads.printing_of g.T.IrText g.A.IrText g.A.AttrText g.A.PartialEq.eq ctx) (heads.language_of g.T.IrText g.A.IrText g.A.AttrText g.A.PartialEq.eq ctx) ctx) c.in-Operation.is c.requires.fits) (inr d) }

pub returns-in-Some-clause-steps : goal.returns-in-Some-clause-steps
returns-in-Some-clause-steps g c =
    let ctx = c.args.ctx.now in
    let d = subst (λ z. Leads (heads.printing_of g.T.IrText g.A.IrText g.A.AttrText g.A.PartialEq.eq ctx) (heads.language_of g.T.IrText g.A.IrText g.A.AttrText g.A.PartialEq.eq ctx) ctx c.args.width (framed.Operation c.in-Operation.frame) (option_map framed.Region z) c.args.items.now.items c.operation_step.new.items.items c.args.frames.now.items c.operation_step.new.frames.items (string_bytes c.args.f.now) (string_bytes c.operation_step.new.f)) c.in-Some.is c.in_ok-inside-in-Operation.ensures.steps in
    in_ok c.region_step.result (λ inner t. subst (λ z. Reaches (heads.printing_of g.T.IrText g.A.IrText g.A.AttrText g.A.PartialEq.eq ctx) (heads.language_of g.T.IrText g.A.IrText g.A.AttrText g.A.PartialEq.eq ctx) ctx c.args.width z (option_map framed.Block inner) c.args.items.now.items c.region_step.new.items.items c.args.frames.now.items c.region_step.new.frames.items (string_bytes c.args.f.now) (string_bytes c.region_step.new.f)) (sym c.in-Operation.is)
    (reaches (heads.printing_of g.T.IrText g.A.IrText g.A.AttrText g.A.PartialEq.eq ctx) (heads.language_of g.T.IrText g.A.IrText g.A.AttrText g.A.PartialEq.eq ctx) ctx c.args.width (framed.Operation c.in-Operation.frame) (option_map framed.Block inner) c.args.items.now.items c.region_step.new.items.items c.args.frames.now.items c.region_step.new.frames.items (string_bytes c.args.f.now) (string_bytes c.region_step.new.f) (leads_on (heads.printing_of g.T.IrText g.A.IrText g.A.AttrText g.A.PartialEq.eq ctx) (heads.language_of g.T.IrText g.A.IrText g.A.AttrText g.A.PartialEq.eq ctx) ctx c.args.width (framed.Operation c.in-Operation.frame) (framed.Region c.in-Some.inside) c.args.items.now.items c.operation_step.new.items.items c.args.frames.now.items c.operation_step.new.frames.items (string_bytes c.args.f.now) (string_bytes c.operation_step.new.f) (option_map framed.Block inner) c.region_step.new.items.items c.region_step.new.frames.items (string_bytes c.region_step.new.f) (inr d) t))) c.region_step.ensures.steps

pub returns-in-Some-clause-refused : goal.returns-in-Some-clause-refused
returns-in-Some-clause-refused g c =
    let ctx = c.args.ctx.now in
    let d = subst (λ z. Leads (heads.printing_of g.T.IrText g.A.IrText g.A.AttrText g.A.PartialEq.eq ctx) (heads.language_of g.T.IrText g.A.IrText g.A.AttrText g.A.PartialEq.eq ctx) ctx c.args.width (framed.Operation c.in-Operation.frame) (option_map framed.Region z) c.args.items.now.items c.operation_step.new.items.items c.args.frames.now.items c.operation_step.new.frames.items (string_bytes c.args.f.now) (string_bytes c.operation_step.new.f)) c.in-Some.is c.in_ok-inside-in-Operation.ensures.steps in
    then-err c.region_step.result (λ e h other. subst (λ z. OpenFault (heads.printing_of g.T.IrText g.A.IrText g.A.AttrText g.A.PartialEq.eq ctx) (isolated ctx.dialects) c.args.width e (open_of (heads.printing_of g.T.IrText g.A.IrText g.A.AttrText g.A.PartialEq.eq ctx) (heads.language_of g.T.IrText g.A.IrText g.A.AttrText g.A.PartialEq.eq ctx) ctx z)) (sym c.in-Operation.is) (reached_fault (heads.printing_of g.T.IrText g.A.IrText g.A.AttrText g.A.PartialEq.eq ctx) (heads.language_of g.T.IrText g.A.IrText g.A.AttrText g.A.PartialEq.eq ctx) ctx c.args.width (framed.Operation c.in-Operation.frame) (framed.Region c.in-Some.inside) c.args.items.now.items c.operation_step.new.items.items c.args.frames.now.items c.operation_step.new.frames.items (string_bytes c.args.f.now) (string_bytes c.operation_step.new.f) (inr d) e (h other))) c.region_step.ensures.refused
