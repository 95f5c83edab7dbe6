use Rattle.std.proofs.Common.{◌∷◌, [], append-nil, subst, string_bytes}
use Rattle.irtext_print_ops.specs.Heads as heads
use Rattle.irtext_print_ops.specs.Steps.{left_frames}
use Rattle.irtext_print_ops.specs.Walk.{Steps}
use Rattle.irtext_print_ops.specs.declared.frame.Frame.TheVariants as framed
use Rattle.irtext_print_ops.proofs.Chained.{inside_others}
use Rattle.irtext_print_ops.proofs.Descents.{entered}
use Rattle.irtext_print_ops.proofs.step.operation_step.Goals as goal

pub returns-in_default-clause-steps : goal.returns-in_default-clause-steps
returns-in_default-clause-steps g c =
    let ctx = c.args.ctx.now in
    let here = framed.Operation c.args.frame in
    subst (λ z. Steps (heads.printing_of g.T.IrText g.A.IrText g.A.AttrText g.A.PartialEq.eq ctx) (heads.language_of g.T.IrText g.A.IrText g.A.AttrText g.A.PartialEq.eq ctx) ctx c.args.width here c.args.items.now.items c.operation_turns.new.items.items c.args.frames.now.items z (string_bytes c.args.f.now) (string_bytes c.operation_turns.new.f)) (append-nil c.args.frames.now.items)
    (inside_others (heads.printing_of g.T.IrText g.A.IrText g.A.AttrText g.A.PartialEq.eq ctx) (heads.language_of g.T.IrText g.A.IrText g.A.AttrText g.A.PartialEq.eq ctx) ctx c.args.width here c.args.items.now.items c.operation_turns.new.items.items c.args.frames.now.items [] (string_bytes c.args.f.now) (string_bytes c.operation_turns.new.f)
    (subst (λ z. Steps (heads.printing_of g.T.IrText g.A.IrText g.A.AttrText g.A.PartialEq.eq ctx) (heads.language_of g.T.IrText g.A.IrText g.A.AttrText g.A.PartialEq.eq ctx) ctx c.args.width here c.args.items.now.items c.operation_turns.new.items.items [] (left_frames c.operation_turns.new.frame z) (string_bytes c.args.f.now) (string_bytes c.operation_turns.new.f)) c.in_default.is c.in_ok-inside.ensures.steps))

pub returns-clause-steps : goal.returns-clause-steps
returns-clause-steps g c =
    let ctx = c.args.ctx.now in
    let here = framed.Operation c.args.frame in
    entered (heads.printing_of g.T.IrText g.A.IrText g.A.AttrText g.A.PartialEq.eq ctx) (heads.language_of g.T.IrText g.A.IrText g.A.AttrText g.A.PartialEq.eq ctx) ctx c.args.width here (framed.Region c.in-Some.inside) c.args.items.now.items c.operation_turns.new.items.items c.args.frames.now.items c.open.new.frames.items (framed.Operation c.operation_turns.new.frame ∷ []) (string_bytes c.args.f.now) (string_bytes c.operation_turns.new.f)
    c.in_ok-open.ensures.ok
    (subst (λ z. Steps (heads.printing_of g.T.IrText g.A.IrText g.A.AttrText g.A.PartialEq.eq ctx) (heads.language_of g.T.IrText g.A.IrText g.A.AttrText g.A.PartialEq.eq ctx) ctx c.args.width here c.args.items.now.items c.operation_turns.new.items.items [] (left_frames c.operation_turns.new.frame z) (string_bytes c.args.f.now) (string_bytes c.operation_turns.new.f)) c.in-Some.is c.in_ok-inside.ensures.steps)
