use Rattle.std.proofs.Common.{◌∙◌, ◌++◌, ◌∷◌, [], sym, ap, string_bytes, inl}
use Rattle.irtext_base.proofs.OnlyAppended.{failed_after}
use Rattle.irtext_print_ops.specs.Heads as heads
use Rattle.irtext_print_ops.specs.Steps.{left_frames}
use Rattle.irtext_print_ops.specs.declared.frame.Frame.TheVariants as framed
use Rattle.irtext_print_ops.proofs.Printed.{steps_ended, steps_fit, steps_printed}
use Rattle.irtext_print_ops.proofs.Refused.{propagated}
use Rattle.irtext_print_ops.proofs.walk.print_operation.Goals as goal

pub returns-in_default : goal.returns-in_default
returns-in_default g c =
    let p = steps_ended (heads.printing_of g.T.IrText g.A.IrText g.A.AttrText g.A.PartialEq.eq c.args.ctx.now) (heads.language_of g.T.IrText g.A.IrText g.A.AttrText g.A.PartialEq.eq c.args.ctx.now) c.args.ctx.now c.args.width (framed.Operation c.args.frame) c.args.items.now.items c.operation_turns.new.items.items _ (string_bytes c.args.f.now) (string_bytes c.operation_turns.new.f) c.in_ok-inside.ensures.steps {Y = Unit {0}} tt (ap (left_frames c.operation_turns.new.frame) c.in_default.is) in
    record { text = p.text; items = p.items; fits = p.fits; refused = p.refused; appended = tt }

pub print_frames-requires : goal.print_frames-requires
print_frames-requires g c = record {
  some = tt;
  fit = steps_fit (heads.printing_of g.T.IrText g.A.IrText g.A.AttrText g.A.PartialEq.eq c.args.ctx.now) (heads.language_of g.T.IrText g.A.IrText g.A.AttrText g.A.PartialEq.eq c.args.ctx.now) c.args.ctx.now c.args.width (framed.Operation c.args.frame) c.args.items.now.items c.operation_turns.new.items.items _ (string_bytes c.args.f.now) (string_bytes c.operation_turns.new.f) c.in_ok-inside.ensures.steps
      (c.open.new.frames.items ++ framed.Region c.in-Some.inside ∷ []) (ap (λ z. z ++ framed.Region c.in-Some.inside ∷ []) (c.in_ok-open.ensures.ok ∙ ap (λ z. z ++ framed.Operation c.operation_turns.new.frame ∷ []) c.new-frames.ensures.items) ∙ sym (ap (left_frames c.operation_turns.new.frame) c.in-Some.is));
}

pub returns : goal.returns
returns g c =
    let p = steps_printed (heads.printing_of g.T.IrText g.A.IrText g.A.AttrText g.A.PartialEq.eq c.args.ctx.now) (heads.language_of g.T.IrText g.A.IrText g.A.AttrText g.A.PartialEq.eq c.args.ctx.now) c.args.ctx.now c.args.width (framed.Operation c.args.frame) c.args.items.now.items c.operation_turns.new.items.items _ (string_bytes c.args.f.now) (string_bytes c.operation_turns.new.f) c.in_ok-inside.ensures.steps
    c.print_frames.result c.print_frames.new.items.items (string_bytes c.print_frames.new.f) (c.open.new.frames.items ++ framed.Region c.in-Some.inside ∷ []) (ap (λ z. z ++ framed.Region c.in-Some.inside ∷ []) (c.in_ok-open.ensures.ok ∙ ap (λ z. z ++ framed.Operation c.operation_turns.new.frame ∷ []) c.new-frames.ensures.items) ∙ sym (ap (left_frames c.operation_turns.new.frame) c.in-Some.is))
    (record { text = c.print_frames.ensures.text; items = c.print_frames.ensures.items; fits = c.print_frames.ensures.fits; refused = c.print_frames.ensures.refused }) in
    record { text = p.text; items = p.items; fits = p.fits; refused = p.refused; appended = failed_after c.print_frames.result c.print_frames.new.f c.operation_turns.ensures.appended c.print_frames.ensures.appended }

pub returns-in_err-inside-clause-refused : goal.returns-in_err-inside-clause-refused
returns-in_err-inside-clause-refused g c = propagated _ c.from_residual.result c.in_err-inside.field-0.0 c.from_residual.ensures.1 (λ other. inl (c.in_err-inside.ensures.refused other))
