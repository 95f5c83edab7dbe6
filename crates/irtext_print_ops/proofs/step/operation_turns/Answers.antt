use Rattle.std.proofs.Common.{◌∷◌, [], refl, subst, string_bytes, inl, inr}
use Rattle.irtext_base.proofs.OnlyAppended.{appends_more, appends_nothing}
use Rattle.irtext_print_ops.specs.Heads as heads
use Rattle.irtext_print_ops.specs.Steps.{turn_frames}
use Rattle.irtext_print_ops.specs.Walk.{Steps}
use Rattle.irtext_print_ops.specs.declared.frame.Frame.TheVariants as framed
use Rattle.irtext_print_ops.proofs.Chained.{left_fits, left_fault, left_more, fewer_left}
use Rattle.irtext_print_ops.proofs.Refused.{propagated}
use Rattle.irtext_print_ops.proofs.step.operation_turns.Goals as goal

pub loop-inside-init : goal.loop-inside-init
loop-inside-init g c = (inl (record { same = refl; marks = refl; bytes = refl }), appends_nothing refl)

pub operation_turn-requires : goal.operation_turn-requires
operation_turn-requires g c =
    let ctx = c.args.ctx.now in
    record { fits = left_fits (heads.printing_of g.T.IrText g.A.IrText g.A.AttrText g.A.PartialEq.eq ctx) (heads.language_of g.T.IrText g.A.IrText g.A.AttrText g.A.PartialEq.eq ctx) ctx c.args.width (framed.Operation c.args.frame.now) c.args.items.now.items (string_bytes c.args.f.now) (framed.Operation c.loop-inside.frame) c.loop-inside.items.items (string_bytes c.loop-inside.f) c.requires.fits c.loop-inside.invariant.0 }

pub loop-inside-smaller : goal.loop-inside-smaller
loop-inside-smaller g c =
    let ctx = c.args.ctx.now in
    let s = subst (λ z. Steps (heads.printing_of g.T.IrText g.A.IrText g.A.AttrText g.A.PartialEq.eq ctx) (heads.language_of g.T.IrText g.A.IrText g.A.AttrText g.A.PartialEq.eq ctx) ctx c.args.width (framed.Operation c.loop-inside.frame) c.loop-inside.items.items c.operation_turn.new.items.items [] (turn_frames c.operation_turn.new.frame z) (string_bytes c.loop-inside.f) (string_bytes c.operation_turn.new.f)) c.in-Stays.is c.in_ok-operation_turn.ensures.steps in
    fewer_left (heads.printing_of g.T.IrText g.A.IrText g.A.AttrText g.A.PartialEq.eq ctx) (heads.language_of g.T.IrText g.A.IrText g.A.AttrText g.A.PartialEq.eq ctx) ctx c.args.width (framed.Operation c.loop-inside.frame) c.loop-inside.items.items c.operation_turn.new.items.items (framed.Operation c.operation_turn.new.frame ∷ []) (string_bytes c.loop-inside.f) (string_bytes c.operation_turn.new.f) s

pub loop-inside-preserved : goal.loop-inside-preserved
loop-inside-preserved g c =
    let ctx = c.args.ctx.now in
    let s = subst (λ z. Steps (heads.printing_of g.T.IrText g.A.IrText g.A.AttrText g.A.PartialEq.eq ctx) (heads.language_of g.T.IrText g.A.IrText g.A.AttrText g.A.PartialEq.eq ctx) ctx c.args.width (framed.Operation c.loop-inside.frame) c.loop-inside.items.items c.operation_turn.new.items.items [] (turn_frames c.operation_turn.new.frame z) (string_bytes c.loop-inside.f) (string_bytes c.operation_turn.new.f)) c.in-Stays.is c.in_ok-operation_turn.ensures.steps in
    (inr (left_more (heads.printing_of g.T.IrText g.A.IrText g.A.AttrText g.A.PartialEq.eq ctx) (heads.language_of g.T.IrText g.A.IrText g.A.AttrText g.A.PartialEq.eq ctx) ctx c.args.width (framed.Operation c.args.frame.now) c.args.items.now.items (string_bytes c.args.f.now) (framed.Operation c.loop-inside.frame) c.loop-inside.items.items c.operation_turn.new.items.items (framed.Operation c.operation_turn.new.frame ∷ []) (string_bytes c.loop-inside.f) (string_bytes c.operation_turn.new.f) c.loop-inside.invariant.0 s), appends_more c.loop-inside.invariant.1 c.operation_turn.ensures.appended)

pub returns-in-Enters-clause-steps : goal.returns-in-Enters-clause-steps
returns-in-Enters-clause-steps g c =
    let ctx = c.args.ctx.now in
    let s = subst (λ z. Steps (heads.printing_of g.T.IrText g.A.IrText g.A.AttrText g.A.PartialEq.eq ctx) (heads.language_of g.T.IrText g.A.IrText g.A.AttrText g.A.PartialEq.eq ctx) ctx c.args.width (framed.Operation c.loop-inside.frame) c.loop-inside.items.items c.operation_turn.new.items.items [] (turn_frames c.operation_turn.new.frame z) (string_bytes c.loop-inside.f) (string_bytes c.operation_turn.new.f)) c.in-Enters.is c.in_ok-operation_turn.ensures.steps in
    left_more (heads.printing_of g.T.IrText g.A.IrText g.A.AttrText g.A.PartialEq.eq ctx) (heads.language_of g.T.IrText g.A.IrText g.A.AttrText g.A.PartialEq.eq ctx) ctx c.args.width (framed.Operation c.args.frame.now) c.args.items.now.items (string_bytes c.args.f.now) (framed.Operation c.loop-inside.frame) c.loop-inside.items.items c.operation_turn.new.items.items (framed.Operation c.operation_turn.new.frame ∷ framed.Region c.in-Enters.inside ∷ []) (string_bytes c.loop-inside.f) (string_bytes c.operation_turn.new.f) c.loop-inside.invariant.0 s

pub returns-in-Ends-clause-steps : goal.returns-in-Ends-clause-steps
returns-in-Ends-clause-steps g c =
    let ctx = c.args.ctx.now in
    let s = subst (λ z. Steps (heads.printing_of g.T.IrText g.A.IrText g.A.AttrText g.A.PartialEq.eq ctx) (heads.language_of g.T.IrText g.A.IrText g.A.AttrText g.A.PartialEq.eq ctx) ctx c.args.width (framed.Operation c.loop-inside.frame) c.loop-inside.items.items c.operation_turn.new.items.items [] (turn_frames c.operation_turn.new.frame z) (string_bytes c.loop-inside.f) (string_bytes c.operation_turn.new.f)) c.in-Ends.is c.in_ok-operation_turn.ensures.steps in
    left_more (heads.printing_of g.T.IrText g.A.IrText g.A.AttrText g.A.PartialEq.eq ctx) (heads.language_of g.T.IrText g.A.IrText g.A.AttrText g.A.PartialEq.eq ctx) ctx c.args.width (framed.Operation c.args.frame.now) c.args.items.now.items (string_bytes c.args.f.now) (framed.Operation c.loop-inside.frame) c.loop-inside.items.items c.operation_turn.new.items.items [] (string_bytes c.loop-inside.f) (string_bytes c.operation_turn.new.f) c.loop-inside.invariant.0 s

pub returns-in_err-operation_turn-clause-refused : goal.returns-in_err-operation_turn-clause-refused
returns-in_err-operation_turn-clause-refused g c =
    let ctx = c.args.ctx.now in
    let e = c.in_err-operation_turn.field-0.0 in
    propagated _ c.from_residual.result e c.from_residual.ensures.1 (λ other. left_fault (heads.printing_of g.T.IrText g.A.IrText g.A.AttrText g.A.PartialEq.eq ctx) (heads.language_of g.T.IrText g.A.IrText g.A.AttrText g.A.PartialEq.eq ctx) ctx c.args.width (framed.Operation c.args.frame.now) c.args.items.now.items (string_bytes c.args.f.now) (framed.Operation c.loop-inside.frame) c.loop-inside.items.items (string_bytes c.loop-inside.f) c.loop-inside.invariant.0 e (c.in_err-operation_turn.ensures.refused other))
