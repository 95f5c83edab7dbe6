use Rattle.std.proofs.Common.{◌≡◌, ◌∙◌, ◌++◌, ◌∷◌, [], refl, sym, ap, subst, append-nil, string_bytes}
use Rattle.irtext_base.proofs.OnlyAppended.{appends_nothing, appends_more}
use Rattle.irtext_print.specs.declared.printable.refusal.Refusal.TheVariants.{Misfit}
use Rattle.irtext_print_ops.specs.Heads as heads
use Rattle.irtext_print_ops.specs.Steps.{listed}
use Rattle.irtext_print_ops.specs.Walk.{AllFit, items_left}
use Rattle.irtext_print_ops.proofs.Tests.{no_frame}
use Rattle.irtext_print_ops.proofs.Walked.{FramesFault, frames_text, stepped_fault, stepped_misfits, last_fault, fit_last, stepped_text, stepped_items, stepped_fit, stepped_fewer}
use Rattle.irtext_print_ops.proofs.Refused.{propagated}
use Rattle.irtext_print_ops.proofs.walk.print_frames.Goals as goal

pub loop-frame-init : goal.loop-frame-init
loop-frame-init g c =
    let ctx = c.args.ctx.now in
    let opens = c.in_ok-open_first.ensures.ok in
    record {
      appends = appends_nothing refl;
      text = ap (λ z. (string_bytes c.args.f.now) ++ frames_text (heads.printing_of g.T.IrText g.A.IrText g.A.AttrText g.A.PartialEq.eq ctx) (heads.language_of g.T.IrText g.A.IrText g.A.AttrText g.A.PartialEq.eq ctx) ctx c.args.width z c.args.items.now.items) opens;
      items = ap (λ z. c.args.items.now.items ++ items_left (heads.printing_of g.T.IrText g.A.IrText g.A.AttrText g.A.PartialEq.eq ctx) (heads.language_of g.T.IrText g.A.IrText g.A.AttrText g.A.PartialEq.eq ctx) ctx z) opens;
      fit = subst (AllFit (heads.printing_of g.T.IrText g.A.IrText g.A.AttrText g.A.PartialEq.eq ctx) (heads.language_of g.T.IrText g.A.IrText g.A.AttrText g.A.PartialEq.eq ctx) ctx) (sym opens) c.requires.fit;
      refuses = λ e x. subst (FramesFault (heads.printing_of g.T.IrText g.A.IrText g.A.AttrText g.A.PartialEq.eq ctx) (heads.language_of g.T.IrText g.A.IrText g.A.AttrText g.A.PartialEq.eq ctx) ctx c.args.width e) opens x;
      misfits = λ x. subst (FramesFault (heads.printing_of g.T.IrText g.A.IrText g.A.AttrText g.A.PartialEq.eq ctx) (heads.language_of g.T.IrText g.A.IrText g.A.AttrText g.A.PartialEq.eq ctx) ctx c.args.width Misfit) (sym opens) x;
    }

pub step-requires : goal.step-requires
step-requires g c =
    let ctx = c.args.ctx.now in
    let here : c.loop-frame.frames.items ≡ c.close.new.frames.items ++ c.in-Some.frame ∷ [] = c.close.ensures.all ∙ ap (λ o. c.close.new.frames.items ++ listed o) c.in-Some.is in
    record { fits = fit_last (heads.printing_of g.T.IrText g.A.IrText g.A.AttrText g.A.PartialEq.eq ctx) (heads.language_of g.T.IrText g.A.IrText g.A.AttrText g.A.PartialEq.eq ctx) ctx c.args.width c.close.new.frames.items c.in-Some.frame (subst (AllFit (heads.printing_of g.T.IrText g.A.IrText g.A.AttrText g.A.PartialEq.eq ctx) (heads.language_of g.T.IrText g.A.IrText g.A.AttrText g.A.PartialEq.eq ctx) ctx) here c.loop-frame.invariant.fit) }

pub loop-frame-smaller : goal.loop-frame-smaller
loop-frame-smaller g c =
    let ctx = c.args.ctx.now in
    let here : c.loop-frame.frames.items ≡ c.close.new.frames.items ++ c.in-Some.frame ∷ [] = c.close.ensures.all ∙ ap (λ o. c.close.new.frames.items ++ listed o) c.in-Some.is in
    stepped_fewer (heads.printing_of g.T.IrText g.A.IrText g.A.AttrText g.A.PartialEq.eq ctx) (heads.language_of g.T.IrText g.A.IrText g.A.AttrText g.A.PartialEq.eq ctx) ctx c.args.width c.in-Some.frame c.loop-frame.items.items c.step.new.items.items c.loop-frame.frames.items c.close.new.frames.items c.step.new.frames.items (string_bytes c.loop-frame.f) (string_bytes c.step.new.f) here c.in_ok-step.ensures.steps

pub loop-frame-preserved : goal.loop-frame-preserved
loop-frame-preserved g c =
    let ctx = c.args.ctx.now in
    let here : c.loop-frame.frames.items ≡ c.close.new.frames.items ++ c.in-Some.frame ∷ [] = c.close.ensures.all ∙ ap (λ o. c.close.new.frames.items ++ listed o) c.in-Some.is in
    record {
      appends = appends_more c.loop-frame.invariant.appends c.step.ensures.appended;
      text = stepped_text (heads.printing_of g.T.IrText g.A.IrText g.A.AttrText g.A.PartialEq.eq ctx) (heads.language_of g.T.IrText g.A.IrText g.A.AttrText g.A.PartialEq.eq ctx) ctx c.args.width c.in-Some.frame c.loop-frame.items.items c.step.new.items.items c.loop-frame.frames.items c.close.new.frames.items c.step.new.frames.items (string_bytes c.loop-frame.f) (string_bytes c.step.new.f) here c.in_ok-step.ensures.steps _ c.loop-frame.invariant.text;
      items = stepped_items (heads.printing_of g.T.IrText g.A.IrText g.A.AttrText g.A.PartialEq.eq ctx) (heads.language_of g.T.IrText g.A.IrText g.A.AttrText g.A.PartialEq.eq ctx) ctx c.args.width c.in-Some.frame c.loop-frame.items.items c.step.new.items.items c.loop-frame.frames.items c.close.new.frames.items c.step.new.frames.items (string_bytes c.loop-frame.f) (string_bytes c.step.new.f) here c.in_ok-step.ensures.steps _ c.loop-frame.invariant.items;
      fit = stepped_fit (heads.printing_of g.T.IrText g.A.IrText g.A.AttrText g.A.PartialEq.eq ctx) (heads.language_of g.T.IrText g.A.IrText g.A.AttrText g.A.PartialEq.eq ctx) ctx c.args.width c.in-Some.frame c.loop-frame.items.items c.step.new.items.items c.loop-frame.frames.items c.close.new.frames.items c.step.new.frames.items (string_bytes c.loop-frame.f) (string_bytes c.step.new.f) here c.in_ok-step.ensures.steps c.loop-frame.invariant.fit;
      refuses = λ e x. c.loop-frame.invariant.refuses e (stepped_fault (heads.printing_of g.T.IrText g.A.IrText g.A.AttrText g.A.PartialEq.eq ctx) (heads.language_of g.T.IrText g.A.IrText g.A.AttrText g.A.PartialEq.eq ctx) ctx c.args.width c.in-Some.frame c.loop-frame.items.items c.step.new.items.items c.loop-frame.frames.items c.close.new.frames.items c.step.new.frames.items (string_bytes c.loop-frame.f) (string_bytes c.step.new.f) here c.in_ok-step.ensures.steps e x);
      misfits = λ x. stepped_misfits (heads.printing_of g.T.IrText g.A.IrText g.A.AttrText g.A.PartialEq.eq ctx) (heads.language_of g.T.IrText g.A.IrText g.A.AttrText g.A.PartialEq.eq ctx) ctx c.args.width c.in-Some.frame c.loop-frame.items.items c.step.new.items.items c.loop-frame.frames.items c.close.new.frames.items c.step.new.frames.items (string_bytes c.loop-frame.f) (string_bytes c.step.new.f) here c.in_ok-step.ensures.steps (c.loop-frame.invariant.misfits x);
    }

pub returns-in_err-step-clause-refused : goal.returns-in_err-step-clause-refused
returns-in_err-step-clause-refused g c =
    let ctx = c.args.ctx.now in
    let here : c.loop-frame.frames.items ≡ c.close.new.frames.items ++ c.in-Some.frame ∷ [] = c.close.ensures.all ∙ ap (λ o. c.close.new.frames.items ++ listed o) c.in-Some.is in
    let e = c.in_err-step.field-0.0 in
    propagated _ c.from_residual-in_err-step.result e c.from_residual-in_err-step.ensures.1 (λ other. c.loop-frame.invariant.refuses e
    (subst (FramesFault (heads.printing_of g.T.IrText g.A.IrText g.A.AttrText g.A.PartialEq.eq ctx) (heads.language_of g.T.IrText g.A.IrText g.A.AttrText g.A.PartialEq.eq ctx) ctx c.args.width e) (sym here) (last_fault (heads.printing_of g.T.IrText g.A.IrText g.A.AttrText g.A.PartialEq.eq ctx) (heads.language_of g.T.IrText g.A.IrText g.A.AttrText g.A.PartialEq.eq ctx) ctx c.args.width e c.close.new.frames.items c.in-Some.frame (c.in_err-step.ensures.refused other))))

pub returns-clause-text : goal.returns-clause-text
returns-clause-text g c =
    let ctx = c.args.ctx.now in
    let empty : c.loop-frame.frames.items ≡ [] = no_frame c.close.result c.loop-frame.frames.items c.in_default.is c.close.ensures.none in
    sym (append-nil (string_bytes c.loop-frame.f)) ∙ (ap (λ z. (string_bytes c.loop-frame.f) ++ frames_text (heads.printing_of g.T.IrText g.A.IrText g.A.AttrText g.A.PartialEq.eq ctx) (heads.language_of g.T.IrText g.A.IrText g.A.AttrText g.A.PartialEq.eq ctx) ctx c.args.width z c.loop-frame.items.items) (sym empty) ∙ c.loop-frame.invariant.text)

pub returns-clause-items : goal.returns-clause-items
returns-clause-items g c =
    let ctx = c.args.ctx.now in
    let empty : c.loop-frame.frames.items ≡ [] = no_frame c.close.result c.loop-frame.frames.items c.in_default.is c.close.ensures.none in
    sym (append-nil c.loop-frame.items.items) ∙ (ap (λ z. c.loop-frame.items.items ++ items_left (heads.printing_of g.T.IrText g.A.IrText g.A.AttrText g.A.PartialEq.eq ctx) (heads.language_of g.T.IrText g.A.IrText g.A.AttrText g.A.PartialEq.eq ctx) ctx z) (sym empty) ∙ c.loop-frame.invariant.items)

pub returns-clause-fits : goal.returns-clause-fits
returns-clause-fits g c =
    let ctx = c.args.ctx.now in
    let empty : c.loop-frame.frames.items ≡ [] = no_frame c.close.result c.loop-frame.frames.items c.in_default.is c.close.ensures.none in
    λ x. subst (FramesFault (heads.printing_of g.T.IrText g.A.IrText g.A.AttrText g.A.PartialEq.eq ctx) (heads.language_of g.T.IrText g.A.IrText g.A.AttrText g.A.PartialEq.eq ctx) ctx c.args.width Misfit) empty (c.loop-frame.invariant.misfits x)
