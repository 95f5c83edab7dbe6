use Rattle.std.proofs.Common.{◌||◌, ◌∙◌, ◌∷◌, [], refl, sym, ap, subst, string_bytes}
use Rattle.irtext_base.proofs.OnlyAppended.{appends_next, appends_this}
use Rattle.irtext_graph.specs.Graph.{children, parent}
use Rattle.irtext_graph.specs.Nested.{Nested}
use Rattle.irtext_grammar.specs.Contexts.Nested.{seen_regions}
use Rattle.irtext_print_ops.specs.Opened.{covers}
use Rattle.irtext_print_ops.specs.Heads as heads
use Rattle.irtext_print_ops.specs.Walk.{parts_left, regions_left, StopsBefore, Steps}
use Rattle.irtext_print_ops.specs.Steps.{begun_frames, turn_frames}
use Rattle.irtext_print_ops.specs.declared.frame.Frame.TheVariants as framed
use Rattle.irtext_print_ops.proofs.Tests.{both_in}
use Rattle.irtext_print_ops.proofs.Turned.{operation_ended, regions_begin, repeat_step, single_step}
use Rattle.irtext_print_ops.proofs.Chained.{ended, all_fit}
use Rattle.irtext_print_ops.proofs.Continued.{ended_with}
use Rattle.irtext_print_ops.proofs.Refused.{propagated, region_turn_refused}
use Rattle.irtext_print_ops.proofs.step.operation_turn.Goals as goal

pub region_turn-requires : goal.region_turn-requires
region_turn-requires g c = record { live = c.requires.fits.0.0 }

pub region_turn-requires-in-Region : goal.region_turn-requires-in-Region
region_turn-requires-in-Region g c = record { live = c.requires.fits.0.0 }

pub fmt_pieces-requires : goal.fmt_pieces-requires
fmt_pieces-requires g c = record { live = c.requires.fits.0.0; format = c.requires.fits.0.1 }

pub end_operation-requires : goal.end_operation-requires
end_operation-requires g c = record { live = c.requires.fits.0.0 }

pub entered-requires : goal.entered-requires
entered-requires g c =
    let ctx = c.args.ctx.now in
    let s : Steps (heads.printing_of g.T.IrText g.A.IrText g.A.AttrText g.A.PartialEq.eq ctx) (heads.language_of g.T.IrText g.A.IrText g.A.AttrText g.A.PartialEq.eq ctx) ctx c.args.width (framed.Operation c.args.frame.now) c.args.items.now.items c.args.items.now.items [] (framed.Operation c.region_turn.new.frame ∷ begun_frames c.in_ok-begun.begun) (string_bytes c.args.f.now) (string_bytes c.region_turn.new.f) = repeat_step (heads.printing_of g.T.IrText g.A.IrText g.A.AttrText g.A.PartialEq.eq ctx) (heads.language_of g.T.IrText g.A.IrText g.A.AttrText g.A.PartialEq.eq ctx) ctx c.args.width c.args.frame.now c.args.items.now.items [] (string_bytes c.args.f.now) (string_bytes c.region_turn.new.f) (framed.Operation c.region_turn.new.frame ∷ begun_frames c.in_ok-begun.begun) c.if-frame.true c.requires.fits.0 (subst (λ z. Nested (children z) (parent z)) c.graph.ensures c.keeps_nesting.ensures.forest) c.in_ok-begun.ensures.text c.in_ok-begun.ensures.left in
    let fit = all_fit (heads.printing_of g.T.IrText g.A.IrText g.A.AttrText g.A.PartialEq.eq ctx) (heads.language_of g.T.IrText g.A.IrText g.A.AttrText g.A.PartialEq.eq ctx) ctx c.args.width (framed.Operation c.args.frame.now) c.args.items.now.items c.args.items.now.items (framed.Operation c.region_turn.new.frame ∷ begun_frames c.in_ok-begun.begun) (string_bytes c.args.f.now) (string_bytes c.region_turn.new.f) s in
    record { each_fits = fit.1 }

pub entered-requires-in-Region : goal.entered-requires-in-Region
entered-requires-in-Region g c =
    let ctx = c.args.ctx.now in
    let stop = subst (StopsBefore (heads.printing_of g.T.IrText g.A.IrText g.A.AttrText g.A.PartialEq.eq ctx) (heads.operation_at g.T.IrText g.A.IrText g.A.AttrText g.A.PartialEq.eq ctx c.args.frame.now.op) c.args.frame.now.directive) c.in-Region.is c.in_ok-fmt_pieces.ensures.stop in
    let s : Steps (heads.printing_of g.T.IrText g.A.IrText g.A.AttrText g.A.PartialEq.eq ctx) (heads.language_of g.T.IrText g.A.IrText g.A.AttrText g.A.PartialEq.eq ctx) ctx c.args.width (framed.Operation c.args.frame.now) c.args.items.now.items c.args.items.now.items [] (framed.Operation c.region_turn-in-Region.new.frame ∷ begun_frames c.in_ok-begun-in-Region.begun) (string_bytes c.args.f.now) (string_bytes c.region_turn-in-Region.new.f) = single_step (heads.printing_of g.T.IrText g.A.IrText g.A.AttrText g.A.PartialEq.eq ctx) (heads.language_of g.T.IrText g.A.IrText g.A.AttrText g.A.PartialEq.eq ctx) ctx c.args.width c.args.frame.now c.args.items.now.items [] c.in-Region.directive stop.0.0 (string_bytes c.args.f.now) (string_bytes c.fmt_pieces.new.f) (string_bytes c.region_turn-in-Region.new.f) (framed.Operation c.region_turn-in-Region.new.frame ∷ begun_frames c.in_ok-begun-in-Region.begun)
    c.if-frame.false stop.0.1 stop.1.0 stop.1.1 (ap (λ b. b || covers (parts_left (heads.printing_of g.T.IrText g.A.IrText g.A.AttrText g.A.PartialEq.eq ctx) (heads.operation_at g.T.IrText g.A.IrText g.A.AttrText g.A.PartialEq.eq ctx c.args.frame.now.op) c.args.frame.now.directive) (seen_regions g.A.IrText.written ctx (regions_left (heads.printing_of g.T.IrText g.A.IrText g.A.AttrText g.A.PartialEq.eq ctx) (heads.language_of g.T.IrText g.A.IrText g.A.AttrText g.A.PartialEq.eq ctx) ctx c.args.frame.now.op c.args.frame.now.region))) (sym c.if-frame.false) ∙ c.requires.fits.1) c.requires.fits.0 (subst (λ z. Nested (children z) (parent z)) c.graph.ensures c.keeps_nesting.ensures.forest) c.in_ok-fmt_pieces.ensures.text c.in_ok-begun-in-Region.ensures.text c.in_ok-begun-in-Region.ensures.left in
    let fit = all_fit (heads.printing_of g.T.IrText g.A.IrText g.A.AttrText g.A.PartialEq.eq ctx) (heads.language_of g.T.IrText g.A.IrText g.A.AttrText g.A.PartialEq.eq ctx) ctx c.args.width (framed.Operation c.args.frame.now) c.args.items.now.items c.args.items.now.items (framed.Operation c.region_turn-in-Region.new.frame ∷ begun_frames c.in_ok-begun-in-Region.begun) (string_bytes c.args.f.now) (string_bytes c.region_turn-in-Region.new.f) s in
    record { each_fits = fit.1 }

pub returns-then-frame-clause-steps : goal.returns-then-frame-clause-steps
returns-then-frame-clause-steps g c =
    let ctx = c.args.ctx.now in
    let s : Steps (heads.printing_of g.T.IrText g.A.IrText g.A.AttrText g.A.PartialEq.eq ctx) (heads.language_of g.T.IrText g.A.IrText g.A.AttrText g.A.PartialEq.eq ctx) ctx c.args.width (framed.Operation c.args.frame.now) c.args.items.now.items c.args.items.now.items [] (framed.Operation c.region_turn.new.frame ∷ begun_frames c.in_ok-begun.begun) (string_bytes c.args.f.now) (string_bytes c.region_turn.new.f) = repeat_step (heads.printing_of g.T.IrText g.A.IrText g.A.AttrText g.A.PartialEq.eq ctx) (heads.language_of g.T.IrText g.A.IrText g.A.AttrText g.A.PartialEq.eq ctx) ctx c.args.width c.args.frame.now c.args.items.now.items [] (string_bytes c.args.f.now) (string_bytes c.region_turn.new.f) (framed.Operation c.region_turn.new.frame ∷ begun_frames c.in_ok-begun.begun) c.if-frame.true c.requires.fits.0 (subst (λ z. Nested (children z) (parent z)) c.graph.ensures c.keeps_nesting.ensures.forest) c.in_ok-begun.ensures.text c.in_ok-begun.ensures.left in
    both_in c.entered.result (λ t w e. subst (λ z. Steps (heads.printing_of g.T.IrText g.A.IrText g.A.AttrText g.A.PartialEq.eq ctx) (heads.language_of g.T.IrText g.A.IrText g.A.AttrText g.A.PartialEq.eq ctx) ctx c.args.width (framed.Operation c.args.frame.now) c.args.items.now.items c.args.items.now.items [] (turn_frames c.region_turn.new.frame z) (string_bytes c.args.f.now) (string_bytes c.entered.new.f)) (sym e)
    (ended (heads.printing_of g.T.IrText g.A.IrText g.A.AttrText g.A.PartialEq.eq ctx) (heads.language_of g.T.IrText g.A.IrText g.A.AttrText g.A.PartialEq.eq ctx) ctx c.args.width (framed.Operation c.args.frame.now) c.args.items.now.items c.args.items.now.items c.region_turn.new.frame c.in_ok-begun.begun (string_bytes c.args.f.now) (string_bytes c.region_turn.new.f) (string_bytes c.entered.new.f) w s))
    c.entered.ensures.text c.entered.ensures.left

pub returns-then-frame-clause-appended : goal.returns-then-frame-clause-appended
returns-then-frame-clause-appended g c = ended_with c.entered.result c.entered.new.f _ (appends_this _ c.in_ok-begun.ensures.text) c.entered.ensures.text c.entered.ensures.appended

pub returns-in_ok-end_operation-in-End-clause-steps : goal.returns-in_ok-end_operation-in-End-clause-steps
returns-in_ok-end_operation-in-End-clause-steps g c =
    let ctx = c.args.ctx.now in
    let stop = subst (StopsBefore (heads.printing_of g.T.IrText g.A.IrText g.A.AttrText g.A.PartialEq.eq ctx) (heads.operation_at g.T.IrText g.A.IrText g.A.AttrText g.A.PartialEq.eq ctx c.args.frame.now.op) c.args.frame.now.directive) c.in-End.is c.in_ok-fmt_pieces.ensures.stop in
    operation_ended (heads.printing_of g.T.IrText g.A.IrText g.A.AttrText g.A.PartialEq.eq ctx) (heads.language_of g.T.IrText g.A.IrText g.A.AttrText g.A.PartialEq.eq ctx) ctx c.args.width c.args.frame.now c.args.items.now.items [] c.end_operation.new.items.items (string_bytes c.args.f.now) (string_bytes c.fmt_pieces.new.f) (string_bytes c.end_operation.new.f) c.if-frame.false stop (ap (λ b. b || covers (parts_left (heads.printing_of g.T.IrText g.A.IrText g.A.AttrText g.A.PartialEq.eq ctx) (heads.operation_at g.T.IrText g.A.IrText g.A.AttrText g.A.PartialEq.eq ctx c.args.frame.now.op) c.args.frame.now.directive) (seen_regions g.A.IrText.written ctx (regions_left (heads.printing_of g.T.IrText g.A.IrText g.A.AttrText g.A.PartialEq.eq ctx) (heads.language_of g.T.IrText g.A.IrText g.A.AttrText g.A.PartialEq.eq ctx) ctx c.args.frame.now.op c.args.frame.now.region))) (sym c.if-frame.false) ∙ c.requires.fits.1)
    c.in_ok-fmt_pieces.ensures.text c.in_ok-end_operation-in-End.ensures.text c.in_ok-end_operation-in-End.ensures.items

pub returns-in_ok-begun-in-Region-clause-steps : goal.returns-in_ok-begun-in-Region-clause-steps
returns-in_ok-begun-in-Region-clause-steps g c =
    let ctx = c.args.ctx.now in
    let stop = subst (StopsBefore (heads.printing_of g.T.IrText g.A.IrText g.A.AttrText g.A.PartialEq.eq ctx) (heads.operation_at g.T.IrText g.A.IrText g.A.AttrText g.A.PartialEq.eq ctx c.args.frame.now.op) c.args.frame.now.directive) c.in-Region.is c.in_ok-fmt_pieces.ensures.stop in
    let s : Steps (heads.printing_of g.T.IrText g.A.IrText g.A.AttrText g.A.PartialEq.eq ctx) (heads.language_of g.T.IrText g.A.IrText g.A.AttrText g.A.PartialEq.eq ctx) ctx c.args.width (framed.Operation c.args.frame.now) c.args.items.now.items c.args.items.now.items [] (framed.Operation c.region_turn-in-Region.new.frame ∷ begun_frames c.in_ok-begun-in-Region.begun) (string_bytes c.args.f.now) (string_bytes c.region_turn-in-Region.new.f) = single_step (heads.printing_of g.T.IrText g.A.IrText g.A.AttrText g.A.PartialEq.eq ctx) (heads.language_of g.T.IrText g.A.IrText g.A.AttrText g.A.PartialEq.eq ctx) ctx c.args.width c.args.frame.now c.args.items.now.items [] c.in-Region.directive stop.0.0 (string_bytes c.args.f.now) (string_bytes c.fmt_pieces.new.f) (string_bytes c.region_turn-in-Region.new.f) (framed.Operation c.region_turn-in-Region.new.frame ∷ begun_frames c.in_ok-begun-in-Region.begun)
    c.if-frame.false stop.0.1 stop.1.0 stop.1.1 (ap (λ b. b || covers (parts_left (heads.printing_of g.T.IrText g.A.IrText g.A.AttrText g.A.PartialEq.eq ctx) (heads.operation_at g.T.IrText g.A.IrText g.A.AttrText g.A.PartialEq.eq ctx c.args.frame.now.op) c.args.frame.now.directive) (seen_regions g.A.IrText.written ctx (regions_left (heads.printing_of g.T.IrText g.A.IrText g.A.AttrText g.A.PartialEq.eq ctx) (heads.language_of g.T.IrText g.A.IrText g.A.AttrText g.A.PartialEq.eq ctx) ctx c.args.frame.now.op c.args.frame.now.region))) (sym c.if-frame.false) ∙ c.requires.fits.1) c.requires.fits.0 (subst (λ z. Nested (children z) (parent z)) c.graph.ensures c.keeps_nesting.ensures.forest) c.in_ok-fmt_pieces.ensures.text c.in_ok-begun-in-Region.ensures.text c.in_ok-begun-in-Region.ensures.left in
    both_in c.entered-in-Region.result (λ t w e. subst (λ z. Steps (heads.printing_of g.T.IrText g.A.IrText g.A.AttrText g.A.PartialEq.eq ctx) (heads.language_of g.T.IrText g.A.IrText g.A.AttrText g.A.PartialEq.eq ctx) ctx c.args.width (framed.Operation c.args.frame.now) c.args.items.now.items c.args.items.now.items [] (turn_frames c.region_turn-in-Region.new.frame z) (string_bytes c.args.f.now) (string_bytes c.entered-in-Region.new.f)) (sym e)
    (ended (heads.printing_of g.T.IrText g.A.IrText g.A.AttrText g.A.PartialEq.eq ctx) (heads.language_of g.T.IrText g.A.IrText g.A.AttrText g.A.PartialEq.eq ctx) ctx c.args.width (framed.Operation c.args.frame.now) c.args.items.now.items c.args.items.now.items c.region_turn-in-Region.new.frame c.in_ok-begun-in-Region.begun (string_bytes c.args.f.now) (string_bytes c.region_turn-in-Region.new.f) (string_bytes c.entered-in-Region.new.f) w s))
    c.entered-in-Region.ensures.text c.entered-in-Region.ensures.left

pub returns-in_ok-begun-in-Region-clause-appended : goal.returns-in_ok-begun-in-Region-clause-appended
returns-in_ok-begun-in-Region-clause-appended g c =
    ended_with c.entered-in-Region.result c.entered-in-Region.new.f _ (appends_next (appends_this {new = c.fmt_pieces.new.f} _ c.in_ok-fmt_pieces.ensures.text) _ c.in_ok-begun-in-Region.ensures.text)
    c.entered-in-Region.ensures.text c.entered-in-Region.ensures.appended

pub returns-in_ok-push_str-in-Regions-clause-steps : goal.returns-in_ok-push_str-in-Regions-clause-steps
returns-in_ok-push_str-in-Regions-clause-steps g c =
    let ctx = c.args.ctx.now in
    let stop = subst (StopsBefore (heads.printing_of g.T.IrText g.A.IrText g.A.AttrText g.A.PartialEq.eq ctx) (heads.operation_at g.T.IrText g.A.IrText g.A.AttrText g.A.PartialEq.eq ctx c.args.frame.now.op) c.args.frame.now.directive) c.in-Regions.is c.in_ok-fmt_pieces.ensures.stop in
    regions_begin (heads.printing_of g.T.IrText g.A.IrText g.A.AttrText g.A.PartialEq.eq ctx) (heads.language_of g.T.IrText g.A.IrText g.A.AttrText g.A.PartialEq.eq ctx) ctx c.args.width c.args.frame.now c.args.items.now.items [] c.in-Regions.directive (string_bytes c.args.f.now) (string_bytes c.fmt_pieces.new.f) (string_bytes c.push_str.new.text) _
    c.if-frame.false stop.0 stop.1.0 stop.1.1 c.requires.fits.0 c.in_ok-fmt_pieces.ensures.text c.in_ok-push_str-in-Regions.ensures.bytes refl

pub returns-in_err-begun-clause-refused : goal.returns-in_err-begun-clause-refused
returns-in_err-begun-clause-refused g c =
    let ctx = c.args.ctx.now in
    propagated _ c.from_residual.result c.in_err-begun.field-0.0 c.from_residual.ensures.1 (region_turn_refused (heads.printing_of g.T.IrText g.A.IrText g.A.AttrText g.A.PartialEq.eq ctx) (heads.language_of g.T.IrText g.A.IrText g.A.AttrText g.A.PartialEq.eq ctx) ctx c.args.width c.args.frame.now c.in_err-begun.field-0.0 c.in_err-begun.ensures.refused)

pub returns-in_err-begun-in-Region-clause-refused : goal.returns-in_err-begun-in-Region-clause-refused
returns-in_err-begun-in-Region-clause-refused g c =
    let ctx = c.args.ctx.now in
    propagated _ c.from_residual-in_err-begun-in-Region.result c.in_err-begun-in-Region.field-0.0 c.from_residual-in_err-begun-in-Region.ensures.1 (region_turn_refused (heads.printing_of g.T.IrText g.A.IrText g.A.AttrText g.A.PartialEq.eq ctx) (heads.language_of g.T.IrText g.A.IrText g.A.AttrText g.A.PartialEq.eq ctx) ctx c.args.width c.args.frame.now c.in_err-begun-in-Region.field-0.0 c.in_err-begun-in-Region.ensures.refused)
