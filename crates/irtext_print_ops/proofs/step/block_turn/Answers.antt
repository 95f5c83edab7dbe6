use Rattle.std.proofs.Common.{◌≡◌, ◌∙◌, ◌∷◌, [], slice_get, ◌+◌, append-nil, refl, sym, subst, string_bytes}
use Rattle.irtext_context.specs.Context.{operation}
use Rattle.irtext_context.proofs.Drops.{one_left}
use Rattle.irtext_graph.specs.Graph.{children, parent}
use Rattle.irtext_graph.specs.Nested.{Nested}
use Rattle.irtext_graph.specs.Parts.{operations_in}
use Rattle.irtext_print_ops.specs.Heads as heads
use Rattle.irtext_print_ops.specs.Steps.{left_frames}
use Rattle.irtext_print_ops.specs.Walk.{Steps}
use Rattle.irtext_print_ops.specs.declared.frame.Frame.{Frame}
use Rattle.irtext_print_ops.specs.declared.frame.Frame.TheVariants as framed
use Rattle.irtext_print_ops.proofs.BlockBegins.{begun_fault, begun_fits, operation_begun, turned_inside, turned_whole}
use Rattle.irtext_print_ops.proofs.Descents.{entered}
use Rattle.irtext_print_ops.proofs.Tests.{is_there, none_left, not_there}
use Rattle.irtext_print_ops.proofs.Turned.{block_ended, block_skips}
use Rattle.irtext_print_ops.proofs.Refused.{propagated, operation_refused}
use Rattle.irtext_print_ops.proofs.step.block_turn.Goals as goal

pub returns-in_default-clause-steps : goal.returns-in_default-clause-steps
returns-in_default-clause-steps g c =
    block_ended (heads.printing_of g.T.IrText g.A.IrText g.A.AttrText g.A.PartialEq.eq c.args.ctx.now) (heads.language_of g.T.IrText g.A.IrText g.A.AttrText g.A.PartialEq.eq c.args.ctx.now) c.args.ctx.now c.args.width c.args.frame c.args.items.now.items c.args.frames.now.items (string_bytes c.args.f.now)
    (none_left (operations_in c.args.ctx.now.graph c.args.frame.block) c.args.frame.operation (sym (subst (λ z. c.operation_at.result ≡ slice_get (operations_in z c.args.frame.block) c.args.frame.operation) c.graph-graph.ensures c.operation_at.ensures.is) ∙ c.in_default.is))

pub returns-then-not-contains_operation-clause-steps : goal.returns-then-not-contains_operation-clause-steps
returns-then-not-contains_operation-clause-steps g c =
    let ctx = c.args.ctx.now in
    let p = c.in-Some.op in
    let next : Frame = framed.Block (record c.args.frame { operation = c.args.frame.operation + 1 }) in
    entered (heads.printing_of g.T.IrText g.A.IrText g.A.AttrText g.A.PartialEq.eq ctx) (heads.language_of g.T.IrText g.A.IrText g.A.AttrText g.A.PartialEq.eq ctx) ctx c.args.width (framed.Block c.args.frame) next c.args.items.now.items c.args.items.now.items c.args.frames.now.items c.args.frames.now.items [] (string_bytes c.args.f.now) (string_bytes c.args.f.now) (sym (append-nil c.args.frames.now.items))
    (block_skips (heads.printing_of g.T.IrText g.A.IrText g.A.AttrText g.A.PartialEq.eq ctx) (heads.language_of g.T.IrText g.A.IrText g.A.AttrText g.A.PartialEq.eq ctx) ctx c.args.width
    c.args.frame c.args.items.now.items [] p (string_bytes c.args.f.now) (next ∷ []) (one_left (operations_in ctx.graph c.args.frame.block) c.args.frame.operation p (sym (sym (subst (λ z. c.operation_at.result ≡ slice_get (operations_in z c.args.frame.block) c.args.frame.operation) c.graph-graph.ensures c.operation_at.ensures.is) ∙ c.in-Some.is)))
    (not_there (operation ctx p) c.contains_operation.result c.contains_operation.ensures.alive (search)) c.requires.fits refl)

pub operation_turns-requires : goal.operation_turns-requires
operation_turns-requires g c =
    let s = operation_begun g.T.IrText g.A.IrText g.A.AttrText g.A.PartialEq.eq c.args.ctx.now c.args.width c.args.frame c.args.items.now.items c.in_ok-begun.begun (string_bytes c.args.f.now) (string_bytes c.begin_operation.new.f) c.in-Some.op c.in_ok-indent.indent (string_bytes c.fmt_between_operations.new.f) (sym (subst (λ z. c.operation_at.result ≡ slice_get (operations_in z c.args.frame.block) c.args.frame.operation) c.graph-graph.ensures c.operation_at.ensures.is) ∙ c.in-Some.is) (c.contains_operation.ensures.alive.0 (search)) (subst (λ z. Nested (children z) (parent z)) c.graph-graph.ensures c.keeps_nesting.ensures.forest) c.requires.fits c.in_ok-indent.ensures.ok c.in_ok-begun.ensures.found c.in_ok-begun.ensures.fits c.in_ok-fmt_between_operations.ensures.text c.in_ok-begun.ensures.text c.in_ok-begun.ensures.begun in
    record { fits = begun_fits g.T.IrText g.A.IrText g.A.AttrText g.A.PartialEq.eq c.args.ctx.now c.args.width c.args.frame c.args.items.now.items c.in_ok-begun.begun (string_bytes c.args.f.now) (string_bytes c.begin_operation.new.f) s }

pub returns-in_default-2-clause-steps : goal.returns-in_default-2-clause-steps
returns-in_default-2-clause-steps g c =
    let s = operation_begun g.T.IrText g.A.IrText g.A.AttrText g.A.PartialEq.eq c.args.ctx.now c.args.width c.args.frame c.args.items.now.items c.in_ok-begun.begun (string_bytes c.args.f.now) (string_bytes c.begin_operation.new.f) c.in-Some.op c.in_ok-indent.indent (string_bytes c.fmt_between_operations.new.f) (sym (subst (λ z. c.operation_at.result ≡ slice_get (operations_in z c.args.frame.block) c.args.frame.operation) c.graph-graph.ensures c.operation_at.ensures.is) ∙ c.in-Some.is) (c.contains_operation.ensures.alive.0 (search)) (subst (λ z. Nested (children z) (parent z)) c.graph-graph.ensures c.keeps_nesting.ensures.forest) c.requires.fits c.in_ok-indent.ensures.ok c.in_ok-begun.ensures.found c.in_ok-begun.ensures.fits c.in_ok-fmt_between_operations.ensures.text c.in_ok-begun.ensures.text c.in_ok-begun.ensures.begun in
    turned_whole g.T.IrText g.A.IrText g.A.AttrText g.A.PartialEq.eq c.args.ctx.now c.args.width c.args.frame c.args.items.now.items c.in_ok-begun.begun (string_bytes c.args.f.now) (string_bytes c.begin_operation.new.f) s c.operation_turns.new.frame c.operation_turns.new.items.items c.args.frames.now.items (string_bytes c.operation_turns.new.f)
    (subst (λ z. Steps (heads.printing_of g.T.IrText g.A.IrText g.A.AttrText g.A.PartialEq.eq c.args.ctx.now) (heads.language_of g.T.IrText g.A.IrText g.A.AttrText g.A.PartialEq.eq c.args.ctx.now) c.args.ctx.now c.args.width (framed.Operation c.in_ok-begun.begun) c.args.items.now.items c.operation_turns.new.items.items [] (left_frames c.operation_turns.new.frame z) (string_bytes c.begin_operation.new.f) (string_bytes c.operation_turns.new.f)) c.in_default-2.is c.in_ok-inside.ensures.steps)

pub returns-clause-steps : goal.returns-clause-steps
returns-clause-steps g c =
    let s = operation_begun g.T.IrText g.A.IrText g.A.AttrText g.A.PartialEq.eq c.args.ctx.now c.args.width c.args.frame c.args.items.now.items c.in_ok-begun.begun (string_bytes c.args.f.now) (string_bytes c.begin_operation.new.f) c.in-Some.op c.in_ok-indent.indent (string_bytes c.fmt_between_operations.new.f) (sym (subst (λ z. c.operation_at.result ≡ slice_get (operations_in z c.args.frame.block) c.args.frame.operation) c.graph-graph.ensures c.operation_at.ensures.is) ∙ c.in-Some.is) (c.contains_operation.ensures.alive.0 (search)) (subst (λ z. Nested (children z) (parent z)) c.graph-graph.ensures c.keeps_nesting.ensures.forest) c.requires.fits c.in_ok-indent.ensures.ok c.in_ok-begun.ensures.found c.in_ok-begun.ensures.fits c.in_ok-fmt_between_operations.ensures.text c.in_ok-begun.ensures.text c.in_ok-begun.ensures.begun in
    turned_inside g.T.IrText g.A.IrText g.A.AttrText g.A.PartialEq.eq c.args.ctx.now c.args.width c.args.frame c.args.items.now.items c.in_ok-begun.begun (string_bytes c.args.f.now) (string_bytes c.begin_operation.new.f) s c.operation_turns.new.frame c.operation_turns.new.items.items c.args.frames.now.items (string_bytes c.operation_turns.new.f) c.in-Some-2.inside c.open.new.frames.items c.open-2.new.frames.items
    (subst (λ z. Steps (heads.printing_of g.T.IrText g.A.IrText g.A.AttrText g.A.PartialEq.eq c.args.ctx.now) (heads.language_of g.T.IrText g.A.IrText g.A.AttrText g.A.PartialEq.eq c.args.ctx.now) c.args.ctx.now c.args.width (framed.Operation c.in_ok-begun.begun) c.args.items.now.items c.operation_turns.new.items.items [] (left_frames c.operation_turns.new.frame z) (string_bytes c.begin_operation.new.f) (string_bytes c.operation_turns.new.f)) c.in-Some-2.is c.in_ok-inside.ensures.steps) c.in_ok-open.ensures.ok c.in_ok-open-2.ensures.ok

pub returns-in_err-inside-clause-refused : goal.returns-in_err-inside-clause-refused
returns-in_err-inside-clause-refused g c =
    let s = operation_begun g.T.IrText g.A.IrText g.A.AttrText g.A.PartialEq.eq c.args.ctx.now c.args.width c.args.frame c.args.items.now.items c.in_ok-begun.begun (string_bytes c.args.f.now) (string_bytes c.begin_operation.new.f) c.in-Some.op c.in_ok-indent.indent (string_bytes c.fmt_between_operations.new.f) (sym (subst (λ z. c.operation_at.result ≡ slice_get (operations_in z c.args.frame.block) c.args.frame.operation) c.graph-graph.ensures c.operation_at.ensures.is) ∙ c.in-Some.is) (c.contains_operation.ensures.alive.0 (search)) (subst (λ z. Nested (children z) (parent z)) c.graph-graph.ensures c.keeps_nesting.ensures.forest) c.requires.fits c.in_ok-indent.ensures.ok c.in_ok-begun.ensures.found c.in_ok-begun.ensures.fits c.in_ok-fmt_between_operations.ensures.text c.in_ok-begun.ensures.text c.in_ok-begun.ensures.begun in
    propagated _ c.from_residual-in_err-inside.result c.in_err-inside.field-0.0 c.from_residual-in_err-inside.ensures.1 (λ other. begun_fault g.T.IrText g.A.IrText g.A.AttrText g.A.PartialEq.eq c.args.ctx.now c.args.width c.args.frame c.args.items.now.items c.in_ok-begun.begun (string_bytes c.args.f.now) (string_bytes c.begin_operation.new.f) s c.in_err-inside.field-0.0 (c.in_err-inside.ensures.refused other))

pub returns-in_err-begun-clause-refused : goal.returns-in_err-begun-clause-refused
returns-in_err-begun-clause-refused g c =
    let ctx = c.args.ctx.now in
    let p = c.in-Some.op in
    let there = is_there (operation ctx p) (c.contains_operation.ensures.alive.0 (search)) in
    propagated _ c.from_residual-in_err-begun.result c.in_err-begun.field-0.0 c.from_residual-in_err-begun.ensures.1 (operation_refused (heads.printing_of g.T.IrText g.A.IrText g.A.AttrText g.A.PartialEq.eq ctx) (heads.language_of g.T.IrText g.A.IrText g.A.AttrText g.A.PartialEq.eq ctx) ctx c.args.width c.args.frame p there.0 c.in_err-begun.field-0.0
    (subst (λ z. Nested (children z) (parent z)) c.graph-graph.ensures c.keeps_nesting.ensures.forest) (sym (subst (λ z. c.operation_at.result ≡ slice_get (operations_in z c.args.frame.block) c.args.frame.operation) c.graph-graph.ensures c.operation_at.ensures.is) ∙ c.in-Some.is) there.1 c.in_err-begun.ensures.refused)
