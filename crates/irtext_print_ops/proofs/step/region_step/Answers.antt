use Rattle.std.proofs.Common.{◌≡◌, ◌∙◌, ◌∷◌, [], slice_get, refl, sym, subst, string_bytes, arith, true, false, ◌≤◌, ◌+◌, ◌^◌}
use Rattle.irtext_context.proofs.Drops.{one_left}
use Rattle.irtext_graph.specs.Graph.{children, parent}
use Rattle.irtext_graph.specs.Nested.{Nested}
use Rattle.irtext_graph.specs.Parts.{blocks}
use Rattle.irtext_print_ops.specs.Heads as heads
use Rattle.irtext_print_ops.specs.declared.frame.Frame.TheVariants as framed
use Rattle.irtext_print_ops.proofs.Turned.{block_is_live, region_ended, region_begins}
use Rattle.irtext_print_ops.proofs.Descents.{entered}
use Rattle.irtext_print_ops.proofs.Tests.{none_left}
use Rattle.irtext_print_ops.proofs.Refused.{propagated, block_refused}
use Rattle.irtext_print_ops.proofs.step.region_step.Goals as goal

pub returns-in_default-clause-steps : goal.returns-in_default-clause-steps
returns-in_default-clause-steps g c =
    region_ended (heads.printing_of g.T.IrText g.A.IrText g.A.AttrText g.A.PartialEq.eq c.args.ctx.now) (heads.language_of g.T.IrText g.A.IrText g.A.AttrText g.A.PartialEq.eq c.args.ctx.now) c.args.ctx.now c.args.width c.args.frame c.args.items.now.items c.args.frames.now.items (string_bytes c.args.f.now) (string_bytes c.fmt_closing.new.f)
    (none_left (blocks c.args.ctx.now.graph c.args.frame.region) c.args.frame.block (sym (subst (λ z. c.block_at.result ≡ slice_get (blocks z c.args.frame.region) c.args.frame.block) c.graph-graph.ensures c.block_at.ensures.is) ∙ c.in_default.is)) c.in_ok-fmt_closing.ensures.text

pub fmt_block_head-requires : goal.fmt_block_head-requires
fmt_block_head-requires g c = record { live = block_is_live (heads.printing_of g.T.IrText g.A.IrText g.A.AttrText g.A.PartialEq.eq c.args.ctx.now) (heads.language_of g.T.IrText g.A.IrText g.A.AttrText g.A.PartialEq.eq c.args.ctx.now) c.args.ctx.now c.args.width (subst (λ z. Nested (children z) (parent z)) c.graph-graph.ensures c.keeps_nesting.ensures.forest) c.args.frame.region c.in-Some.block c.args.frame.block (sym (subst (λ z. c.block_at.result ≡ slice_get (blocks z c.args.frame.region) c.args.frame.block) c.graph-graph.ensures c.block_at.ensures.is) ∙ c.in-Some.is) }

pub fmt_block_mark-requires : goal.fmt_block_mark-requires
fmt_block_mark-requires g c = record { live = block_is_live (heads.printing_of g.T.IrText g.A.IrText g.A.AttrText g.A.PartialEq.eq c.args.ctx.now) (heads.language_of g.T.IrText g.A.IrText g.A.AttrText g.A.PartialEq.eq c.args.ctx.now) c.args.ctx.now c.args.width (subst (λ z. Nested (children z) (parent z)) c.graph-graph.ensures c.keeps_nesting.ensures.forest) c.args.frame.region c.in-Some.block c.args.frame.block (sym (subst (λ z. c.block_at.result ≡ slice_get (blocks z c.args.frame.region) c.args.frame.block) c.graph-graph.ensures c.block_at.ensures.is) ∙ c.in-Some.is) }

pub returns-clause-steps : goal.returns-clause-steps
returns-clause-steps g c =
    let ctx = c.args.ctx.now in
    let b = c.in-Some.block in
    let bks = blocks ctx.graph c.args.frame.region in
    let next = framed.Region (record c.args.frame { block = c.args.frame.block + 1; first = false }) in
    let inner = framed.Block (record { block = b; operation = 0; first = true; indent = c.in_ok-indent.indent; limit = c.args.frame.limit }) in
    entered (heads.printing_of g.T.IrText g.A.IrText g.A.AttrText g.A.PartialEq.eq ctx) (heads.language_of g.T.IrText g.A.IrText g.A.AttrText g.A.PartialEq.eq ctx) ctx c.args.width (framed.Region c.args.frame) inner c.args.items.now.items c.fmt_block_mark.new.items.items c.args.frames.now.items c.open.new.frames.items (next ∷ []) (string_bytes c.args.f.now) (string_bytes c.fmt_colon.new.f)
    c.in_ok-open.ensures.ok
    (region_begins (heads.printing_of g.T.IrText g.A.IrText g.A.AttrText g.A.PartialEq.eq ctx) (heads.language_of g.T.IrText g.A.IrText g.A.AttrText g.A.PartialEq.eq ctx) ctx c.args.width
    c.args.frame c.args.items.now.items [] b c.in_ok-indent.indent c.in_ok-inner.inner c.fmt_block_mark.new.items.items (string_bytes c.args.f.now) (string_bytes c.fmt_between_blocks.new.f) (string_bytes c.fmt_block_head.new.f) (string_bytes c.fmt_block_mark.new.f) (string_bytes c.fmt_colon.new.f) (next ∷ inner ∷ [])
    (sym (subst (λ z. c.block_at.result ≡ slice_get (blocks z c.args.frame.region) c.args.frame.block) c.graph-graph.ensures c.block_at.ensures.is) ∙ c.in-Some.is) (one_left bks c.args.frame.block b (sym (sym (subst (λ z. c.block_at.result ≡ slice_get (blocks z c.args.frame.region) c.args.frame.block) c.graph-graph.ensures c.block_at.ensures.is) ∙ c.in-Some.is))) (subst (λ z. Nested (children z) (parent z)) c.graph-graph.ensures c.keeps_nesting.ensures.forest) c.requires.fits c.in_ok-indent.ensures.ok c.in_ok-inner.ensures.ok
    c.in_ok-fmt_between_blocks.ensures.text c.in_ok-fmt_block_head.ensures.text c.in_ok-fmt_block_mark.ensures.text c.in_ok-fmt_colon.ensures.text c.in_ok-fmt_block_mark.ensures.items refl)

pub returns-in_err-indent-clause-refused : goal.returns-in_err-indent-clause-refused
returns-in_err-indent-clause-refused g c =
    let ctx = c.args.ctx.now in
    let refused = c.in_err-indent.ensures.refused in
    let deep = refused.1 in
    propagated _ c.from_residual-in_err-indent.result c.in_err-indent.field-0.0 c.from_residual-in_err-indent.ensures.1 (block_refused (heads.printing_of g.T.IrText g.A.IrText g.A.AttrText g.A.PartialEq.eq ctx) (heads.language_of g.T.IrText g.A.IrText g.A.AttrText g.A.PartialEq.eq ctx) ctx c.args.width c.args.frame c.in-Some.block c.in_err-indent.field-0.0
    (subst (λ z. Nested (children z) (parent z)) c.graph-graph.ensures c.keeps_nesting.ensures.forest) (sym (subst (λ z. c.block_at.result ≡ slice_get (blocks z c.args.frame.region) c.args.frame.block) c.graph-graph.ensures c.block_at.ensures.is) ∙ c.in-Some.is) refused.0 (omega (arith, deep)))

pub returns-in_err-inner-clause-refused : goal.returns-in_err-inner-clause-refused
returns-in_err-inner-clause-refused g c =
    let ctx = c.args.ctx.now in
    let refused = c.in_err-inner.ensures.refused in
    propagated _ c.from_residual-in_err-inner.result c.in_err-inner.field-0.0 c.from_residual-in_err-inner.ensures.1 (block_refused (heads.printing_of g.T.IrText g.A.IrText g.A.AttrText g.A.PartialEq.eq ctx) (heads.language_of g.T.IrText g.A.IrText g.A.AttrText g.A.PartialEq.eq ctx) ctx c.args.width c.args.frame c.in-Some.block c.in_err-inner.field-0.0
    (subst (λ z. Nested (children z) (parent z)) c.graph-graph.ensures c.keeps_nesting.ensures.forest) (sym (subst (λ z. c.block_at.result ≡ slice_get (blocks z c.args.frame.region) c.args.frame.block) c.graph-graph.ensures c.block_at.ensures.is) ∙ c.in-Some.is) refused.0 (subst (λ z. 2 ^ 16 ≤ z + c.args.width) c.in_ok-indent.ensures.ok refused.1))
