use Rattle.std.proofs.Common.{◌≡◌, ◌∙◌, inl, inr, length, refl, slice_get, sym, subst, Some}
use Rattle.irtext_context.proofs.Parts.{seen_is_live}
use Rattle.irtext_graph.specs.Graph.{IsLive, children, parent}
use Rattle.irtext_graph.specs.Nested.{Nested}
use Rattle.irtext_graph.specs.Parts.{regions}
use Rattle.irtext_graph.specs.declared.object.Object.TheVariants.{TheOperation}
use Rattle.irtext_print.proofs.Printers.Appended.{then, then-err}
use Rattle.irtext_print_ops.proofs.Turned.{region_is_live}
use Rattle.irtext_print_ops.specs.Heads as heads
use Rattle.irtext_print_ir.proofs.Printers.OpPrinters.{sole_at, sole_none}
use Rattle.irtext_print_ir.proofs.irfmt.printers.op.print_region.Goals as goal

pub count_regions-requires : goal.count_regions-requires
count_regions-requires g c = subst (λ z. IsLive z (TheOperation c.args.op)) (sym c.graph-graph.ensures) (seen_is_live c.args.ctx.now c.args.op c.requires.live)

pub only_region-requires : goal.only_region-requires
only_region-requires g c = record {
  live = subst (λ z. IsLive z (TheOperation c.args.op)) (sym c.graph-graph.ensures) (seen_is_live c.args.ctx.now c.args.op c.requires.live);
  one = sym c.count_regions.ensures ∙ c.if-count_regions-ne1.false;
}

pub print_region-requires : goal.print_region-requires
print_region-requires g c = record {
  live = region_is_live (heads.printing_of g.T.IrText g.A.IrText g.A.AttrText g.A.PartialEq.eq c.args.ctx.now) (heads.language_of g.T.IrText g.A.IrText g.A.AttrText g.A.PartialEq.eq c.args.ctx.now) c.args.ctx.now 0
      (subst (λ z. Nested (children z) (parent z)) c.graph-graph.ensures c.keeps_nesting.ensures.forest) c.args.op c.only_region.result 0 (subst (λ z. slice_get (regions z c.args.op) 0 ≡ Some c.only_region.result) c.graph-graph.ensures c.only_region.ensures);
}

pub returns-then-count_regions-ne1-clause-refused : goal.returns-then-count_regions-ne1-clause-refused
returns-then-count_regions-ne1-clause-refused g c = λ other. inl (refl, sole_none (regions c.args.ctx.now.graph c.args.op) (λ one. c.if-count_regions-ne1.true ((subst (λ z. c.count_regions.result ≡ length (regions z c.args.op)) c.graph-graph.ensures c.count_regions.ensures) ∙ one)))

pub returns-clause-prints : goal.returns-clause-prints
returns-clause-prints g c =
    let one : length (regions c.args.ctx.now.graph c.args.op) ≡ 1 = sym (subst (λ z. c.count_regions.result ≡ length (regions z c.args.op)) c.graph-graph.ensures c.count_regions.ensures) ∙ c.if-count_regions-ne1.false in
    then c.print_region.result (λ p. (c.only_region.result, sole_at (regions c.args.ctx.now.graph c.args.op) c.only_region.result one (subst (λ z. slice_get (regions z c.args.op) 0 ≡ Some c.only_region.result) c.graph-graph.ensures c.only_region.ensures), p)) c.print_region.ensures.prints

pub returns-clause-refused : goal.returns-clause-refused
returns-clause-refused g c =
    let one : length (regions c.args.ctx.now.graph c.args.op) ≡ 1 = sym (subst (λ z. c.count_regions.result ≡ length (regions z c.args.op)) c.graph-graph.ensures c.count_regions.ensures) ∙ c.if-count_regions-ne1.false in
    then-err c.print_region.result (λ e h other. inr (c.only_region.result, sole_at (regions c.args.ctx.now.graph c.args.op) c.only_region.result one (subst (λ z. slice_get (regions z c.args.op) 0 ≡ Some c.only_region.result) c.graph-graph.ensures c.only_region.ensures), h other)) c.print_region.ensures.refused
