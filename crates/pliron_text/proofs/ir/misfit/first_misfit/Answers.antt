use Rattle.std.proofs.Common.{◌∙◌, inl, refl, ap, subst}
use Rattle.std.specs.Prelude.{IfSome}
use Rattle.irtext_graph.specs.Graph.{IsInside}
use Rattle.irtext_graph.specs.Throughout.{all_from}
use Rattle.irtext_graph.specs.declared.object.Object.TheVariants.{TheOperation}
use Rattle.pliron_text.proofs.Covered.{none_misfits}
use Rattle.pliron_text.proofs.Misfitting.{live_there, fewer, fits_on, all_fit, is_first}
use Rattle.pliron_text.proofs.ir.misfit.first_misfit.Goals as goal

pub loop-at-init : goal.loop-at-init
loop-at-init g c = record { so_far = λ q w. inl (c.keeps_order.ensures.all (TheOperation c.args.root) q w); inside = (0, refl); live = live_there c.args.ctx.now c.args.root c.requires.live }

pub loop-at-smaller : goal.loop-at-smaller
loop-at-smaller g c =
    let o = TheOperation c.args.root in
    fewer (all_from c.args.ctx.now.graph o c.loop-at.at) (all_from c.args.ctx.now.graph o c.next_inside-at.result) c.in-Some.object (ap (all_from c.args.ctx.now.graph o) c.in-Some.is ∙ c.next_inside-at.ensures.next)

pub loop-at-preserved : goal.loop-at-preserved
loop-at-preserved g c =
    let n = c.next_inside-at.ensures in
    record {
      so_far = λ q w. fits_on g.A.IrText.written g.A.AttrText g.A.PartialEq.eq c.args.ctx.now c.args.root c.loop-at.at c.next_inside-at.result c.in-Some.object c.in-Some.is n.next c.in-None.ensures.fits q (c.loop-at.invariant.so_far q w);
      inside = n.inside;
      live = n.there;
    }

pub returns-clause-fits : goal.returns-clause-fits
returns-clause-fits g c = λ q w. all_fit g.A.IrText.written g.A.AttrText g.A.PartialEq.eq c.args.ctx.now c.args.root c.loop-at.at c.in_default.is q (c.loop-at.invariant.so_far q w)

pub returns-clause-printable : goal.returns-clause-printable
returns-clause-printable g c =
    none_misfits g.T.IrText g.A.IrText g.A.AttrText g.A.PartialEq.eq c.args.ctx.now c.args.root c.keeps_order.ensures.forest
    (λ q w. all_fit g.A.IrText.written g.A.AttrText g.A.PartialEq.eq c.args.ctx.now c.args.root c.loop-at.at c.in_default.is q (c.loop-at.invariant.so_far q w)) c.requires.live

pub returns-in-Some-misfit_at-clause-first : goal.returns-in-Some-misfit_at-clause-first
returns-in-Some-misfit_at-clause-first g c =
    let found = c.in-Some-misfit_at in
    is_first g.A.IrText.written g.A.AttrText g.A.PartialEq.eq c.args.ctx.now c.args.root c.loop-at.at c.in-Some.object found.found.0 found.found.1 c.in-Some.is found.ensures.is c.loop-at.invariant.so_far
    (subst (λ o. IfSome o (IsInside c.args.ctx.now.graph (TheOperation c.args.root))) c.in-Some.is c.loop-at.invariant.inside) found.ensures.live found.ensures.reason
