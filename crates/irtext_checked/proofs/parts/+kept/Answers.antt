use Rattle.std.proofs.Common.{◌∙◌, ap, arith, refl}
use Rattle.irtext_base.proofs.Inside.{item_weight, fused_weight}
use Rattle.std.proofs.Math.Nat.{le_refl}
use Rattle.irtext_base.specs.Weights.{weight_of}
use Rattle.irtext_grammar.proofs.KeptLocations.{src_pos_kept, unknown_kept, fused_none_kept, fused_last_kept, named_weight, named_kept, call_site_weight, call_site_kept, WholeIsKept, ManyAreKept}
use Rattle.irtext_grammar.proofs.KeptParts.{next_kept, none_left}
use Rattle.irtext_checked.proofs.parts.+kept.Goals as goal

pub locations_kept-location_kept-requires : goal.locations_kept-location_kept-requires
locations_kept-location_kept-requires g t c κs within =
    (omega (arith, c.decreases, item_weight c.args.locations.now c.loop-location.location-index c.location-item.result (omega arith) c.location-item.is), within)

pub locations_kept-loop-location-preserved : goal.locations_kept-loop-location-preserved
locations_kept-loop-location-preserved g t c =
    next_kept (WholeIsKept c.args.ctx.now.paths) (ManyAreKept c.args.ctx.now.paths) (λ x xs h r. ((h.0, r.0), (h.1, r.1))) c.args.locations.now c.loop-location.location-index c.location-item.result (omega arith) c.location-item.is
    (c.location_kept.ensures.fits, c.location_kept.ensures.holds) c.loop-location.invariant

pub location_kept-locations_kept-requires : goal.location_kept-locations_kept-requires
location_kept-locations_kept-requires g t c κs within =
    let v = c.in-Fused in
    let items = c.deref-in-Fused-2.ensures.value ∙ ap (λ v. v.items) c.deref-in-Fused.ensures in
    let whole = fused_weight c.loop-next.next.now v.metadata v.locations c.deref-in-Fused-2.result.now c.in-Some.others.now c.in-Some.last.now v.is items c.in-Some.ensures.cases.0 in
    (omega (arith, c.decreases, c.loop-next.invariant.inside, whole), within)

pub location_kept-loop-next-preserved-in-Fused : goal.location_kept-loop-next-preserved-in-Fused
location_kept-loop-next-preserved-in-Fused g t c =
    let v = c.in-Fused in
    let next = c.loop-next.next.now in
    let others = c.in-Some.others.now in
    let last = c.in-Some.last.now in
    let all = c.deref-in-Fused-2.result.now in
    let items = c.deref-in-Fused-2.ensures.value ∙ ap (λ v. v.items) c.deref-in-Fused.ensures in
    let parts = c.in-Some.ensures.cases.0 in
    record {
      kept = λ end. c.loop-next.invariant.kept (fused_last_kept next v.metadata v.locations all v.is items c.args.ctx.now.paths c.deref.result.now others last parts c.deref.ensures c.metadata_kept.ensures (c.locations_kept.ensures.fits, c.locations_kept.ensures.holds) end);
      inside = omega (arith, c.loop-next.invariant.inside, fused_weight next v.metadata v.locations all others last v.is items parts);
    }

pub location_kept-loop-next-preserved-in-Named : goal.location_kept-loop-next-preserved-in-Named
location_kept-loop-next-preserved-in-Named g t c =
    let v = c.in-Named in
    let next = c.loop-next.next.now in
    let inside = c.deref-next.result.now in
    record {
      kept = λ child. c.loop-next.invariant.kept (named_kept next v.name v.child_loc inside v.is c.deref-next.ensures c.args.ctx.now.paths child);
      inside = omega (arith, c.loop-next.invariant.inside, named_weight next v.name v.child_loc inside v.is c.deref-next.ensures);
    }

pub location_kept-location_kept-requires : goal.location_kept-location_kept-requires
location_kept-location_kept-requires g t c κs within =
    let v = c.in-CallSite in
    (omega (arith, c.decreases, c.loop-next.invariant.inside, call_site_weight c.loop-next.next.now v.callee v.caller c.deref-in-CallSite.result.now v.caller.value v.is c.deref-in-CallSite.ensures refl), within)

pub location_kept-loop-next-preserved : goal.location_kept-loop-next-preserved
location_kept-loop-next-preserved g t c =
    let v = c.in-CallSite in
    let next = c.loop-next.next.now in
    let callee = c.deref-in-CallSite.result.now in
    let caller = c.deref-next-in-CallSite.result.now in
    record {
      kept = λ end. c.loop-next.invariant.kept (call_site_kept next v.callee v.caller callee caller v.is c.deref-in-CallSite.ensures c.deref-next-in-CallSite.ensures c.args.ctx.now.paths (c.location_kept.ensures.fits, c.location_kept.ensures.holds) end);
      inside = omega (arith, c.loop-next.invariant.inside, call_site_weight next v.callee v.caller callee caller v.is c.deref-in-CallSite.ensures c.deref-next-in-CallSite.ensures);
    }

pub locations_kept-loop-location-init : goal.locations_kept-loop-location-init
locations_kept-loop-location-init g t c = λ all. all

pub locations_kept-returns : goal.locations_kept-returns
locations_kept-returns g t c =
    let all = none_left (ManyAreKept c.args.ctx.now.paths) (tt, tt) c.args.locations.now c.loop-location.location-index (omega (arith, c.loop-location-test.false)) c.loop-location.invariant in
    record { fits = all.0; holds = all.1 }

pub location_kept-loop-next-init : goal.location_kept-loop-next-init
location_kept-loop-next-init g t c = record { kept = λ whole. whole; inside = le_refl (weight_of c.args.location.now) }

pub location_kept-returns-in-SrcPos : goal.location_kept-returns-in-SrcPos
location_kept-returns-in-SrcPos g t c =
    let v = c.in-SrcPos in
    let whole = c.loop-next.invariant.kept (src_pos_kept c.loop-next.next.now v.src v.pos v.is c.args.ctx.now.paths c.source_kept.ensures c.position_fits.ensures) in
    record { fits = whole.0; holds = whole.1 }

pub location_kept-returns-in_default : goal.location_kept-returns-in_default
location_kept-returns-in_default g t c =
    let v = c.in-Fused in
    let all = c.deref-in-Fused-2.result.now in
    let items = c.deref-in-Fused-2.ensures.value ∙ ap (λ v. v.items) c.deref-in-Fused.ensures in
    let whole = c.loop-next.invariant.kept (fused_none_kept c.loop-next.next.now v.metadata v.locations all v.is items c.args.ctx.now.paths c.deref.result.now c.in_default.ensures.cases c.deref.ensures c.metadata_kept.ensures) in
    record { fits = whole.0; holds = whole.1 }

pub location_kept-returns-in-Unknown : goal.location_kept-returns-in-Unknown
location_kept-returns-in-Unknown g t c =
    let whole = c.loop-next.invariant.kept (unknown_kept c.loop-next.next.now c.in-Unknown.is c.args.ctx.now.paths) in
    record { fits = whole.0; holds = whole.1 }
