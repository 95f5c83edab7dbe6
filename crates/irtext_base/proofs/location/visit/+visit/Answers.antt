use Rattle.std.proofs.Common.{◌≡◌, ◌∙◌, ap, sym, arith, length}
use Rattle.std.specs.Vec.{vec_len}
use Rattle.irtext_base.specs.Weights.{weight}
use Rattle.irtext_base.proofs.Inside.{fused_weight, item_weight}
use Rattle.irtext_base.proofs.LocationViews.{at-call_site}
use Rattle.irtext_base.proofs.Visits.{fused_visited, call_site_visited, none_visited, row_on}
use Rattle.irtext_base.proofs.location.visit.+visit.Goals as goal

pub visit_all-visit-requires : goal.visit_all-visit-requires
visit_all-visit-requires g t c κs within =
    (omega (arith, c.decreases, item_weight c.args.locations.now c.loop-location.location-index c.location-item.result c.loop-location-test.true c.location-item.is), within)

pub visit-visit_all-requires : goal.visit-visit_all-requires
visit-visit_all-requires g t c κs within =
    let v = c.in-Fused in
    let items = c.deref-in-Fused-3.ensures.value ∙ ap (λ v. v.items) c.deref-in-Fused-2.ensures in
    (omega (arith, c.decreases, c.loop-next.invariant.inside, fused_weight c.loop-next.next.now v.metadata v.locations c.deref-in-Fused-3.result.now c.in-Some.others.now c.in-Some.last.now v.is items c.in-Some.ensures.cases.0), within)

pub visit-loop-next-preserved-in-Fused : goal.visit-loop-next-preserved-in-Fused
visit-loop-next-preserved-in-Fused g t c =
    let v = c.in-Fused in
    let next = c.loop-next.next.now in
    let all = c.deref-in-Fused-3.result.now in
    let others = c.in-Some.others.now in
    let last = c.in-Some.last.now in
    let items = c.deref-in-Fused-3.ensures.value ∙ ap (λ v. v.items) c.deref-in-Fused-2.ensures in
    let parts = c.in-Some.ensures.cases.0 in
    let counted : c.len.result ≡ length all = c.len.ensures ∙ (ap vec_len (c.deref-in-Fused.ensures ∙ sym c.deref-in-Fused-2.ensures) ∙ sym c.deref-in-Fused-3.ensures.len) in
    record {
      visited = fused_visited (g.V.Visitor.visit c.args.visitor.now) next v.metadata v.locations all others last c.deref.result.now c.len.result c.loop-next.state c.fused.new.state c.visit_all.new.state v.is items parts c.deref.ensures counted c.fused.ensures c.visit_all.ensures
          ∙ c.loop-next.invariant.visited;
      inside = omega (arith, c.loop-next.invariant.inside, fused_weight next v.metadata v.locations all others last v.is items parts);
    }

pub visit-loop-next-preserved : goal.visit-loop-next-preserved
visit-loop-next-preserved g t c =
    let v = c.in-CallSite in
    let next = c.loop-next.next.now in
    let callee = c.deref-in-CallSite.result.now in
    let caller = c.deref-next-in-CallSite.result.now in
    record {
      visited = call_site_visited (g.V.Visitor.visit c.args.visitor.now) next v.callee v.caller callee caller c.loop-next.state c.called.new.state c.visit.new.state v.is c.deref-in-CallSite.ensures c.deref-next-in-CallSite.ensures c.called.ensures c.visit.ensures
          ∙ c.loop-next.invariant.visited;
      inside = omega (arith, c.loop-next.invariant.inside, ap weight (at-call_site next v.callee v.caller callee caller v.is c.deref-in-CallSite.ensures c.deref-next-in-CallSite.ensures));
    }

pub visit-returns-in_default : goal.visit-returns-in_default
visit-returns-in_default g t c =
    let v = c.in-Fused in
    let all = c.deref-in-Fused-3.result.now in
    let items = c.deref-in-Fused-3.ensures.value ∙ ap (λ v. v.items) c.deref-in-Fused-2.ensures in
    let counted : c.len.result ≡ length all = c.len.ensures ∙ (ap vec_len (c.deref-in-Fused.ensures ∙ sym c.deref-in-Fused-2.ensures) ∙ sym c.deref-in-Fused-3.ensures.len) in
    none_visited (g.V.Visitor.visit c.args.visitor.now) c.loop-next.next.now v.metadata v.locations all c.deref.result.now c.len.result c.loop-next.state c.fused.new.state v.is items c.in_default.ensures.cases c.deref.ensures counted c.fused.ensures
    ∙ c.loop-next.invariant.visited

pub visit_all-loop-location-preserved : goal.visit_all-loop-location-preserved
visit_all-loop-location-preserved g t c =
    row_on (g.V.Visitor.visit c.args.visitor.now) c.args.locations.now c.loop-location.location-index c.location-item.result c.loop-location.state c.visit.new.state c.loop-location-test.true c.location-item.is c.visit.ensures
    ∙ c.loop-location.invariant
