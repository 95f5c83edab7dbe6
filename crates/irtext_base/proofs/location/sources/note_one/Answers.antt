use Rattle.std.proofs.Common.{◌∙◌, ◌+◌, arith, ap, sym, refl}
use Rattle.irtext_base.specs.declared.location.sources.Waits.TheVariants.{One, Row}
use Rattle.irtext_base.specs.Locations.{location_view, all_noted}
use Rattle.irtext_base.specs.Waits.{left_noted}
use Rattle.irtext_base.specs.Weights.{weight, weight_of}
use Rattle.irtext_base.proofs.Results.{where_ok}
use Rattle.irtext_base.proofs.LocationViews.{at-fused, at-named, at-call_site}
use Rattle.irtext_base.proofs.Waits.{put, put_weight}
use Rattle.irtext_base.proofs.location.sources.note_one.Goals as goal

pub returns-in-Fused-clause-noted : goal.returns-in-Fused-clause-noted
returns-in-Fused-clause-noted g c =
    let found = c.args.found.now.items in
    let row = c.deref-in-Fused.result in
    let same = at-fused c.args.location.now c.in-Fused.metadata c.in-Fused.locations row.now c.in-Fused.is (c.deref-in-Fused.ensures.value ∙ ap (λ v. v.items) c.deref.ensures) in
    where_ok c.wait.result (λ e. put found c.args.waits.now.items c.wait.new.waits.items (Row row) (location_view c.args.location.now) e (sym (ap (all_noted found) same))) c.wait.ensures

pub returns-in-Fused-clause-less : goal.returns-in-Fused-clause-less
returns-in-Fused-clause-less g c =
    let row = c.deref-in-Fused.result in
    let same = at-fused c.args.location.now c.in-Fused.metadata c.in-Fused.locations row.now c.in-Fused.is (c.deref-in-Fused.ensures.value ∙ ap (λ v. v.items) c.deref.ensures) in
    where_ok c.wait.result (λ e. put_weight c.args.waits.now.items c.wait.new.waits.items (Row row) (weight_of c.args.location.now) e (sym (ap weight same))) c.wait.ensures

pub returns-in-Named-clause-noted : goal.returns-in-Named-clause-noted
returns-in-Named-clause-noted g c =
    let found = c.args.found.now.items in
    let child = c.deref-in-Named.result in
    let same = at-named c.args.location.now c.in-Named.name c.in-Named.child_loc child.now c.in-Named.is c.deref-in-Named.ensures in
    where_ok c.wait-in-Named.result (λ e. put found c.args.waits.now.items c.wait-in-Named.new.waits.items (One child) (location_view c.args.location.now) e (sym (ap (all_noted found) same))) c.wait-in-Named.ensures

pub returns-in-Named-clause-less : goal.returns-in-Named-clause-less
returns-in-Named-clause-less g c =
    let child = c.deref-in-Named.result in
    let same = at-named c.args.location.now c.in-Named.name c.in-Named.child_loc child.now c.in-Named.is c.deref-in-Named.ensures in
    where_ok c.wait-in-Named.result (λ e. put_weight c.args.waits.now.items c.wait-in-Named.new.waits.items (One child) (weight_of c.args.location.now) e (sym (ap weight same))) c.wait-in-Named.ensures

pub returns-in_ok-wait-in-CallSite-clause-noted : goal.returns-in_ok-wait-in-CallSite-clause-noted
returns-in_ok-wait-in-CallSite-clause-noted g c =
    let found = c.args.found.now.items in
    let caller = c.deref-in-CallSite.result in
    let callee = c.deref-in-CallSite-2.result in
    let same = at-call_site c.args.location.now c.in-CallSite.callee c.in-CallSite.caller callee.now caller.now c.in-CallSite.is c.deref-in-CallSite-2.ensures c.deref-in-CallSite.ensures in
    let middle = c.wait-in-CallSite.new.waits.items in
    where_ok c.wait-in-CallSite-2.result (λ e. put found middle c.wait-in-CallSite-2.new.waits.items (One callee) (location_view callee.now) e refl
    ∙ put (all_noted found (location_view callee.now)) c.args.waits.now.items middle (One caller) (location_view caller.now) c.in_ok-wait-in-CallSite.ensures refl
    ∙ ap (λ f. left_noted f c.args.waits.now.items) (sym (ap (all_noted found) same))) c.wait-in-CallSite-2.ensures

pub returns-in_ok-wait-in-CallSite-clause-less : goal.returns-in_ok-wait-in-CallSite-clause-less
returns-in_ok-wait-in-CallSite-clause-less g c =
    let caller = c.deref-in-CallSite.result in
    let callee = c.deref-in-CallSite-2.result in
    let same = at-call_site c.args.location.now c.in-CallSite.callee c.in-CallSite.caller callee.now caller.now c.in-CallSite.is c.deref-in-CallSite-2.ensures c.deref-in-CallSite.ensures in
    let middle = c.wait-in-CallSite.new.waits.items in
    where_ok c.wait-in-CallSite-2.result (λ e. omega (
      arith,
      ap weight same,
      put_weight middle c.wait-in-CallSite-2.new.waits.items (One callee) (1 + weight_of callee.now) e refl,
      put_weight c.args.waits.now.items middle (One caller) (1 + weight_of caller.now) c.in_ok-wait-in-CallSite.ensures refl,
    )) c.wait-in-CallSite-2.ensures
