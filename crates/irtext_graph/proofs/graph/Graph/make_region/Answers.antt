use Rattle.std.proofs.Common.{◌∙◌, refl, arith}
use Rattle.irtext_graph.proofs.Limits.{denied, made_one, lacks_memory}
use Rattle.irtext_graph.proofs.Logs.{region_noted}
use Rattle.irtext_graph.proofs.Sounds.{sound_region}
use Rattle.irtext_graph.proofs.Made.{on_err, same_keeps, same_slots, slots_kept, slots_seen, region_made, region-keeps}
use Rattle.irtext_graph.proofs.graph.Graph.make_region.Goals as goal

pub invariant_of-self : goal.invariant_of-self
invariant_of-self g c =
    slots_kept c.self.inside.made c.self.inside.counters c.self.inside.log.items c.store.new.log.items c.self.inside.objects _ c.in_err-p.ensures.same same_slots same_slots (record { items = c.in_err-p.ensures.err; free = c.in_err-p.ensures.err_free }) c.self.invariant

pub returns-in_err-p-clause-kept : goal.returns-in_err-p-clause-kept
returns-in_err-p-clause-kept g c = λ m up. same_keeps m _ _ (slots_seen c.self.inside.made c.self.inside.counters c.self.inside.objects (record c.self.inside.objects { regions = c.store.new.arena }) same_slots same_slots (record { items = c.in_err-p.ensures.err; free = c.in_err-p.ensures.err_free }) ∙ c.self.view_is)

pub invariant_of-self-2 : goal.invariant_of-self-2
invariant_of-self-2 g c =
    let e = c.in_ok-p.ensures in
    record {
      sound = sound_region c.self.inside.objects c.self.inside.made c.store.new.arena c.in_ok-p.p _ e.inserts refl c.new.ensures c.self.invariant.sound (omega arith) (e.few c.self.invariant.sound.few_regions);
      logged = region_noted c.self.inside.made c.self.inside.log.items c.store.new.log.items c.self.inside.objects c.store.new.arena c.in_ok-p.p _ e.noted c.self.invariant.logged e.inserts.updates refl;
      numbered = record { below = c.self.invariant.numbered.below; differ = c.self.invariant.numbered.differ };
    }

pub returns-clause-made : goal.returns-clause-made
returns-clause-made g c = rw (← c.self.view_is) (region_made c.self.inside.made c.self.inside.counters c.self.inside.objects c.store.new.arena c.in_ok-p.p _ c.in_ok-p.ensures.inserts refl refl c.new.ensures)

pub returns-clause-kept : goal.returns-clause-kept
returns-clause-kept g c = λ m up. region-keeps m _ _ c.in_ok-p.p up (returns-clause-made g c)

pub returns-then-no_more_regions-clause-full : goal.returns-then-no_more_regions-clause-full
returns-then-no_more_regions-clause-full g c = (λ _. c.no_more_regions.ensures.0 c.if-no_more_regions.true, λ _. refl)

pub returns-in_err-p-clause-full : goal.returns-in_err-p-clause-full
returns-in_err-p-clause-full g c = lacks_memory c.from_residual.result c.in_err-p.field-0.0 c.from_residual.ensures.1 (denied c.no_more_regions.ensures c.if-no_more_regions.false)

pub returns-clause-full : goal.returns-clause-full
returns-clause-full g c = made_one c.in_ok-p.p (denied c.no_more_regions.ensures c.if-no_more_regions.false)

pub returns-in_err-p-clause-err : goal.returns-in_err-p-clause-err
returns-in_err-p-clause-err g c = on_err _ (slots_seen c.self.inside.made c.self.inside.counters c.self.inside.objects (record c.self.inside.objects { regions = c.store.new.arena }) same_slots same_slots (record { items = c.in_err-p.ensures.err; free = c.in_err-p.ensures.err_free }) ∙ c.self.view_is)
