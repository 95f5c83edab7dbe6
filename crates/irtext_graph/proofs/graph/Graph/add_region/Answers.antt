use Rattle.std.proofs.Common.{◌∙◌, refl, subst}
use Rattle.irtext_graph.specs.Arena.{get}
use Rattle.irtext_graph.specs.Regions.{with_child}
use Rattle.irtext_graph.specs.Store.{Edits}
use Rattle.irtext_graph.specs.Uses.{operations_seen}
use Rattle.irtext_graph.proofs.Added.{Roomier, room_live, room_kept, room_seen, refused_kept, refused_seen, grown_in, added_kept, adds_seen, added-keeps}
use Rattle.irtext_graph.proofs.Limits.{denied, made_one, lacks_memory}
use Rattle.irtext_graph.proofs.Made.{on_err, same_keeps}
use Rattle.irtext_graph.proofs.PartsSeen.{operation_there}
use Rattle.irtext_graph.proofs.graph.Graph.add_region.Goals as goal

pub make_region_room-requires : goal.make_region_room-requires
make_region_room-requires g c = operation_there c.self.inside.made c.self.inside.counters c.self.inside.objects c.args.op (rw (← c.self.view_is) at c.requires)

pub child_count-requires : goal.child_count-requires
child_count-requires g c = room_live (get c.make_region_room.new.self c.args.op) c.in_ok-make_region_room.ensures.room

pub invariant_of-self : goal.invariant_of-self
invariant_of-self g c =
    let s = c.make_region_room.ensures in
    let x = c.self.inside.objects in
    room_kept x c.make_region_room.new.self (record { lists = s.kids; only = s.only }) c.self.inside.made c.self.inside.counters c.self.inside.log.items c.self.invariant

pub returns-in_err-make_region_room-clause-kept : goal.returns-in_err-make_region_room-clause-kept
returns-in_err-make_region_room-clause-kept g c = λ m up none.
    let s = c.make_region_room.ensures in
    same_keeps m _ _ (room_seen c.self.inside.objects c.make_region_room.new.self (record { lists = s.kids; only = s.only }) c.self.inside.made c.self.inside.counters s.seen ∙ c.self.view_is)

pub invariant_of-self-in_err-p : goal.invariant_of-self-in_err-p
invariant_of-self-in_err-p g c =
    let s = c.make_region_room.ensures in
    refused_kept c.self.inside.objects c.make_region_room.new.self (record { lists = s.kids; only = s.only }) c.self.inside.made c.self.inside.counters c.self.inside.log.items c.store.new.log.items
    c.store.new.arena c.in_err-p.ensures.same c.in_err-p.ensures.err c.self.invariant

pub returns-in_err-p-clause-err : goal.returns-in_err-p-clause-err
returns-in_err-p-clause-err g c =
    let s = c.make_region_room.ensures in
    on_err _ (refused_seen c.self.inside.objects c.make_region_room.new.self (record { lists = s.kids; only = s.only }) c.self.inside.made c.self.inside.counters
    c.store.new.arena s.seen c.in_err-p.ensures.err c.in_err-p.ensures.err_free ∙ c.self.view_is)

pub returns-in_err-p-clause-kept : goal.returns-in_err-p-clause-kept
returns-in_err-p-clause-kept g c = λ m up none.
    let s = c.make_region_room.ensures in
    same_keeps m _ _ (refused_seen c.self.inside.objects c.make_region_room.new.self (record { lists = s.kids; only = s.only }) c.self.inside.made c.self.inside.counters
    c.store.new.arena s.seen c.in_err-p.ensures.err c.in_err-p.ensures.err_free ∙ c.self.view_is)

pub invariant_of-self-2 : goal.invariant_of-self-2
invariant_of-self-2 g c =
    let s = c.make_region_room.ensures in
    let t = c.push_region.ensures in
    let x = c.self.inside.objects in
    let e = c.in_ok-p.ensures in
    let r : Roomier x c.make_region_room.new.self c.args.op = record { lists = s.kids; only = s.only } in
    let grown = grown_in x c.make_region_room.new.self c.push_region.new.self c.args.op c.in_ok-p.p r (record { here = t.here; only = t.only }) in
    added_kept x c.self.inside.made c.push_region.new.self c.store.new.arena c.args.op c.in_ok-p.p _ grown e.inserts refl c.new.ensures c.self.inside.counters c.self.inside.log.items c.store.new.log.items
    e.noted refl (e.few c.self.invariant.sound.few_regions) c.self.invariant

pub returns-clause-added : goal.returns-clause-added
returns-clause-added g c =
    let s = c.make_region_room.ensures in
    let t = c.push_region.ensures in
    let x = c.self.inside.objects in
    let r : Roomier x c.make_region_room.new.self c.args.op = record { lists = s.kids; only = s.only } in
    let grown = grown_in x c.make_region_room.new.self c.push_region.new.self c.args.op c.in_ok-p.p r (record { here = t.here; only = t.only }) in
    rw (← c.self.view_is)
    (adds_seen x c.self.inside.made c.push_region.new.self c.store.new.arena c.args.op c.in_ok-p.p _ grown c.in_ok-p.ensures.inserts refl c.new.ensures c.self.inside.counters refl
    (subst (λ z. Edits z (operations_seen c.push_region.new.self) c.args.op (with_child c.in_ok-p.p)) s.seen t.edits))

pub returns-clause-kept : goal.returns-clause-kept
returns-clause-kept g c = λ m up none. added-keeps m _ _ c.args.op c.in_ok-p.p up none (returns-clause-added g c)

pub returns-then-no_more_regions-clause-full : goal.returns-then-no_more_regions-clause-full
returns-then-no_more_regions-clause-full g c = (λ _. c.no_more_regions.ensures.0 c.if-no_more_regions.true, λ _. refl)

pub returns-in_err-make_region_room-clause-full : goal.returns-in_err-make_region_room-clause-full
returns-in_err-make_region_room-clause-full g c = lacks_memory c.from_residual.result c.in_err-make_region_room.field-0.0 c.from_residual.ensures.1 (denied c.no_more_regions.ensures c.if-no_more_regions.false)

pub returns-in_err-p-clause-full : goal.returns-in_err-p-clause-full
returns-in_err-p-clause-full g c = lacks_memory c.from_residual-in_err-p.result c.in_err-p.field-0.0 c.from_residual-in_err-p.ensures.1 (denied c.no_more_regions.ensures c.if-no_more_regions.false)

pub returns-clause-full : goal.returns-clause-full
returns-clause-full g c = made_one c.in_ok-p.p (denied c.no_more_regions.ensures c.if-no_more_regions.false)
