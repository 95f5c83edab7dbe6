use Rattle.std.proofs.Common.{◌∙◌, ◌+◌, ℕ, ap, subst, sym, refl, arith, IsSome}
use Rattle.irtext_graph.specs.declared.new_uses.Side.{Side}
use Rattle.irtext_graph.specs.declared.new_uses.Side.TheVariants.{Operands, Successors}
use Rattle.irtext_graph.specs.Uses.{val}
use Rattle.irtext_graph.specs.Used.{without_uses}
use Rattle.irtext_graph.specs.Linking.{site_of}
use Rattle.irtext_graph.specs.declared.object.Defined.TheVariants.{OfValue, OfBlock}
use Rattle.irtext_graph.proofs.UsesSeen.{head_there}
use Rattle.irtext_graph.proofs.SameSeen.{same_there, same_is_defined}
use Rattle.irtext_graph.proofs.Linkings.{linked_here, there_here, free_here, heads_named, live_here, named_by, named_in, side_apart, sound_linked}
use Rattle.irtext_graph.proofs.Limits.{denied, made_one, lacks_memory}
use Rattle.irtext_graph.proofs.Logs.{operation_noted}
use Rattle.irtext_graph.proofs.LogsSeen.{logged_bare}
use Rattle.irtext_graph.proofs.Made.{on_err, same_keeps, same_slots, slots_kept, slots_seen, operation_made, operation_made_seen, operation-keeps}
use Rattle.irtext_graph.proofs.Numbers.{operation_numbers}
use Rattle.irtext_graph.proofs.graph.Graph.make_operation.Goals as goal

pub returns-in_err-op-clause-kept : goal.returns-in_err-op-clause-kept
returns-in_err-op-clause-kept g c = λ m up. same_keeps m _ _ refl

pub invariant_of-self : goal.invariant_of-self
invariant_of-self g c =
    slots_kept c.self.inside.made c.self.inside.counters c.self.inside.log.items c.store.new.log.items c.self.inside.objects _ c.in_err-p.ensures.same (record { items = c.in_err-p.ensures.err; free = c.in_err-p.ensures.err_free }) same_slots same_slots c.self.invariant

pub returns-in_err-p-clause-err : goal.returns-in_err-p-clause-err
returns-in_err-p-clause-err g c = on_err _ (slots_seen c.self.inside.made c.self.inside.counters c.self.inside.objects (record c.self.inside.objects { operations = c.store.new.arena }) (record { items = c.in_err-p.ensures.err; free = c.in_err-p.ensures.err_free }) same_slots same_slots ∙ c.self.view_is)

pub returns-in_err-p-clause-kept : goal.returns-in_err-p-clause-kept
returns-in_err-p-clause-kept g c = λ m up. same_keeps m _ _ (slots_seen c.self.inside.made c.self.inside.counters c.self.inside.objects (record c.self.inside.objects { operations = c.store.new.arena }) (record { items = c.in_err-p.ensures.err; free = c.in_err-p.ensures.err_free }) same_slots same_slots ∙ c.self.view_is)

pub attach_all-requires-clause-linked : goal.attach_all-requires-clause-linked
attach_all-requires-clause-linked g c = linked_here c.self.inside.objects c.self.inside.made c.store.new.arena c.in_ok-p.p _ c.in_ok-p.ensures.inserts _ _ _ _ _ c.in_ok-op.ensures.blank c.self.invariant.sound.uses

pub attach_all-requires-clause-there : goal.attach_all-requires-clause-there
attach_all-requires-clause-there g c = λ i low. there_here c.self.inside.objects c.self.inside.made c.store.new.arena c.in_ok-p.p _ c.in_ok-p.ensures.inserts _ _ _ _ _ c.in_ok-op.ensures.blank Operands i (omega (arith, low))

pub attach_all-requires-clause-free : goal.attach_all-requires-clause-free
attach_all-requires-clause-free g c = free_here c.self.inside.objects c.self.inside.made c.store.new.arena c.in_ok-p.p _ c.in_ok-p.ensures.inserts _ _ _ _ _ c.in_ok-op.ensures.blank Operands

pub attach_all-requires-clause-alive : goal.attach_all-requires-clause-alive
attach_all-requires-clause-alive g c =
    live_here c.self.inside.objects c.self.inside.made c.store.new.arena c.in_ok-p.p _ c.in_ok-p.ensures.inserts _ _ _ _ _ c.in_ok-op.ensures.blank
    (heads_named c.self.inside.objects c.self.inside.made c.store.new.arena c.in_ok-p.p _ c.in_ok-p.ensures.inserts _ _ _ _ _ c.in_ok-op.ensures.blank
    (λ j v e. head_there c.self.inside.made c.self.inside.counters c.self.inside.objects (OfValue v) (rw (← c.self.view_is) at (c.requires.operands j v e)))
    (λ j b e. head_there c.self.inside.made c.self.inside.counters c.self.inside.objects (OfBlock b) (rw (← c.self.view_is) at (c.requires.successors j b e))))
    Operands

pub attach_all-requires-2-clause-linked : goal.attach_all-requires-2-clause-linked
attach_all-requires-2-clause-linked g c = c.attach_all.ensures.linked

pub attach_all-requires-2-clause-there : goal.attach_all-requires-2-clause-there
attach_all-requires-2-clause-there g c = λ i low.
    same_there (record c.self.inside.objects { operations = c.store.new.arena }) c.attach_all.new.self c.attach_all.ensures.seen (site_of Successors c.in_ok-p.p i)
    (there_here c.self.inside.objects c.self.inside.made c.store.new.arena c.in_ok-p.p _ c.in_ok-p.ensures.inserts _ _ _ _ _ c.in_ok-op.ensures.blank Successors i (omega (arith, low)))

pub attach_all-requires-2-clause-free : goal.attach_all-requires-2-clause-free
attach_all-requires-2-clause-free g c = λ i. c.attach_all.ensures.kept (site_of Successors c.in_ok-p.p i) (λ j. side_apart c.in_ok-p.p i j) ∙ free_here c.self.inside.objects c.self.inside.made c.store.new.arena c.in_ok-p.p _ c.in_ok-p.ensures.inserts _ _ _ _ _ c.in_ok-op.ensures.blank Successors i

pub attach_all-requires-2-clause-alive : goal.attach_all-requires-2-clause-alive
attach_all-requires-2-clause-alive g c = λ i.
    same_is_defined (record c.self.inside.objects { operations = c.store.new.arena }) c.attach_all.new.self c.attach_all.ensures.seen (site_of Successors c.in_ok-p.p i)
    (live_here c.self.inside.objects c.self.inside.made c.store.new.arena c.in_ok-p.p _ c.in_ok-p.ensures.inserts _ _ _ _ _ c.in_ok-op.ensures.blank
    (heads_named c.self.inside.objects c.self.inside.made c.store.new.arena c.in_ok-p.p _ c.in_ok-p.ensures.inserts _ _ _ _ _ c.in_ok-op.ensures.blank
    (λ j v e. head_there c.self.inside.made c.self.inside.counters c.self.inside.objects (OfValue v) (rw (← c.self.view_is) at (c.requires.operands j v e)))
    (λ j b e. head_there c.self.inside.made c.self.inside.counters c.self.inside.objects (OfBlock b) (rw (← c.self.view_is) at (c.requires.successors j b e))))
    Successors i)

pub invariant_of-self-2 : goal.invariant_of-self-2
invariant_of-self-2 g c =
    let x = c.self.inside.objects in
    let one = c.attach_all.ensures in
    let two = c.attach_all-2.ensures in
    let e = c.in_ok-p.ensures in
    record {
      sound = sound_linked x c.self.inside.made c.store.new.arena c.in_ok-p.p _ e.inserts _ _ _ _ _ c.in_ok-op.ensures.blank
          c.attach_all-2.new.self (two.seen ∙ one.seen) two.linked used (λ u away. two.kept u (away Successors) ∙ one.kept u (away Operands))
          c.self.invariant.sound (omega arith) (e.few c.self.invariant.sound.few_operations);
      logged = logged_bare (c.self.inside.made + 1) c.store.new.log.items (record x { operations = c.store.new.arena }) c.attach_all-2.new.self (ap without_uses (two.seen ∙ one.seen))
          (operation_noted c.self.inside.made c.self.inside.log.items c.store.new.log.items x c.store.new.arena c.in_ok-p.p _ e.noted c.self.invariant.logged e.inserts.updates refl);
      numbered = operation_numbers _ _ c.in_ok-p.p _ _ _ _
          (operation_made_seen c.self.inside.made c.self.inside.counters _ x (record x { operations = c.store.new.arena }) c.attach_all-2.new.self c.in_ok-p.p _ _ _ _ (two.seen ∙ one.seen)
          (operation_made c.self.inside.made c.self.inside.counters _ x c.store.new.arena c.in_ok-p.p _ _ _ _ _ e.inserts refl c.in_ok-op.ensures.blank (omega (arith, c.len-count.ensures))))
          c.self.invariant.numbered;
    }
  where
    used : (s : Side) (j : ℕ) → IsSome (named_by c.args.operands.now c.args.successors.now s j) → IsSome (val c.attach_all-2.new.self (site_of s c.in_ok-p.p j))
    used Operands j h =
        subst (λ o. IsSome o) (sym (c.attach_all-2.ensures.kept (site_of Operands c.in_ok-p.p j) (λ k e. side_apart c.in_ok-p.p k j (sym e))))
        (c.attach_all.ensures.used j (let low = named_in c.self.inside.objects c.self.inside.made c.store.new.arena c.in_ok-p.p _ c.in_ok-p.ensures.inserts _ _ _ _ _ c.in_ok-op.ensures.blank Operands j h in omega (arith, low)))
    used Successors j h = c.attach_all-2.ensures.used j (let low = named_in c.self.inside.objects c.self.inside.made c.store.new.arena c.in_ok-p.p _ c.in_ok-p.ensures.inserts _ _ _ _ _ c.in_ok-op.ensures.blank Successors j h in omega (arith, low))

pub returns-clause-made : goal.returns-clause-made
returns-clause-made g c =
    rw (← c.self.view_is)
    (operation_made_seen c.self.inside.made c.self.inside.counters _ c.self.inside.objects (record c.self.inside.objects { operations = c.store.new.arena }) c.attach_all-2.new.self c.in_ok-p.p _ _ _ _
    (c.attach_all-2.ensures.seen ∙ c.attach_all.ensures.seen)
    (operation_made c.self.inside.made c.self.inside.counters _ c.self.inside.objects c.store.new.arena c.in_ok-p.p _ _ _ _ _ c.in_ok-p.ensures.inserts refl c.in_ok-op.ensures.blank
    (omega (arith, c.len-count.ensures))))

pub returns-clause-kept : goal.returns-clause-kept
returns-clause-kept g c = λ m up. operation-keeps m _ _ c.in_ok-p.p _ _ _ _ up (returns-clause-made g c)

pub returns-then-no_more_operations-clause-full : goal.returns-then-no_more_operations-clause-full
returns-then-no_more_operations-clause-full g c = (λ _. (rw c.len-count.ensures at c.no_more_operations.ensures).0 c.if-no_more_operations.true, λ _. refl)

pub returns-in_err-op-clause-full : goal.returns-in_err-op-clause-full
returns-in_err-op-clause-full g c = lacks_memory c.from_residual.result c.in_err-op.field-0.0 c.from_residual.ensures.1 (denied (rw c.len-count.ensures at c.no_more_operations.ensures) c.if-no_more_operations.false)

pub returns-in_err-p-clause-full : goal.returns-in_err-p-clause-full
returns-in_err-p-clause-full g c = lacks_memory c.from_residual-in_err-p.result c.in_err-p.field-0.0 c.from_residual-in_err-p.ensures.1 (denied (rw c.len-count.ensures at c.no_more_operations.ensures) c.if-no_more_operations.false)

pub returns-clause-full : goal.returns-clause-full
returns-clause-full g c = made_one c.in_ok-p.p (denied (rw c.len-count.ensures at c.no_more_operations.ensures) c.if-no_more_operations.false)
