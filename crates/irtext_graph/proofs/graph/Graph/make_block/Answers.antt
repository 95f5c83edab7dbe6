use Rattle.std.proofs.Common.{◌∙◌, refl, arith}
use Rattle.irtext_graph.proofs.Limits.{denied, made_one, lacks_memory}
use Rattle.irtext_graph.proofs.Logs.{block_noted}
use Rattle.irtext_graph.proofs.Sounds.{sound_block}
use Rattle.irtext_graph.proofs.Made.{on_err, same_keeps, same_slots, slots_kept, slots_seen, block_made, block-keeps}
use Rattle.irtext_graph.proofs.Numbers.{block_numbers}
use Rattle.irtext_graph.proofs.graph.Graph.make_block.Goals as goal

pub invariant_of-self : goal.invariant_of-self
invariant_of-self g c = slots_kept c.self.inside.made c.self.inside.counters c.self.inside.log.items c.store.new.log.items c.self.inside.objects _ c.in_err-p.ensures.same same_slots (record { items = c.in_err-p.ensures.err; free = c.in_err-p.ensures.err_free }) same_slots c.self.invariant

pub returns-in_err-p-clause-err : goal.returns-in_err-p-clause-err
returns-in_err-p-clause-err g c = on_err _ (slots_seen c.self.inside.made c.self.inside.counters c.self.inside.objects (record c.self.inside.objects { blocks = c.store.new.arena }) same_slots (record { items = c.in_err-p.ensures.err; free = c.in_err-p.ensures.err_free }) same_slots ∙ c.self.view_is)

pub returns-in_err-p-clause-kept : goal.returns-in_err-p-clause-kept
returns-in_err-p-clause-kept g c = λ m up. same_keeps m _ _ (slots_seen c.self.inside.made c.self.inside.counters c.self.inside.objects (record c.self.inside.objects { blocks = c.store.new.arena }) same_slots (record { items = c.in_err-p.ensures.err; free = c.in_err-p.ensures.err_free }) same_slots ∙ c.self.view_is)

pub invariant_of-self-2 : goal.invariant_of-self-2
invariant_of-self-2 g c =
    let e = c.in_ok-p.ensures in
    record {
      sound = sound_block c.self.inside.objects c.self.inside.made c.store.new.arena c.in_ok-p.p _ e.inserts refl c.new.ensures c.in_ok-arguments.ensures.defines.unused c.of.ensures c.self.invariant.sound (omega arith) (e.few c.self.invariant.sound.few_blocks);
      logged = block_noted c.self.inside.made c.self.inside.log.items c.store.new.log.items c.self.inside.objects c.store.new.arena c.in_ok-p.p _ e.noted c.self.invariant.logged e.inserts.updates refl;
      numbered = block_numbers _ _ c.in_ok-p.p c.args.value c.args.types
          (block_made c.self.inside.made c.self.inside.counters _ c.self.inside.objects c.store.new.arena c.in_ok-p.p _ c.args.value c.args.types e.inserts refl refl c.new.ensures refl
          c.in_ok-arguments.ensures.defines.values (omega (arith, c.len-count.ensures)))
          c.self.invariant.numbered;
    }

pub returns-clause-made : goal.returns-clause-made
returns-clause-made g c =
    rw (← c.self.view_is) (block_made c.self.inside.made c.self.inside.counters _ c.self.inside.objects c.store.new.arena c.in_ok-p.p _ c.args.value c.args.types c.in_ok-p.ensures.inserts refl refl c.new.ensures refl
    c.in_ok-arguments.ensures.defines.values (omega (arith, c.len-count.ensures)))

pub returns-clause-kept : goal.returns-clause-kept
returns-clause-kept g c = λ m up. block-keeps m _ _ c.in_ok-p.p c.args.value c.args.types up (returns-clause-made g c)

pub returns-then-no_more_blocks-clause-full : goal.returns-then-no_more_blocks-clause-full
returns-then-no_more_blocks-clause-full g c = (λ _. (rw c.len-count.ensures at c.no_more_blocks.ensures).0 c.if-no_more_blocks.true, λ _. refl)

pub returns-in_err-arguments-clause-full : goal.returns-in_err-arguments-clause-full
returns-in_err-arguments-clause-full g c = lacks_memory c.from_residual.result c.in_err-arguments.field-0.0 c.from_residual.ensures.1 (denied (rw c.len-count.ensures at c.no_more_blocks.ensures) c.if-no_more_blocks.false)

pub returns-in_err-p-clause-full : goal.returns-in_err-p-clause-full
returns-in_err-p-clause-full g c = lacks_memory c.from_residual-in_err-p.result c.in_err-p.field-0.0 c.from_residual-in_err-p.ensures.1 (denied (rw c.len-count.ensures at c.no_more_blocks.ensures) c.if-no_more_blocks.false)

pub returns-clause-full : goal.returns-clause-full
returns-clause-full g c = made_one c.in_ok-p.p (denied (rw c.len-count.ensures at c.no_more_blocks.ensures) c.if-no_more_blocks.false)
