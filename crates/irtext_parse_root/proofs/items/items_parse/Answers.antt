use Rattle.std.proofs.Common.{◌∙◌, ◌<◌, sym, subst, refl, arith, Some, None}
use Rattle.irtext_tokens.specs.AttrTexts.{attr_at}
use Rattle.irtext_parse_root.specs.Levels.{AreAllNew, left_to_do}
use Rattle.irtext_parse_root.proofs.Chains.{carries_still, carries_both}
use Rattle.irtext_parse_root.proofs.Looping.{arrives_first, are_here, arrives_on, stops_on, less_on, finishes_on, none_wait, come_to}
use Rattle.irtext_parse_root.proofs.Sparing.{fine_after, sound_after, spares_all, spares_then}
use Rattle.irtext_parse_root.proofs.items.items_parse.Goals as goal

pub loop-next-init : goal.loop-next-init
loop-next-init g c = record {
  lent = refl;
  carries = carries_still c.args.names.now c.args.s.now;
  arrives = λ base v k ls here. arrives_first g.T.IrText.reading (attr_at g.A.IrText.reading) c.args.names.now c.args.s.now base v k ls c.args.first c.new-frames.result c.new-frames.ensures here;
  spares = spares_all c.args.names.now c.args.s.now.state;
  fresh = λ m le all. (all.0, none_wait m c.args.s.now.state.ctx.now.graph c.new-frames.result c.new-frames.ensures);
}

pub step-requires : goal.step-requires
step-requires g c =
    let inv = c.loop-next.invariant in
    let at = c.requires.ready.here in
    record {
      ready = record {
        steady = record { fine = fine_after c.requires.ready.steady.fine inv.carries.moves; sound = sound_after c.requires.ready.steady.sound inv.carries };
        here = are_here g.T.IrText.reading (attr_at g.A.IrText.reading) c.args.names.now c.args.s.now c.loop-next.names c.loop-next.s inv.carries at.base at.v at.l at.ls (Some c.in-Some.frame) c.loop-next.frames
            (come_to g.T.IrText.reading (attr_at g.A.IrText.reading) c.args.names.now c.args.s.now c.loop-next.names c.loop-next.s c.loop-next.next c.loop-next.frames c.args.first (Some c.in-Some.frame) c.in-Some.is inv.arrives at.base at.v at.l at.ls at.here);
      };
    }

pub returns-in-Err-clause-stops : goal.returns-in-Err-clause-stops
returns-in-Err-clause-stops g c =
    let inv = c.loop-next.invariant in
    let stops = c.in-Err.ensures.steps.stops in
    rw c.ended.ensures
    (record {
      committed = stops.committed;
      stops = λ base v k ls here. stops_on g.T.IrText.reading (attr_at g.A.IrText.reading) c.args.names.now c.args.s.now c.loop-next.names c.loop-next.s inv.carries c.in-Some.frame c.loop-next.frames _ base v k ls stops
          (come_to g.T.IrText.reading (attr_at g.A.IrText.reading) c.args.names.now c.args.s.now c.loop-next.names c.loop-next.s c.loop-next.next c.loop-next.frames c.args.first (Some c.in-Some.frame) c.in-Some.is inv.arrives base v k ls here);
    })

pub returns-in-Err-clause-spares : goal.returns-in-Err-clause-spares
returns-in-Err-clause-spares g c =
    let inv = c.loop-next.invariant in
    let e = c.in-Err.ensures.steps.spares in
    rw c.ended.ensures
    (spares_then c.args.s.now c.loop-next.s _ inv.carries (λ m all. all)
    (λ m le all. subst (λ n. AreAllNew m c.loop-next.s.state.ctx.now.graph n c.loop-next.frames) c.in-Some.is (inv.fresh m le all)) e.remains inv.spares e)

pub loop-next-smaller : goal.loop-next-smaller
loop-next-smaller g c =
    let d = c.args.s.now.state.ctx.now.dialects in
    subst (λ n. left_to_do g.row.T.Denot g.row.A.Denot d c.in-Ok.inner c.step.new.frames c.step.new.s.stream.rest < left_to_do g.row.T.Denot g.row.A.Denot d n c.loop-next.frames c.loop-next.s.stream.rest) (sym c.in-Some.is)
    (less_on g.T.IrText.reading (attr_at g.A.IrText.reading) c.args.names.now c.args.s.now c.loop-next.names c.loop-next.s c.loop-next.invariant.carries c.in-Some.frame c.loop-next.frames c.step.new.names c.step.new.s c.in-Ok.inner c.step.new.frames c.in-Ok.ensures.steps.proceeds)

pub loop-next-preserved : goal.loop-next-preserved
loop-next-preserved g c =
    let inv = c.loop-next.invariant in
    let p = c.in-Ok.ensures.steps.proceeds in
    record {
      lent = c.in-Ok.ensures.lent ∙ inv.lent;
      carries = carries_both inv.carries p.carries;
      arrives = λ base v k ls here. arrives_on g.T.IrText.reading (attr_at g.A.IrText.reading) c.args.names.now c.args.s.now c.loop-next.names c.loop-next.s inv.carries c.in-Some.frame c.loop-next.frames c.step.new.names c.step.new.s c.in-Ok.inner c.step.new.frames base v k ls p
          (come_to g.T.IrText.reading (attr_at g.A.IrText.reading) c.args.names.now c.args.s.now c.loop-next.names c.loop-next.s c.loop-next.next c.loop-next.frames c.args.first (Some c.in-Some.frame) c.in-Some.is inv.arrives base v k ls here);
      spares = spares_then c.args.s.now c.loop-next.s _ inv.carries (λ m all. all)
          (λ m le all. subst (λ n. AreAllNew m c.loop-next.s.state.ctx.now.graph n c.loop-next.frames) c.in-Some.is (inv.fresh m le all)) tt inv.spares c.in-Ok.ensures.steps.spares;
      fresh = λ m le all.
          let up = inv.carries.lasts.made in
          p.fresh m (omega (arith, le, up)) (subst (λ n. AreAllNew m c.loop-next.s.state.ctx.now.graph n c.loop-next.frames) c.in-Some.is (inv.fresh m le all));
    }

pub returns-clause-finishes : goal.returns-clause-finishes
returns-clause-finishes g c =
    let inv = c.loop-next.invariant in
    rw c.ended-2.ensures (record {
      carries = inv.carries;
      arrives = λ base v k ls here. finishes_on g.T.IrText.reading (attr_at g.A.IrText.reading) c.args.names.now c.args.s.now c.loop-next.names c.loop-next.s inv.carries base v k ls c.loop-next.frames
          (come_to g.T.IrText.reading (attr_at g.A.IrText.reading) c.args.names.now c.args.s.now c.loop-next.names c.loop-next.s c.loop-next.next c.loop-next.frames c.args.first None c.in_default.is inv.arrives base v k ls here);
    })

pub returns-clause-spares : goal.returns-clause-spares
returns-clause-spares g c = rw c.ended-2.ensures c.loop-next.invariant.spares

pub returns-clause-stops : goal.returns-clause-stops
returns-clause-stops g c = rw c.ended-2.ensures tt

pub returns-in-Err-clause-finishes : goal.returns-in-Err-clause-finishes
returns-in-Err-clause-finishes g c = rw c.ended.ensures tt
