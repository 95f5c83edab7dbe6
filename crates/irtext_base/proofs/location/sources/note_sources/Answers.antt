use Rattle.std.proofs.Common.{◌∙◌, ap, sym, arith}
use Rattle.irtext_base.specs.Waits.{left_noted, left_weight}
use Rattle.irtext_base.proofs.Waits.{noted_first, weight_first}
use Rattle.irtext_base.proofs.location.sources.note_sources.Goals as goal

pub loop-next-smaller : goal.loop-next-smaller
loop-next-smaller g c =
    omega (arith, c.in_ok-note_next.ensures.less, ap left_weight c.in-Some.ensures.items, weight_first c.pop.new.self.items c.in-Some.next)

pub loop-next-preserved : goal.loop-next-preserved
loop-next-preserved g c =
    let found = c.loop-next.found.items in
    c.in_ok-note_next.ensures.noted ∙ (sym (noted_first found c.pop.new.self.items c.in-Some.next) ∙ (sym (ap (left_noted found) c.in-Some.ensures.items) ∙ c.loop-next.invariant))
