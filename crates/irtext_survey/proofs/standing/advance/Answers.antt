use Rattle.std.proofs.Common.{◌∙◌, sym}
use Rattle.irtext_survey.proofs.Placing.{comes_on}
use Rattle.irtext_survey.proofs.standing.advance.Goals as goal

pub loop-at-preserved : goal.loop-at-preserved
loop-at-preserved c = comes_on c.args.stream.now.rest c.args.at c.loop-at.here c.position_past-here.result c.loop-at.stream c.take.new.self c.in-Some.c c.loop-at.invariant c.loop-at-test.ensures
    (sym c.take.ensures.value ∙ c.in-Some.is) c.take.ensures.after c.position_past-here.ensures
