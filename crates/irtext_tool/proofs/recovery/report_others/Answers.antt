use Rattle.irtext_tool.proofs.Telling.{more_again, then_more}
use Rattle.irtext_tool.proofs.recovery.report_others.Goals as goal

pub loop-turn-preserved : goal.loop-turn-preserved
loop-turn-preserved g c =
    more_again (g.E.Write.contents c.args.errors.now) (g.E.Write.contents c.loop-turn.errors) (g.E.Write.contents c.report_next.new.errors)
    c.loop-turn.invariant c.in_ok-next-in-From.ensures

pub returns-in-From-next : goal.returns-in-From-next
returns-in-From-next g c =
    then_more (g.E.Write.contents c.args.errors.now) (g.E.Write.contents c.loop-turn.errors) (g.E.Write.contents c.report_limit.new.errors)
    c.report_limit.result c.loop-turn.invariant c.report_limit.ensures
