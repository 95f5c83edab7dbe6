use Rattle.std.proofs.Common.{sym, ◌∙◌}
use Rattle.irtext_tokens.specs.AttrTexts.{attr_at}
use Rattle.irtext_tokens.proofs.Exits.{propagated}
use Rattle.irtext_survey.specs.Section.{pair_in}
use Rattle.irtext_survey.proofs.Passing.{passing_first, passing_all, passing_refused, passing_more, passing_falls}
use Rattle.irtext_survey.proofs.section.more_passed.Goals as goal

pub loop-stream-init : goal.loop-stream-init
loop-stream-init g c = λ first fine. passing_first (pair_in (attr_at g.A.IrText.reading)) first c.args.stream.now fine

pub returns-in_err-committed : goal.returns-in_err-committed
returns-in_err-committed g c = λ first fine.
    rw (propagated c.from_residual.result c.from_residual.ensures.1) (passing_refused (pair_in (attr_at g.A.IrText.reading)) (c.loop-stream.invariant first fine) (sym c.next_is.ensures ∙ c.loop-stream-test.true) c.take.ensures.after c.skip_white_space.ensures c.pair_passed-answer.ensures c.in_err-committed.ensures)

pub loop-stream-preserved : goal.loop-stream-preserved
loop-stream-preserved g c = λ first fine.
    passing_more (pair_in (attr_at g.A.IrText.reading)) (c.loop-stream.invariant first fine) (sym c.next_is.ensures ∙ c.loop-stream-test.true) c.take.ensures.after c.skip_white_space.ensures c.pair_passed-answer.ensures c.in_ok-committed.ensures c.skip_white_space-in-loop-stream.ensures

pub loop-stream-smaller : goal.loop-stream-smaller
loop-stream-smaller g c =
    passing_falls (pair_in (attr_at g.A.IrText.reading)) c.loop-stream.stream (sym c.next_is.ensures ∙ c.loop-stream-test.true) c.take.ensures.after c.skip_white_space.ensures c.pair_passed-answer.ensures c.in_ok-committed.ensures c.skip_white_space-in-loop-stream.ensures

pub returns : goal.returns
returns g c = λ first fine. passing_all (pair_in (attr_at g.A.IrText.reading)) (c.loop-stream.invariant first fine) (sym c.next_is.ensures ∙ c.loop-stream-test.false)
