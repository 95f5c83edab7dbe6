use Rattle.std.proofs.Common.{sym, ◌∙◌}
use Rattle.irtext_tokens.specs.AttrTexts.{attr_at}
use Rattle.irtext_tokens.proofs.Exits.{propagated}
use Rattle.irtext_survey.proofs.Passing.{entries_begin, entries_all, entries_refused, entries_more, entries_fall}
use Rattle.irtext_survey.proofs.section.entries_passed.Goals as goal

pub loop-stream-init : goal.loop-stream-init
loop-stream-init g c = entries_begin (attr_at g.A.IrText.reading) c.args.stream.now c.requires.fine

pub returns-in_err-entry_passed : goal.returns-in_err-entry_passed
returns-in_err-entry_passed g c = rw (propagated c.from_residual.result c.from_residual.ensures.1) (entries_refused (attr_at g.A.IrText.reading) c.loop-stream.invariant (sym c.next_is.ensures ∙ c.loop-stream-test.true) c.in_err-entry_passed.ensures)

pub loop-stream-preserved : goal.loop-stream-preserved
loop-stream-preserved g c = entries_more (attr_at g.A.IrText.reading) c.loop-stream.invariant (sym c.next_is.ensures ∙ c.loop-stream-test.true) c.in_ok-entry_passed.ensures c.skip_white_space.ensures

pub loop-stream-smaller : goal.loop-stream-smaller
loop-stream-smaller g c = entries_fall (attr_at g.A.IrText.reading) c.loop-stream.invariant (sym c.next_is.ensures ∙ c.loop-stream-test.true) c.in_ok-entry_passed.ensures c.skip_white_space.ensures

pub returns : goal.returns
returns g c = entries_all (attr_at g.A.IrText.reading) c.loop-stream.invariant (sym c.next_is.ensures ∙ c.loop-stream-test.false)
