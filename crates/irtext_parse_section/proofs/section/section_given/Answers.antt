use Rattle.std.proofs.Common.{◌∙◌, sym, subst}
use Rattle.irtext_base.specs.Answers.{RunsOutHere}
use Rattle.irtext_grammar.specs.Readers.Streams.{itself, replaced}
use Rattle.irtext_parse_locations.proofs.ApplySteps.{unless_err, where_err}
use Rattle.irtext_parse_section.proofs.section.section_given.Goals as goal

pub returns-then-is_err-clause-ran_out : goal.returns-then-is_err-clause-ran_out
returns-then-is_err-clause-ran_out g c =
    subst (λ v. RunsOutHere itself replaced v c.out_of_memory.result c.out_of_memory.new.stream) c.entries_given.ensures.stream c.out_of_memory.ensures

pub returns-then-is_err-clause-unchanged : goal.returns-then-is_err-clause-unchanged
returns-then-is_err-clause-unchanged g c = λ mark e.
    where_err c.entries_given.result (sym c.is_err.ensures.value ∙ c.if-is_err.true) (c.entries_given.ensures.unchanged mark e)

pub returns-clause-gives : goal.returns-clause-gives
returns-clause-gives g c =
    rw c.truncate_marks.ensures.ctx (unless_err c.entries_given.result (sym c.is_err.ensures.value ∙ c.if-is_err.false) c.entries_given.ensures.gives)

pub returns-clause-kept : goal.returns-clause-kept
returns-clause-kept g c = λ mark n. rw c.truncate_marks.ensures.ctx (c.entries_given.ensures.kept mark n)

pub returns-clause-closed : goal.returns-clause-closed
returns-clause-closed g c = λ mark h. rw c.truncate_marks.ensures.ctx (c.entries_given.ensures.closed mark h)
