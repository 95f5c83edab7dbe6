use Rattle.std.proofs.Common.{inl, inr, ◌∙◌}
use Rattle.irtext_context.proofs.Kept.{kept_trans}
use Rattle.irtext_tokens.specs.AttrTexts.{attr_at}
use Rattle.irtext_tokens.proofs.Exits.{propagated}
use Rattle.irtext_parse_state.specs.States.{marks_of}
use Rattle.irtext_grammar.specs.Promises.Section.{indices_of}
use Rattle.irtext_grammar.proofs.Readers.Answered.{not_answered}
use Rattle.irtext_grammar.proofs.Readers.EntryIndices.{demands}
use Rattle.irtext_grammar.proofs.Readers.NewPaths.{adds_kept}
use Rattle.irtext_grammar.proofs.Fine.{fine_section}
use Rattle.irtext_parse_section.specs.Said.{rules_of}
use Rattle.irtext_parse_section.proofs.SectionSteps.{either_way, adds_closed, ran_out_refusal, ran_out_there, given_kept, reads_section}
use Rattle.irtext_parse_section.proofs.section.section_parse.Goals as goal

pub returns-in_err-entries-clause-kept : goal.returns-in_err-entries-clause-kept
returns-in_err-entries-clause-kept g c = λ mark n. adds_kept mark c.in_err-entries.ensures.only.adds

pub returns-in_err-entries-clause-missed : goal.returns-in_err-entries-clause-missed
returns-in_err-entries-clause-missed g c = λ fine.
    rw (propagated c.from_residual.result c.from_residual.ensures.1) (not_answered fine c.in_err-entries.ensures.read.read)

pub returns-in_err-entries-clause-refused : goal.returns-in_err-entries-clause-refused
returns-in_err-entries-clause-refused g c =
    let marks = marks_of c.args.s.now.state in
    rw (propagated c.from_residual.result c.from_residual.ensures.1) (demands (λ text. (fine_section g.A.IrText.reading g.met.A.IrText.sincere (indices_of marks) (rules_of marks) text).spares) c.in_err-entries.ensures.read.read)

pub returns-in_err-entries-clause-closed : goal.returns-in_err-entries-clause-closed
returns-in_err-entries-clause-closed g c = λ mark h. adds_closed mark c.args.s.now.state.ctx.now c.section_checked.new.s.state.ctx.now c.in_err-entries.ensures.only.adds h

pub returns-in_err-entries-clause-adds : goal.returns-in_err-entries-clause-adds
returns-in_err-entries-clause-adds g c = rw (propagated c.from_residual.result c.from_residual.ensures.1) (inr c.in_err-entries.ensures.only.adds)

pub returns-in_err-entries-clause-unchanged : goal.returns-in_err-entries-clause-unchanged
returns-in_err-entries-clause-unchanged g c = λ mark n. rw (propagated c.from_residual.result c.from_residual.ensures.1) (adds_kept mark c.in_err-entries.ensures.only.adds)

pub returns-in_err-section_given-clause-missed : goal.returns-in_err-section_given-clause-missed
returns-in_err-section_given-clause-missed g c = λ fine.
    rw (propagated c.from_residual-in_err-section_given.result c.from_residual-in_err-section_given.ensures.1) (inl (ran_out_there c.in_err-section_given.ensures.ran_out))

pub returns-in_err-section_given-clause-refused : goal.returns-in_err-section_given-clause-refused
returns-in_err-section_given-clause-refused g c =
    rw (propagated c.from_residual-in_err-section_given.result c.from_residual-in_err-section_given.ensures.1) (ran_out_refusal c.in_err-section_given.ensures.ran_out)

pub returns-in_err-section_given-clause-marks : goal.returns-in_err-section_given-clause-marks
returns-in_err-section_given-clause-marks g c =
    rw (propagated c.from_residual-in_err-section_given.result c.from_residual-in_err-section_given.ensures.1) (c.in_err-section_given.ensures.marks ∙ c.in_ok-entries.ensures.only.marks)

pub returns-in_err-section_given-clause-kept : goal.returns-in_err-section_given-clause-kept
returns-in_err-section_given-clause-kept g c = λ mark n.
    given_kept g.row.A.Denot (attr_at g.A.IrText.reading) c.args.s.now c.section_checked.new.s c.in_ok-entries.entries c.in_ok-entries.ensures.read c.in_ok-entries.ensures.only.adds c.section_given.new.s.state.ctx.now mark n (c.in_err-section_given.ensures.kept mark)

pub returns-in_err-section_given-clause-closed : goal.returns-in_err-section_given-clause-closed
returns-in_err-section_given-clause-closed g c = λ mark h.
    c.in_err-section_given.ensures.closed mark (adds_closed mark c.args.s.now.state.ctx.now c.section_checked.new.s.state.ctx.now c.in_ok-entries.ensures.only.adds h)

pub returns-in_err-section_given-clause-adds : goal.returns-in_err-section_given-clause-adds
returns-in_err-section_given-clause-adds g c =
    rw (propagated c.from_residual-in_err-section_given.result c.from_residual-in_err-section_given.ensures.1) (inl (ran_out_there c.in_err-section_given.ensures.ran_out))

pub returns-in_err-section_given-clause-unchanged : goal.returns-in_err-section_given-clause-unchanged
returns-in_err-section_given-clause-unchanged g c = λ mark n.
    rw (propagated c.from_residual-in_err-section_given.result c.from_residual-in_err-section_given.ensures.1) (either_way c.args.earlier
    (λ e. kept_trans (adds_kept mark c.in_ok-entries.ensures.only.adds) (c.in_err-section_given.ensures.unchanged mark e))
    (λ e. returns-in_err-section_given-clause-kept g c mark (n e)))

pub returns-clause-read : goal.returns-clause-read
returns-clause-read g c =
    let e = c.in_ok-section_given.ensures in
    reads_section g.row.A.Denot (attr_at g.A.IrText.reading) c.args.s.now c.section_checked.new.s c.in_ok-entries.entries c.in_ok-entries.ensures.read c.in_ok-entries.ensures.only.adds _ e.gives e.stream e.fresh

pub returns-clause-kept : goal.returns-clause-kept
returns-clause-kept g c = λ mark n.
    given_kept g.row.A.Denot (attr_at g.A.IrText.reading) c.args.s.now c.section_checked.new.s c.in_ok-entries.entries c.in_ok-entries.ensures.read c.in_ok-entries.ensures.only.adds c.section_given.new.s.state.ctx.now mark n (c.in_ok-section_given.ensures.kept mark)

pub returns-clause-closed : goal.returns-clause-closed
returns-clause-closed g c = λ mark h.
    c.in_ok-section_given.ensures.closed mark (adds_closed mark c.args.s.now.state.ctx.now c.section_checked.new.s.state.ctx.now c.in_ok-entries.ensures.only.adds h)
