use Rattle.std.proofs.Common.{◌∙◌, ap, sym, refl, subst, inl, inr, true}
use Rattle.irtext_base.proofs.Results.{where_ok}
use Rattle.irtext_context.proofs.Kept.{kept_trans}
use Rattle.irtext_context.proofs.Contexts.{same-keeps}
use Rattle.irtext_tokens.specs.AttrTexts.{attr_at}
use Rattle.irtext_tokens.proofs.Exits.{propagated}
use Rattle.irtext_tokens.proofs.Steps.{alone}
use Rattle.irtext_parse_state.specs.States.{marks_of}
use Rattle.irtext_grammar.specs.Promises.Section.{indices_of}
use Rattle.irtext_grammar.proofs.Readers.Answered.{answered, not_answered}
use Rattle.irtext_grammar.proofs.Readers.EntryIndices.{demands}
use Rattle.irtext_grammar.proofs.Readers.NewPaths.{adds_kept}
use Rattle.irtext_grammar.proofs.Fine.{fine_section}
use Rattle.irtext_names.proofs.Outcomes.{if_err}
use Rattle.irtext_parse_nested.proofs.Marking.{on_err, always_err}
use Rattle.irtext_parse_pieces.proofs.Meanings.{takes_whole}
use Rattle.irtext_parse_section.specs.Said.{rules_of}
use Rattle.irtext_parse_section.proofs.SectionSteps.{either_way, ran_out_refusal, ran_out_there, given_kept}
use Rattle.irtext_parse_root.specs.Ended.{wrong_section, not_ended}
use Rattle.irtext_parse_root.specs.Whole.{ExpectsEnd}
use Rattle.irtext_parse_root.proofs.Outer.{none_noted, noted_there, held_under, held_beside}
use Rattle.irtext_parse_root.proofs.WholeSteps.{section_ends}
use Rattle.irtext_parse_root.proofs.whole.rest_parse.Goals as goal

-- ---- no mark is recorded
pub returns-then-not-has_marks-clause-read : goal.returns-then-not-has_marks-clause-read
returns-then-not-has_marks-clause-read g c =
    let old = c.args.s.now in
    let none = none_noted true (marks_of old.state) c.has_marks.result c.has_marks.ensures c.if-not-has_marks.true in
    where_ok c.end_demanded.result (λ e. record { end = old; parsed = held_beside _ _ none refl; ends = e; state = refl }) c.end_demanded.ensures.ends

pub returns-then-not-has_marks-clause-missed : goal.returns-then-not-has_marks-clause-missed
returns-then-not-has_marks-clause-missed g c = λ fine.
    let old = c.args.s.now in
    let none = none_noted true (marks_of old.state) c.has_marks.result c.has_marks.ensures c.if-not-has_marks.true in
    if_err c.end_demanded.result (λ fault e. inr (not_ended old.stream.rest (held_beside _ _ none refl) e)) c.end_demanded.ensures.more

pub returns-then-not-has_marks-clause-marks : goal.returns-then-not-has_marks-clause-marks
returns-then-not-has_marks-clause-marks g c = always_err c.end_demanded.result refl

pub returns-then-not-has_marks-clause-kept : goal.returns-then-not-has_marks-clause-kept
returns-then-not-has_marks-clause-kept g c = λ mark n. same-keeps mark _ _ refl

pub returns-then-not-has_marks-clause-unchanged : goal.returns-then-not-has_marks-clause-unchanged
returns-then-not-has_marks-clause-unchanged g c = λ mark n. always_err c.end_demanded.result (same-keeps mark _ _ refl)

-- ---- the section was not parsed
pub returns-in_err-entries-clause-missed : goal.returns-in_err-entries-clause-missed
returns-in_err-entries-clause-missed g c = λ fine.
    let noted = noted_there (marks_of c.args.s.now.state) c.has_marks.result c.has_marks.ensures c.if-not-has_marks.false in
    rw (propagated c.from_residual.result c.from_residual.ensures.1) (inr (wrong_section noted (not_answered fine c.in_err-entries.ensures.read.read)))

pub returns-in_err-entries-clause-refused : goal.returns-in_err-entries-clause-refused
returns-in_err-entries-clause-refused g c =
    let marks = marks_of c.args.s.now.state in
    rw (propagated c.from_residual.result c.from_residual.ensures.1) (demands (λ text. (fine_section g.A.IrText.reading g.met.A.IrText.sincere (indices_of marks) (rules_of marks) text).spares) c.in_err-entries.ensures.read.read)

pub returns-in_err-entries-clause-kept : goal.returns-in_err-entries-clause-kept
returns-in_err-entries-clause-kept g c = λ mark n. adds_kept mark c.in_err-entries.ensures.only.adds

pub returns-in_err-entries-clause-unchanged : goal.returns-in_err-entries-clause-unchanged
returns-in_err-entries-clause-unchanged g c = λ mark n. rw (propagated c.from_residual.result c.from_residual.ensures.1) (adds_kept mark c.in_err-entries.ensures.only.adds)

-- ---- the text goes on after it
pub returns-in_err-end_demanded-clause-missed : goal.returns-in_err-end_demanded-clause-missed
returns-in_err-end_demanded-clause-missed g c = λ fine.
    let old = c.args.s.now in
    let mid = c.section_checked.new.s in
    let noted = noted_there (marks_of old.state) c.has_marks.result c.has_marks.ensures c.if-not-has_marks.false in
    let k = c.in_ok-entries.ensures.read in
    let a = answered k.read in
    let same = takes_whole alone old.stream mid.stream a.taken mid.stream.rest a.takes in
    rw (propagated c.from_residual-in_err-end_demanded.result c.from_residual-in_err-end_demanded.ensures.1)
    (inr (not_ended mid.stream.rest (held_under _ _ noted (k.meant c.in_ok-entries.entries, a.taken, a.is)) (subst (λ text. ExpectsEnd text mid.stream.rest c.in_err-end_demanded.field-0.0) same c.in_err-end_demanded.ensures.more)))

pub returns-in_err-end_demanded-clause-refused : goal.returns-in_err-end_demanded-clause-refused
returns-in_err-end_demanded-clause-refused g c =
    let a = answered c.in_ok-entries.ensures.read.read in
    let e = c.in_err-end_demanded.ensures.refused in
    rw (propagated c.from_residual-in_err-end_demanded.result c.from_residual-in_err-end_demanded.ensures.1)
    (record { committed = e.committed; fails = e.fails; failed = λ f. sym (ap (λ v. v.failed) a.takes.is) ∙ e.failed f })

pub returns-in_err-end_demanded-clause-kept : goal.returns-in_err-end_demanded-clause-kept
returns-in_err-end_demanded-clause-kept g c = λ mark n. adds_kept mark c.in_ok-entries.ensures.only.adds

pub returns-in_err-end_demanded-clause-unchanged : goal.returns-in_err-end_demanded-clause-unchanged
returns-in_err-end_demanded-clause-unchanged g c = λ mark n.
    rw (propagated c.from_residual-in_err-end_demanded.result c.from_residual-in_err-end_demanded.ensures.1) (adds_kept mark c.in_ok-entries.ensures.only.adds)

-- ---- the items get what their entries give
pub returns-clause-read : goal.returns-clause-read
returns-clause-read g c =
    let old = c.args.s.now in
    let noted = noted_there (marks_of old.state) c.has_marks.result c.has_marks.ensures c.if-not-has_marks.false in
    let e = c.section_given.ensures in
    section_ends g.row.A.Denot (attr_at g.A.IrText.reading) old c.section_checked.new.s c.in_ok-entries.entries c.in_ok-entries.ensures.read c.in_ok-entries.ensures.only.adds noted c.end_demanded-2.new.stream c.in_ok-end_demanded.ensures.ends
    c.section_given.new.s c.section_given.result e.gives e.stream e.fresh

pub returns-clause-missed : goal.returns-clause-missed
returns-clause-missed g c = λ fine. if_err c.section_given.result (λ fault e. inl (ran_out_there e)) c.section_given.ensures.ran_out

pub returns-clause-refused : goal.returns-clause-refused
returns-clause-refused g c = if_err c.section_given.result (λ fault e. ran_out_refusal e) c.section_given.ensures.ran_out

pub returns-clause-marks : goal.returns-clause-marks
returns-clause-marks g c = on_err c.section_given.result (λ e. e ∙ c.in_ok-entries.ensures.only.marks) c.section_given.ensures.marks

pub returns-clause-kept : goal.returns-clause-kept
returns-clause-kept g c = λ mark n.
    given_kept g.row.A.Denot (attr_at g.A.IrText.reading) c.args.s.now c.section_checked.new.s c.in_ok-entries.entries c.in_ok-entries.ensures.read c.in_ok-entries.ensures.only.adds c.section_given.new.s.state.ctx.now mark n (c.section_given.ensures.kept mark)

pub returns-clause-unchanged : goal.returns-clause-unchanged
returns-clause-unchanged g c = λ mark n. either_way c.args.earlier
    (λ e. on_err c.section_given.result (λ k. kept_trans (adds_kept mark c.in_ok-entries.ensures.only.adds) k) (c.section_given.ensures.unchanged mark e))
    (λ e. always_err c.section_given.result (returns-clause-kept g c mark (n e)))
