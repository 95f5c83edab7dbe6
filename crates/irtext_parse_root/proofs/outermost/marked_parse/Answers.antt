use Rattle.std.proofs.Common.{◌≡◌, ◌∙◌, ◌⊎◌, ◌&&◌, false, [], sym, ap, inl, inr, true≢false}
use Rattle.irtext_context.proofs.Kept.{kept_closed, kept_trans}
use Rattle.irtext_grammar.specs.Promises.Section.{is_noted}
use Rattle.irtext_tokens.proofs.Exits.{propagated}
use Rattle.irtext_parse_state.specs.States.{marks_of}
use Rattle.irtext_parse_root.proofs.Laws.{Laws, laws_of}
use Rattle.irtext_parse_root.proofs.Outer.{first_is_not, marks_there, marks_none, noted_there, none_noted}
use Rattle.irtext_parse_root.proofs.Says.{rest_undoable, operation_missed, operation_alone, section_missed, section_read}
use Rattle.irtext_parse_root.proofs.Sectioned.{marks_newer}
use Rattle.irtext_parse_root.proofs.Undoing.{done_undoable}
use Rattle.irtext_parse_root.proofs.outermost.marked_parse.Given as given
use Rattle.irtext_parse_root.proofs.outermost.marked_parse.Goals as goal
use Rattle.irtext_parse_root.proofs.outermost.marked_parse.Goals.{then-not-look-via-then-not-look, then-not-look-via-else-not-look+then-not-has_marks}

laws : (g : given.Over) → Laws g.T.IrText g.A.IrText
laws g = laws_of g.T.IrText g.A.IrText g.met.T.IrText.sincere g.met.A.IrText.sincere g.met.A.IrText.lawful

-- ---- the operation was not parsed
pub returns-in_err-op-clause-undone : goal.returns-in_err-op-clause-undone
returns-in_err-op-clause-undone g c = rw (propagated c.from_residual.result c.from_residual.ensures.1) c.in_err-op.ensures.undone

pub returns-in_err-op-clause-answers : goal.returns-in_err-op-clause-answers
returns-in_err-op-clause-answers g c = rw (propagated c.from_residual.result c.from_residual.ensures.1) (operation_missed (laws g) c.args.s.now c.tree_parse.new.s _ c.in_err-op.ensures.accepted c.in_err-op.ensures.missed c.args.look)

pub returns-in_err-op-clause-closed : goal.returns-in_err-op-clause-closed
returns-in_err-op-clause-closed g c = λ h. kept_closed h c.in_err-op.ensures.kept

-- ---- no section is parsed
pub returns-then-not-look-clause-undone : goal.returns-then-not-look-clause-undone
returns-then-not-look-clause-undone g c = record { rest = c.in_ok-op.ensures.undone.rest; refused = tt; noted = tt; kept = tt }

pub returns-then-not-look-clause-answers : goal.returns-then-not-look-clause-answers
returns-then-not-look-clause-answers g c =
    let look = c.args.look in
    let marks = marks_of c.tree_parse.new.s.state in
    let bare : (look && is_noted marks) ≡ false = elim c.then-not-look.branch [
      | then-not-look-via-then-not-look w ↦ first_is_not look (is_noted marks) w.if-not-look.true
      | then-not-look-via-else-not-look+then-not-has_marks w ↦ none_noted look marks w.has_marks.result w.has_marks.ensures w.if-not-has_marks.true
    ] in
    let none : (look ≡ false) ⊎ (marks ≡ []) = elim c.then-not-look.branch [
      | then-not-look-via-then-not-look w ↦ inl w.if-not-look.true
      | then-not-look-via-else-not-look+then-not-has_marks w ↦ inr (marks_none marks w.has_marks.result w.has_marks.ensures w.if-not-has_marks.true)
    ] in
    operation_alone (laws g) c.in_ok-op.op c.args.s.now c.tree_parse.new.s c.in_ok-op.ensures.read look bare none

pub returns-then-not-look-clause-closed : goal.returns-then-not-look-clause-closed
returns-then-not-look-clause-closed g c = λ h. kept_closed h c.in_ok-op.ensures.kept

-- ---- the section was not parsed
pub returns-in_err-section_parse-clause-undone : goal.returns-in_err-section_parse-clause-undone
returns-in_err-section_parse-clause-undone g c = rw (propagated c.from_residual-in_err-section_parse.result c.from_residual-in_err-section_parse.ensures.1)
    (rest_undoable (laws g) c.in_ok-op.op c.args.s.now c.tree_parse.new.s c.in_ok-op.ensures.read c.requires.fine c.has_marks-earlier.result c.has_marks-earlier.ensures c.section_parse.new.s _ c.in_ok-op.ensures.undone.rest c.in_err-section_parse.ensures.rest c.in_err-section_parse.ensures.refused c.in_err-section_parse.ensures.marks c.in_ok-op.ensures.kept c.in_err-section_parse.ensures.unchanged)

pub returns-in_err-section_parse-clause-answers : goal.returns-in_err-section_parse-clause-answers
returns-in_err-section_parse-clause-answers g c =
    let marks = marks_of c.tree_parse.new.s.state in
    let e = c.in_ok-op.ensures in
    let there = c.if-not-has_marks.false in
    rw (propagated c.from_residual-in_err-section_parse.result c.from_residual-in_err-section_parse.ensures.1)
    (section_missed (laws g) c.in_ok-op.op c.args.s.now c.tree_parse.new.s e.read c.args.look c.if-not-look.false (noted_there marks c.has_marks.result c.has_marks.ensures there) (marks_there marks c.has_marks.result c.has_marks.ensures there)
    c.section_parse.new.s _ (c.in_err-section_parse.ensures.missed (ap (λ v. v.failed) e.moves.takes.is ∙ c.requires.fine)))

pub returns-in_err-section_parse-clause-closed : goal.returns-in_err-section_parse-clause-closed
returns-in_err-section_parse-clause-closed g c = λ h. c.in_err-section_parse.ensures.closed c.args.s.now.state.ctx.now.graph.made (kept_closed h c.in_ok-op.ensures.kept)

pub returns-in_err-section_parse-clause-kept : goal.returns-in_err-section_parse-clause-kept
returns-in_err-section_parse-clause-kept g c = λ fresh.
    let old = c.args.s.now in
    kept_trans c.in_ok-op.ensures.kept (c.in_err-section_parse.ensures.kept old.state.ctx.now.graph.made (marks_newer (laws g) c.in_ok-op.op old c.tree_parse.new.s c.in_ok-op.ensures.read fresh.marks))

pub returns-in_err-section_parse-clause-kept_alone : goal.returns-in_err-section_parse-clause-kept_alone
returns-in_err-section_parse-clause-kept_alone g c = λ e. absurd (true≢false (sym c.if-not-look.false ∙ e))

-- ---- both were parsed
pub returns-clause-undone : goal.returns-clause-undone
returns-clause-undone g c = done_undoable (c.in_ok-op.ensures.undone.rest) (c.in_ok-section_parse.ensures.rest)

pub returns-clause-answers : goal.returns-clause-answers
returns-clause-answers g c =
    let old = c.args.s.now in
    let marks = marks_of c.tree_parse.new.s.state in
    let e = c.in_ok-op.ensures in
    let f = c.in_ok-section_parse.ensures in
    let there = c.if-not-has_marks.false in
    section_read (laws g) c.in_ok-op.op old c.tree_parse.new.s e.read c.args.look c.if-not-look.false (noted_there marks c.has_marks.result c.has_marks.ensures there) (marks_there marks c.has_marks.result c.has_marks.ensures there)
    c.section_parse.new.s f.read (λ fresh. f.kept old.state.ctx.now.graph.made (marks_newer (laws g) c.in_ok-op.op old c.tree_parse.new.s e.read fresh.marks))

pub returns-clause-closed : goal.returns-clause-closed
returns-clause-closed g c = λ h. c.in_ok-section_parse.ensures.closed c.args.s.now.state.ctx.now.graph.made (kept_closed h c.in_ok-op.ensures.kept)

pub returns-clause-kept : goal.returns-clause-kept
returns-clause-kept g c = λ fresh.
    let old = c.args.s.now in
    kept_trans c.in_ok-op.ensures.kept (c.in_ok-section_parse.ensures.kept old.state.ctx.now.graph.made (marks_newer (laws g) c.in_ok-op.op old c.tree_parse.new.s c.in_ok-op.ensures.read fresh.marks))

pub returns-clause-kept_alone : goal.returns-clause-kept_alone
returns-clause-kept_alone g c = λ e. absurd (true≢false (sym c.if-not-look.false ∙ e))
