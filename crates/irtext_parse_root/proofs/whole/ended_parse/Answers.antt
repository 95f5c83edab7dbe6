use Rattle.std.proofs.Common.{◌∙◌, ap}
use Rattle.irtext_tokens.proofs.Exits.{propagated}
use Rattle.irtext_parse_root.proofs.Laws.{Laws, laws_of}
use Rattle.irtext_parse_root.proofs.Says.{root_missed, rest_undoable, rest_missed, rest_read}
use Rattle.irtext_parse_root.proofs.Sectioned.{marks_newer}
use Rattle.irtext_parse_root.proofs.Undoing.{done_undoable}
use Rattle.irtext_parse_root.proofs.whole.ended_parse.Given as given
use Rattle.irtext_parse_root.proofs.whole.ended_parse.Goals as goal

laws : (g : given.Over) → Laws g.T.IrText g.A.IrText
laws g = laws_of g.T.IrText g.A.IrText g.met.T.IrText.sincere g.met.A.IrText.sincere g.met.A.IrText.lawful

-- ---- the operation was not parsed
pub returns-in_err-op-clause-undone : goal.returns-in_err-op-clause-undone
returns-in_err-op-clause-undone g c = rw (propagated c.from_residual.result c.from_residual.ensures.1) c.in_err-op.ensures.undone

pub returns-in_err-op-clause-answers : goal.returns-in_err-op-clause-answers
returns-in_err-op-clause-answers g c = rw (propagated c.from_residual.result c.from_residual.ensures.1) (root_missed (laws g) c.args.s.now c.tree_parse.new.s _ c.in_err-op.ensures.accepted c.in_err-op.ensures.missed)

-- ---- what has to follow it was not parsed
pub returns-in_err-rest_parse-clause-undone : goal.returns-in_err-rest_parse-clause-undone
returns-in_err-rest_parse-clause-undone g c = rw (propagated c.from_residual-in_err-rest_parse.result c.from_residual-in_err-rest_parse.ensures.1)
    (rest_undoable (laws g) c.in_ok-op.op c.args.s.now c.tree_parse.new.s c.in_ok-op.ensures.read c.requires.fine c.has_marks-earlier.result c.has_marks-earlier.ensures c.rest_parse.new.s _ c.in_ok-op.ensures.undone.rest c.in_err-rest_parse.ensures.rest c.in_err-rest_parse.ensures.refused c.in_err-rest_parse.ensures.marks c.in_ok-op.ensures.kept c.in_err-rest_parse.ensures.unchanged)

pub returns-in_err-rest_parse-clause-answers : goal.returns-in_err-rest_parse-clause-answers
returns-in_err-rest_parse-clause-answers g c =
    let e = c.in_ok-op.ensures in
    rw (propagated c.from_residual-in_err-rest_parse.result c.from_residual-in_err-rest_parse.ensures.1)
    (rest_missed (laws g) c.in_ok-op.op c.args.s.now c.tree_parse.new.s e.read c.rest_parse.new.s _ (c.in_err-rest_parse.ensures.missed (ap (λ v. v.failed) e.moves.takes.is ∙ c.requires.fine)))

-- ---- both were parsed
pub returns-clause-undone : goal.returns-clause-undone
returns-clause-undone g c = done_undoable (c.in_ok-op.ensures.undone.rest) (c.in_ok-rest_parse.ensures.rest)

pub returns-clause-answers : goal.returns-clause-answers
returns-clause-answers g c =
    let old = c.args.s.now in
    let e = c.in_ok-op.ensures in
    let f = c.in_ok-rest_parse.ensures in
    rest_read (laws g) c.in_ok-op.op old c.tree_parse.new.s e.read c.rest_parse.new.s f.read (λ fresh. f.kept old.state.ctx.now.graph.made (marks_newer (laws g) c.in_ok-op.op old c.tree_parse.new.s e.read fresh.marks))
