use Rattle.std.proofs.Common.{◌∙◌, sym, arith}
use Rattle.irtext_survey.proofs.Scopes.{looked_on, looked_all}
use Rattle.irtext_survey.proofs.notes.in_scope.Goals as goal

pub loop-left-preserved : goal.loop-left-preserved
loop-left-preserved g c =
    let l = c.loop-left in
    (omega (arith, l.invariant.0), omega (arith, l.invariant.1, c.in-Some.ensures.within, c.loop-left-test.true), sym (looked_on c.args.mention c.args.notes.now l.left (l.inner, l.found) _ c.note_at.result (omega (arith, c.loop-left-test.true)) c.note_at.ensures (sym c.go_back.ensures.gives ∙ c.in-Some.is)) ∙ l.invariant.2)

pub returns-in-None : goal.returns-in-None
returns-in-None g c =
    let l = c.loop-left in
    sym (looked_all c.args.mention c.args.notes.now l.left (l.inner, l.found) c.note_at.result (omega (arith, c.loop-left-test.true)) c.note_at.ensures (sym c.go_back.ensures.gives ∙ c.in-None.is)) ∙ l.invariant.2
