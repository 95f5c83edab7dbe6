use Rattle.irtext_tokens.specs.AttrTexts.{attr_at}
use Rattle.irtext_survey.specs.Root.{left_to_do}
use Rattle.irtext_survey.proofs.Looping.{Came}
use Rattle.irtext_survey.proofs.root.rest_parse.Given as goal

-- the first frame led to those that are open now
abbrev pub invariant-loop-next : goal.invariant-loop-next
invariant-loop-next g l = Came {T = g.row.T.Denot} {A = g.row.A.Denot} g.T.IrText.reading (attr_at g.A.IrText.reading) l.ctx.dialects l.name l.fn.names.names l.fn.book l.fn.first l.fn.stream l.names.names l.book l.next l.frames.items l.stream

abbrev pub decreases-loop-next : goal.decreases-loop-next
decreases-loop-next g l = left_to_do g.row.T.Denot g.row.A.Denot l.ctx.dialects l.next l.frames.items l.stream.rest
