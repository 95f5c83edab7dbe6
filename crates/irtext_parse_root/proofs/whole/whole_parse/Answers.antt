use Rattle.std.proofs.Common.{◌∙◌, sym}
use Rattle.irtext_parse_root.proofs.Undoing.{closed_there, undoes, resolves, first_fault}
use Rattle.irtext_parse_root.proofs.Unresolved.{no_whole}
use Rattle.irtext_parse_root.proofs.whole.whole_parse.Goals as goal

pub undone_on_error-requires : goal.undone_on_error-requires
undone_on_error-requires g c = record { closed = closed_there c.start_of-start.result c.args.s.now c.ended_parse-answer.new.s c.start_of-start.ensures c.ended_parse-answer.result c.ended_parse-answer.ensures.undone }

pub returns-clause-undone : goal.returns-clause-undone
returns-clause-undone g c = undoes c.start_of-start.result c.args.s.now c.ended_parse-answer.new.s c.start_of-start.ensures c.undone_on_error.new.s c.ended_parse-answer.result c.undone_on_error.result c.ended_parse-answer.ensures.undone c.undone_on_error.ensures.back

pub returns-clause-resolves : goal.returns-clause-resolves
returns-clause-resolves g c = resolves c.start_of-start.result c.args.s.now c.ended_parse-answer.new.s c.undone_on_error.new.s c.start_of-start.ensures (sym c.has_failed.ensures ∙ c.if-has_failed.false)
    (no_whole g.T.IrText g.A.IrText c.args.s.now)
    c.ended_parse-answer.result c.undone_on_error.result c.ended_parse-answer.ensures.answers c.undone_on_error.ensures.back

pub returns-clause-first : goal.returns-clause-first
returns-clause-first g c = first_fault c.start_of-start.result c.args.s.now c.ended_parse-answer.new.s c.undone_on_error.new.s c.start_of-start.ensures (sym c.has_failed.ensures ∙ c.if-has_failed.false)
    c.ended_parse-answer.result c.undone_on_error.result c.ended_parse-answer.ensures.undone c.ended_parse-answer.ensures.answers c.undone_on_error.ensures.back
