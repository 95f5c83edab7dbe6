use Rattle.irtext_survey.proofs.Stepping.{operation_over, operation_unended, stops_by, same_names, ready_names}
use Rattle.irtext_survey.proofs.steps.end_step.Goals as goal

pub end_parse-requires-clause-named : goal.end_parse-requires-clause-named
end_parse-requires-clause-named g c = ready_names c.args.ctx.now.dialects c.args.names.now.names _ c.args.book.now c.args.held c.args.frames.now.items c.requires.ready

pub returns : goal.returns
returns g c =
    let e = c.in_default.ensures.ends in
    record {
      steps = record {
        moves = e.moves;
        keeps = same_names c.args.names.now.names;
        nearer = operation_over g.T.IrText.reading g.A.IrText.reading g.met.T.IrText.sincere.reads g.met.A.IrText.sincere.reads c.args.ctx.now.dialects c.args.name.now c.args.names.now.names c.args.book.now c.args.stream.now c.args.frames.now.items c.args.held c.requires.next c.end_parse.new.book c.end_parse.new.stream c.popped.result c.popped.new.frames.items e c.popped.ensures;
      };
    }

pub returns-in-Err : goal.returns-in-Err
returns-in-Err g c = record {
  steps = stops_by c.in-Err.ensures.ends (λ u. record { same = u.same; stops = operation_unended g.T.IrText.reading g.A.IrText.reading g.met.T.IrText.sincere.reads g.met.A.IrText.sincere.reads c.args.ctx.now.dialects c.args.name.now c.args.names.now.names c.args.book.now c.args.stream.now c.args.frames.now.items c.args.held c.requires.next c.end_parse.new.book c.end_parse.new.stream u });
}
