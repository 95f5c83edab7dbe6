use Rattle.std.proofs.Common.{◌∙◌, ap}
use Rattle.irtext_parse_pieces.specs.Steps.{seen_step}
use Rattle.irtext_survey.proofs.Stepping.{piece_nearer, piece_stops, stops_by}
use Rattle.irtext_survey.proofs.steps.piece_step.Goals as goal

pub returns : goal.returns
returns g c =
    let r = c.in_default.ensures.reads in
    record {
      steps = record {
        moves = r.moves;
        keeps = r.keeps;
        nearer = piece_nearer g.T.IrText.reading g.A.IrText.reading g.met.T.IrText.sincere.reads g.met.A.IrText.sincere.reads c.args.ctx.now.dialects c.args.name.now c.args.names.now.names c.args.book.now c.args.stream.now c.args.frames.now.items c.args.held c.at_step.result (seen_step c.args.step) c.requires.next (c.at_step.ensures ∙ ap (λ z. record c.args.held { step = z }) c.requires.following) c.requires.flat
            c.piece_parse.new.names.names c.piece_parse.new.book c.piece_parse.new.stream r;
      };
    }

pub returns-in-Err : goal.returns-in-Err
returns-in-Err g c = record {
  steps = stops_by c.in-Err.ensures.reads (λ u. record { same = u.same; stops = piece_stops g.T.IrText.reading g.A.IrText.reading g.met.T.IrText.sincere.reads g.met.A.IrText.sincere.reads c.args.ctx.now.dialects c.args.name.now c.args.names.now.names c.args.book.now c.args.stream.now c.args.frames.now.items c.args.held c.args.held (seen_step c.args.step) c.requires.next c.requires.flat c.piece_parse.new.book c.piece_parse.new.stream u });
}
