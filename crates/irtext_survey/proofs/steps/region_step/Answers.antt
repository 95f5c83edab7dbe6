use Rattle.std.proofs.Common.{◌∙◌, ◌+◌, ap, refl}
use Rattle.irtext_grammar.proofs.Readers.Answered.{moves_more}
use Rattle.irtext_survey.proofs.Stepping.{region_nearer_by, region_stops, stops_by, same_names, moved_whole}
use Rattle.irtext_survey.proofs.steps.region_step.Goals as goal

pub returns-in-Err : goal.returns-in-Err
returns-in-Err g c = record {
  steps = stops_by c.in-Err.ensures.enters (λ u. record {
    same = u.same ∙ moved_whole c.args.stream.now c.space_parse.new.stream c.space_parse.ensures.moves;
    stops = region_stops g.T.IrText.reading g.A.IrText.reading g.met.T.IrText.sincere.reads g.met.A.IrText.sincere.reads c.args.ctx.now.dialects c.args.name.now c.args.names.now.names c.args.book.now c.args.stream.now c.args.frames.now.items c.space_parse.new.stream c.space_parse.ensures c.args.held c.is_isolated-isolated.result c.is_isolated-isolated.ensures (record c.args.held { step = c.args.held.step + 1 }) refl c.requires.next c.region_begin.new.book c.region_begin.new.stream u;
  });
}

pub returns : goal.returns
returns g c =
    let e = c.in-Ok.ensures.enters in
    record {
      steps = record {
        moves = moves_more c.space_parse.ensures.moves e.moves;
        keeps = same_names c.args.names.now.names;
        nearer = region_nearer_by g.T.IrText.reading g.A.IrText.reading g.met.T.IrText.sincere.reads g.met.A.IrText.sincere.reads c.args.ctx.now.dialects c.args.name.now c.args.names.now.names c.args.book.now c.args.stream.now c.args.frames.now.items c.space_parse.new.stream c.space_parse.ensures c.args.held c.is_isolated-isolated.result c.is_isolated-isolated.ensures c.at_step.result (c.at_step.ensures ∙ ap (λ z. record c.args.held { step = z }) c.requires.following) c.requires.next
            c.in-Ok.region c.args.names.now.names c.region_begin.new.book c.region_begin.new.stream c.pushed.new.frames.items refl e c.in-Ok-pushed.ensures;
      };
    }
