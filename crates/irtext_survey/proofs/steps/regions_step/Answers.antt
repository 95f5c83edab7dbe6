use Rattle.std.proofs.Common.{◌≡◌, ◌∙◌, true, false, ap, sym, subst}
use Rattle.irtext_grammar.specs.Reached.{begins_region}
use Rattle.irtext_grammar.proofs.Readers.Answered.{moves_more}
use Rattle.irtext_survey.proofs.Stepping.{another_nearer_by, another_stops, regions_over, stops_by, same_names, moved_whole}
use Rattle.irtext_survey.proofs.steps.regions_step.Goals as goal

pub returns-then-not-next_is : goal.returns-then-not-next_is
returns-then-not-next_is g c =
    let none = subst (λ t. begins_region t ≡ false) c.space_parse.ensures.rest (sym c.next_is.ensures ∙ c.if-not-next_is.true) in
    record {
      steps = record {
        moves = c.space_parse.ensures.moves;
        keeps = same_names c.args.names.now.names;
        nearer = regions_over g.T.IrText.reading g.A.IrText.reading g.met.T.IrText.sincere.reads g.met.A.IrText.sincere.reads c.args.ctx.now.dialects c.args.name.now c.args.names.now.names c.args.book.now c.args.stream.now c.args.frames.now.items c.space_parse.new.stream c.space_parse.ensures c.args.held c.at_step.result (c.at_step.ensures ∙ ap (λ z. record c.args.held { step = z }) c.requires.following) c.requires.next none;
      };
    }

pub returns-in-Err : goal.returns-in-Err
returns-in-Err g c =
    let follows_on = subst (λ t. begins_region t ≡ true) c.space_parse.ensures.rest (sym c.next_is.ensures ∙ c.if-not-next_is.false) in
    record {
      steps = stops_by c.in-Err.ensures.enters (λ u. record {
        same = u.same ∙ moved_whole c.args.stream.now c.space_parse.new.stream c.space_parse.ensures.moves;
        stops = λ f fs s at. another_stops g.T.IrText.reading g.A.IrText.reading g.met.T.IrText.sincere.reads g.met.A.IrText.sincere.reads c.args.ctx.now.dialects c.args.name.now c.args.names.now.names c.args.book.now c.args.stream.now c.args.frames.now.items c.space_parse.new.stream c.space_parse.ensures c.args.held c.is_isolated-isolated.result c.is_isolated-isolated.ensures c.requires.next follows_on c.region_begin.new.book c.region_begin.new.stream u f fs s;
      });
    }

pub returns : goal.returns
returns g c =
    let e = c.in-Ok.ensures.enters in
    let follows_on = subst (λ t. begins_region t ≡ true) c.space_parse.ensures.rest (sym c.next_is.ensures ∙ c.if-not-next_is.false) in
    record {
      steps = record {
        moves = moves_more c.space_parse.ensures.moves e.moves;
        keeps = same_names c.args.names.now.names;
        nearer = another_nearer_by g.T.IrText.reading g.A.IrText.reading g.met.T.IrText.sincere.reads g.met.A.IrText.sincere.reads c.args.ctx.now.dialects c.args.name.now c.args.names.now.names c.args.book.now c.args.stream.now c.args.frames.now.items c.space_parse.new.stream c.space_parse.ensures c.args.held c.is_isolated-isolated.result c.is_isolated-isolated.ensures c.requires.next follows_on c.in-Ok.region c.region_begin.new.book c.region_begin.new.stream c.pushed.new.frames.items e c.in-Ok-pushed.ensures;
      };
    }
