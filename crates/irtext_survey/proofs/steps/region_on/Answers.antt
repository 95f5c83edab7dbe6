use Rattle.std.proofs.Common.{◌≡◌, ◌∙◌, true, false, sym, subst}
use Rattle.irtext_grammar.specs.Reached.{begins_block}
use Rattle.irtext_grammar.proofs.Readers.Answered.{moves_more}
use Rattle.irtext_survey.proofs.Stepping.{block_nearer_by, block_stops, region_over, region_unended, stops_by, same_names, moved_whole}
use Rattle.irtext_survey.proofs.steps.region_on.Goals as goal

pub returns-in-Err : goal.returns-in-Err
returns-in-Err g c =
    let none = subst (λ t. begins_block t ≡ false) c.space_parse.ensures.rest (sym c.next_is.ensures ∙ c.if-not-next_is.true) in
    record {
      steps = stops_by c.in-Err.ensures.leaves (λ u. record {
        same = u.same ∙ moved_whole c.args.stream.now c.space_parse.new.stream c.space_parse.ensures.moves;
        stops = region_unended g.T.IrText.reading g.A.IrText.reading g.met.T.IrText.sincere.reads g.met.A.IrText.sincere.reads c.args.ctx.now.dialects c.args.name.now c.args.names.now.names c.args.book.now c.args.stream.now c.args.frames.now.items c.space_parse.new.stream c.space_parse.ensures c.args.region none c.region_end.new.book c.region_end.new.stream u;
      });
    }

pub returns-then-not-next_is : goal.returns-then-not-next_is
returns-then-not-next_is g c =
    let none = subst (λ t. begins_block t ≡ false) c.space_parse.ensures.rest (sym c.next_is.ensures ∙ c.if-not-next_is.true) in
    let e = c.in_default.ensures.leaves in
    record {
      steps = record {
        moves = moves_more c.space_parse.ensures.moves e.moves;
        keeps = same_names c.args.names.now.names;
        nearer = region_over g.T.IrText.reading g.A.IrText.reading g.met.T.IrText.sincere.reads g.met.A.IrText.sincere.reads c.args.ctx.now.dialects c.args.name.now c.args.names.now.names c.args.book.now c.args.stream.now c.args.frames.now.items c.space_parse.new.stream c.space_parse.ensures c.args.region none c.region_end.new.book c.region_end.new.stream c.popped.result c.popped.new.frames.items e c.popped.ensures;
      };
    }

pub returns-in-Err-head_parse : goal.returns-in-Err-head_parse
returns-in-Err-head_parse g c =
    let follows_on = subst (λ t. begins_block t ≡ true) c.space_parse.ensures.rest (sym c.next_is.ensures ∙ c.if-not-next_is.false) in
    record {
      steps = stops_by c.in-Err-head_parse.ensures.reads (λ u. record {
        same = u.same ∙ moved_whole c.args.stream.now c.space_parse.new.stream c.space_parse.ensures.moves;
        stops = block_stops g.T.IrText.reading g.A.IrText.reading g.met.T.IrText.sincere.reads g.met.A.IrText.sincere.reads c.args.ctx.now.dialects c.args.name.now c.args.names.now.names c.args.book.now c.args.stream.now c.args.frames.now.items c.space_parse.new.stream c.space_parse.ensures c.args.region follows_on c.head_parse.new.book c.head_parse.new.stream u;
      });
    }

pub returns : goal.returns
returns g c =
    let follows_on = subst (λ t. begins_block t ≡ true) c.space_parse.ensures.rest (sym c.next_is.ensures ∙ c.if-not-next_is.false) in
    let e = c.in_default-head_parse.ensures.reads in
    record {
      steps = record {
        moves = moves_more c.space_parse.ensures.moves e.moves;
        keeps = e.keeps;
        nearer = block_nearer_by g.T.IrText.reading g.A.IrText.reading g.met.T.IrText.sincere.reads g.met.A.IrText.sincere.reads c.args.ctx.now.dialects c.args.name.now c.args.names.now.names c.args.book.now c.args.stream.now c.args.frames.now.items c.space_parse.new.stream c.space_parse.ensures c.args.region follows_on c.head_parse.new.names.names c.head_parse.new.book c.head_parse.new.stream c.pushed.new.frames.items e c.in-Ok.ensures;
      };
    }
