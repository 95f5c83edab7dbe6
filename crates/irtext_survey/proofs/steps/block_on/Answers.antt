use Rattle.std.proofs.Common.{◌∙◌, sym}
use Rattle.irtext_grammar.proofs.Readers.Answered.{moves_more}
use Rattle.irtext_survey.proofs.Stepping.{block_over, operation_nearer_by, operation_stops, stops_by, same_names, moved_whole}
use Rattle.irtext_survey.proofs.steps.block_on.Goals as goal

pub returns-then-not-skip_to_operation : goal.returns-then-not-skip_to_operation
returns-then-not-skip_to_operation g c =
    let passes = c.skip_to_operation.ensures.passes in
    record {
      steps = record {
        moves = passes.moves;
        keeps = same_names c.args.names.now.names;
        nearer = block_over g.T.IrText.reading g.A.IrText.reading g.met.T.IrText.sincere.reads g.met.A.IrText.sincere.reads c.args.ctx.now.dialects c.args.name.now c.args.names.now.names c.args.book.now c.args.stream.now c.args.frames.now.items c.args.first c.skip_to_operation.new.stream passes (sym c.skip_to_operation.ensures.follows_on ∙ c.if-not-skip_to_operation.true) c.popped.result c.popped.new.frames.items c.popped.ensures;
      };
    }

pub returns-in-Err : goal.returns-in-Err
returns-in-Err g c =
    let passes = c.skip_to_operation.ensures.passes in
    record {
      steps = stops_by c.in-Err.ensures.begins (λ u. record {
        same = u.same ∙ moved_whole c.args.stream.now c.skip_to_operation.new.stream passes.moves;
        stops = operation_stops g.T.IrText.reading g.A.IrText.reading g.met.T.IrText.sincere.reads g.met.A.IrText.sincere.reads c.args.ctx.now.dialects c.args.name.now c.args.names.now.names c.args.book.now c.args.stream.now c.args.frames.now.items c.args.first c.skip_to_operation.new.stream passes (sym c.skip_to_operation.ensures.follows_on ∙ c.if-not-skip_to_operation.false) c.operation_begin.new.book c.operation_begin.new.stream u;
      });
    }

pub returns : goal.returns
returns g c =
    let passes = c.skip_to_operation.ensures.passes in
    let e = c.in-Ok.ensures.begins in
    record {
      steps = record {
        moves = moves_more passes.moves e.moves;
        keeps = e.keeps;
        nearer = operation_nearer_by g.T.IrText.reading g.A.IrText.reading g.met.T.IrText.sincere.reads g.met.A.IrText.sincere.reads c.args.ctx.now.dialects c.args.name.now c.args.names.now.names c.args.book.now c.args.stream.now c.args.frames.now.items c.args.first c.skip_to_operation.new.stream passes (sym c.skip_to_operation.ensures.follows_on ∙ c.if-not-skip_to_operation.false) c.operation_begin.new.names.names c.operation_begin.new.book c.operation_begin.new.stream c.in-Ok.held c.pushed.new.frames.items e c.in-Ok-pushed.ensures;
      };
    }
