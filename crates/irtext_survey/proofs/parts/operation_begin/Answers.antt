use Rattle.std.proofs.Common.{refl}
use Rattle.irtext_survey.proofs.Reading.{may_miss, no_lead, no_front, front_names, begun_here}
use Rattle.irtext_survey.proofs.parts.operation_begin.Goals as goal

pub returns-in-Err : goal.returns-in-Err
returns-in-Err g c = record { begins = no_lead g.T.IrText.reading g.A.IrText.reading c.args.ctx.now.dialects c.args.name.now c.args.stream.now c.requires.fine c.args.book.now (may_miss c.requires.fine c.in-Err.ensures.read.read) }

pub returns-in-Err-front_parse : goal.returns-in-Err-front_parse
returns-in-Err-front_parse g c = record {
  begins = no_front g.T.IrText.reading g.A.IrText.reading c.args.ctx.now.dialects c.args.name.now c.args.stream.now c.requires.fine c.in-Ok.led c.in-Ok.led.2.now c.in-Ok.ensures.read c.in-Ok.ensures.known c.front_parse.new.names.names c.args.book.now c.in-Err-front_parse.ensures.read;
}

pub pieces_noted-requires : goal.pieces_noted-requires
pieces_noted-requires g c = front_names g.T.IrText.reading g.A.IrText.reading c.args.ctx.now.dialects c.args.name.now c.args.stream.now c.requires.fine c.in-Ok.led c.in-Ok.led.2.now c.in-Ok.ensures.read c.in-Ok.ensures.known c.front_parse.new.names.names
    c.front_parse.ensures.names.kept c.in-Ok-front_parse.pieces c.front_parse.new.stream c.in-Ok-front_parse.ensures.read c.in-Ok-front_parse.ensures.count

pub returns : goal.returns
returns g c = record {
  begins = begun_here g.T.IrText.reading g.A.IrText.reading c.args.ctx.now.dialects c.args.name.now c.args.stream.now c.requires.fine c.in-Ok.led c.in-Ok.led.2.now c.in-Ok.ensures.read c.in-Ok.ensures.known c.front_parse.new.names.names
      c.front_parse.ensures.names.kept c.in-Ok-front_parse.pieces c.front_parse.new.stream c.in-Ok-front_parse.ensures.read c.in-Ok-front_parse.ensures.count
      c.args.names.now.names c.args.book.now c.pieces_noted.new.book _ refl refl c.len-step.ensures (λ i t e. c.front_parse.ensures.names.kept i t (c.results_and_id_parse.ensures.names.kept i t e)) c.in-Ok-pieces_noted.ensures;
}
