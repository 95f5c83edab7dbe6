use Rattle.std.proofs.Common.{true}
use Rattle.irtext_grammar.specs.Heads.{setting}
use Rattle.irtext_tokens.specs.AttrTexts.{attr_at}
use Rattle.irtext_parse_pieces.specs.Steps.{seen_step}
use Rattle.irtext_parse_nested.proofs.LaterPieces.{piece_spaced}
use Rattle.irtext_survey.proofs.Reading.{unread, must_miss, piece_names, piece_read}
use Rattle.irtext_survey.proofs.parts.piece_parse.Goals as goal

pub returns-in-Err : goal.returns-in-Err
returns-in-Err g c = record {
  reads = unread c.args.book.now (must_miss c.requires.fine (piece_spaced g.T.IrText.reading (attr_at g.A.IrText.reading) (setting true true) (seen_step c.args.step) c.step_parse.new.names.names c.requires.fine c.skip_white_space.ensures c.in-Err.ensures.read).read);
}

pub piece_noted-requires : goal.piece_noted-requires
piece_noted-requires g c = piece_names g.T.IrText.reading (attr_at g.A.IrText.reading) c.args.name.now (seen_step c.args.step) c.step_parse.new.names.names c.args.stream.now c.step_parse.new.stream c.in-Ok.piece
    (piece_spaced g.T.IrText.reading (attr_at g.A.IrText.reading) (setting true true) (seen_step c.args.step) c.step_parse.new.names.names c.requires.fine c.skip_white_space.ensures c.in-Ok.ensures.read)

pub returns : goal.returns
returns g c = record {
  reads = piece_read g.T.IrText.reading (attr_at g.A.IrText.reading) c.args.name.now (seen_step c.args.step) c.step_parse.new.names.names c.args.stream.now c.step_parse.new.stream c.in-Ok.piece
      (piece_spaced g.T.IrText.reading (attr_at g.A.IrText.reading) (setting true true) (seen_step c.args.step) c.step_parse.new.names.names c.requires.fine c.skip_white_space.ensures c.in-Ok.ensures.read)
      c.args.names.now.names c.args.book.now c.piece_noted.new.book c.in-Ok.ensures.names.kept c.in-Ok-piece_noted.ensures;
}
