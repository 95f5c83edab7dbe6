use Rattle.irtext_tokens.specs.AttrTexts.{attr_at}
use Rattle.irtext_survey.proofs.Reading.{unread, must_miss, head_named, head_read}
use Rattle.irtext_survey.proofs.parts.head_parse.Goals as goal

pub returns-in-Err : goal.returns-in-Err
returns-in-Err g c = record { reads = unread c.args.book.now (must_miss c.requires.fine c.in-Err.ensures.read.read) }

pub head_noted-requires : goal.head_noted-requires
head_noted-requires g c = head_named g.T.IrText.reading (attr_at g.A.IrText.reading) c.args.name.now c.block_head_parse.new.names.names c.args.stream.now c.block_head_parse.new.stream c.in-Ok.head c.in-Ok.ensures.read

pub returns : goal.returns
returns g c = record {
  reads = head_read g.T.IrText.reading (attr_at g.A.IrText.reading) c.args.name.now c.block_head_parse.new.names.names c.args.stream.now c.block_head_parse.new.stream c.in-Ok.head c.in-Ok.ensures.read
      c.args.names.now.names c.args.book.now c.mark_noted.new.book c.head_noted.new.book c.in-Ok.ensures.names.kept c.mark_noted.ensures.notes c.mark_noted.ensures.marked c.in-Ok-head_noted.ensures;
}
