use Rattle.irtext_survey.proofs.Reading.{mark_spaced, end_read, end_unread, must_miss}
use Rattle.irtext_survey.proofs.parts.end_parse.Goals as goal

pub returns-in-Ok-mark_parse : goal.returns-in-Ok-mark_parse
returns-in-Ok-mark_parse g c = record {
  ends = end_read c.args.name.now c.args.names.now.names c.args.results.now c.args.stream.now c.mark_parse.new.stream c.args.book.now c.names_noted.new.book c.mark_noted.new.book c.in-Ok.ensures {A = g.row.A.Denot} c.in-Ok-mark_parse.mark
      (mark_spaced c.requires.fine c.skip_white_space.ensures c.in-Ok-mark_parse.ensures) c.mark_noted.ensures.notes c.mark_noted.ensures.marked;
}

pub returns-in-Err : goal.returns-in-Err
returns-in-Err g c = record {
  ends = end_unread c.args.name.now c.args.names.now.names c.args.results.now c.args.stream.now c.mark_parse.new.stream c.args.book.now c.names_noted.new.book c.names_noted.new.book c.in-Ok.ensures {A = g.row.A.Denot}
      (must_miss c.requires.fine (mark_spaced c.requires.fine c.skip_white_space.ensures c.in-Err.ensures).read);
}
