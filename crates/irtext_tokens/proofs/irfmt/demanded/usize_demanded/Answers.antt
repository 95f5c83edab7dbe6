use Rattle.irtext_tokens.proofs.Numbers.{number_must, number_spares}
use Rattle.irtext_tokens.proofs.irfmt.demanded.usize_demanded.Goals as goal

pub returns-clause-read : goal.returns-clause-read
returns-clause-read g c = number_must g.S.CharStream.view g.S.CharStream.at g.met.S.CharStream.view_at g.met.S.CharStream.at_at c.args.stream.now c.int_parse-answer.new.stream c.committed.new.stream c.int_parse-answer.result c.committed.result c.int_parse-answer.ensures.answers c.committed.ensures

pub returns-clause-spares : goal.returns-clause-spares
returns-clause-spares g c = number_spares g.S.CharStream.view g.S.CharStream.at g.met.S.CharStream.view_at g.met.S.CharStream.at_at c.args.stream.now c.int_parse-answer.new.stream c.committed.new.stream c.int_parse-answer.result c.committed.result c.int_parse-answer.ensures.spares c.committed.ensures
