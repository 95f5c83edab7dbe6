use Rattle.std.proofs.Common.{string_bytes}
use Rattle.irtext_syntax.proofs.Written.{ascii_piece, pieces}
use Rattle.irtext_syntax.proofs.sequence.write_then.Goals as goal

pub returns-clause-text : goal.returns-clause-text
returns-clause-text g c =
    pieces (string_bytes c.args.f.now) (g.P.Part.text.written c.args.first.now) g.W.Between.printed (g.Q.Part.text.written c.args.second.now) (string_bytes c.write_text.new.f) (string_bytes c.push_str.new.text) (string_bytes c.write_text-2.new.f)
    c.in_ok-write_text.ensures.text (ascii_piece (string_bytes c.write_text.new.f) g.W.Between.printed c.printed.result.now (string_bytes c.push_str.new.text) g.met.W.Between.law.ascii c.printed.ensures c.in_ok-push_str.ensures.bytes) c.in_ok-write_text-2.ensures.text
