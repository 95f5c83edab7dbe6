use Rattle.std.proofs.Common.{string_bytes}
use Rattle.irtext_syntax.proofs.Written.{ascii_piece, pieces}
use Rattle.irtext_syntax.proofs.sequence.write_within.Goals as goal

pub returns-clause-text : goal.returns-clause-text
returns-clause-text g c =
    pieces (string_bytes c.args.f.now) g.B.Brackets.opener_printed (g.P.Part.text.written c.args.inside.now) g.B.Brackets.closer_printed (string_bytes c.push_str.new.text) (string_bytes c.write_text.new.f) (string_bytes c.push_str-2.new.text)
    (ascii_piece (string_bytes c.args.f.now) g.B.Brackets.opener_printed c.printed_opening.result.now (string_bytes c.push_str.new.text) g.met.B.Brackets.law.ascii_open c.printed_opening.ensures c.in_ok-push_str.ensures.bytes)
    c.in_ok-write_text.ensures.text
    (ascii_piece (string_bytes c.write_text.new.f) g.B.Brackets.closer_printed c.printed_closing.result.now (string_bytes c.push_str-2.new.text) g.met.B.Brackets.law.ascii_close c.printed_closing.ensures c.in_ok-push_str-2.ensures.bytes)
