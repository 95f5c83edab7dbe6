use Rattle.std.proofs.Common.{string_bytes}
use Rattle.irtext_syntax.proofs.ListWritten.{first_written}
use Rattle.irtext_syntax.proofs.list.write_joined.Goals as goal

pub returns-in_ok-write_tail-clause-text : goal.returns-in_ok-write_tail-clause-text
returns-in_ok-write_tail-clause-text g c =
    first_written c.args.separator g.P.Part.text.written c.in-Some.first.now c.in-Some.rest.now c.args.items.now (string_bytes c.args.f.now) (string_bytes c.write_text.new.f) (string_bytes c.write_tail.new.f)
    c.in-Some.ensures.cases.0 c.in_ok-write_text.ensures.text c.in_ok-write_tail.ensures.text
