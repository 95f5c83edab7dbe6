use Rattle.irtext_stream.proofs.NotationPrinted.{twice_bytes, once_bytes}
use Rattle.irtext_stream.proofs.notation.print.fmt_letter.Goals as goal

pub returns-then-c-eq96 : goal.returns-then-c-eq96
returns-then-c-eq96 g c = rw (twice_bytes c.args.c c.if-c-eq96.true) c.write_str.ensures.writes

pub returns : goal.returns
returns g c = rw (once_bytes c.args.c c.if-c-eq96.false) c.write_char.ensures.writes
