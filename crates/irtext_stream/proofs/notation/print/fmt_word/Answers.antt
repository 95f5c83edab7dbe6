use Rattle.irtext_stream.proofs.NotationPrinted.{word_bytes}
use Rattle.irtext_stream.proofs.notation.print.fmt_word.Goals as goal

pub returns : goal.returns
returns g c = rw (word_bytes c.args.word.now c.utf8.word) c.write_str.ensures.writes
