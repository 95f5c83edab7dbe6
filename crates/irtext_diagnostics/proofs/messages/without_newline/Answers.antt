use Rattle.std.proofs.Common.{lit<}
use Rattle.std.proofs.lemmas.Str.Pattern.{strip_suffix_char}
use Rattle.irtext_diagnostics.proofs.Newlines.{newline_found, newline_missed}
use Rattle.irtext_diagnostics.proofs.messages.without_newline.Goals as goal

pub returns-in-Some : goal.returns-in-Some
returns-in-Some c = newline_found c.args.message.now c.in-Some.text.now (rw c.in-Some.is at (strip_suffix_char 10 c.args.message.now c.strip_suffix.result c.strip_suffix.ensures.cases (lit< tt)))

pub returns-in-None : goal.returns-in-None
returns-in-None c = newline_missed c.args.message.now (rw c.in-None.is at (strip_suffix_char 10 c.args.message.now c.strip_suffix.result c.strip_suffix.ensures.cases (lit< tt)))
