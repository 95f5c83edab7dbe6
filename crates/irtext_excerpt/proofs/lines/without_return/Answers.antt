use Rattle.std.proofs.Common.{lit<}
use Rattle.std.proofs.lemmas.Str.Pattern.{strip_suffix_char}
use Rattle.irtext_excerpt.proofs.Excerpts.{return_found, return_missed}
use Rattle.irtext_excerpt.proofs.lines.without_return.Goals as goal

pub returns-in-Some : goal.returns-in-Some
returns-in-Some c = return_found c.args.line.now c.in-Some.text.now c.utf8.line (rw c.in-Some.is at (strip_suffix_char 13 c.args.line.now c.strip_suffix.result c.strip_suffix.ensures.cases (lit< tt)))

pub returns-in-None : goal.returns-in-None
returns-in-None c = return_missed c.args.line.now c.utf8.line (rw c.in-None.is at (strip_suffix_char 13 c.args.line.now c.strip_suffix.result c.strip_suffix.ensures.cases (lit< tt)))
