use Rattle.std.proofs.Common.{sym}
use Rattle.irtext_excerpt.proofs.Excerpts.{broken, unbroken}
use Rattle.irtext_excerpt.proofs.lines.first_line.Goals as goal

pub returns-in-Some : goal.returns-in-Some
returns-in-Some c =
    let k = c.in-Some.ensures.cases in
    let b = broken c.args.text.now c.in-Some.line.now c.in-Some.field-0-1.now k.0 k.1 c.utf8.text k.2 k.3 k.4 in
    sym b.line

pub returns-in-None : goal.returns-in-None
returns-in-None c = let last = unbroken c.args.text.now c.utf8.text c.in-None.ensures.cases in sym last.0
