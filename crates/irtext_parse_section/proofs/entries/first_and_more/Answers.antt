use Rattle.std.proofs.Common.{sym, subst}
use Rattle.irtext_tokens.specs.AttrTexts.{attr_at}
use Rattle.irtext_parse_section.proofs.OnlyPaths.{only_none}
use Rattle.irtext_parse_section.specs.Entries.{EntriesSoFar, one_noted}
use Rattle.irtext_parse_section.proofs.LoopSteps.{ran_out_so_far}
use Rattle.irtext_parse_section.proofs.entries.first_and_more.Goals as goal

pub returns-in-Ok-clause-read : goal.returns-in-Ok-clause-read
returns-in-Ok-clause-read g c = λ old h. c.more_parse.ensures.read old (subst (λ n. EntriesSoFar (attr_at g.A.IrText.reading) old c.args.s.now n) (sym c.in-Ok.ensures) h)

pub returns-in-Err-clause-only : goal.returns-in-Err-clause-only
returns-in-Err-clause-only g c = only_none c.args.s.now.state

pub returns-in-Err-clause-read : goal.returns-in-Err-clause-read
returns-in-Err-clause-read g c = λ old h. ran_out_so_far (attr_at g.A.IrText.reading) old c.args.s.now (one_noted c.args.first) h c.out_of_memory.ensures
