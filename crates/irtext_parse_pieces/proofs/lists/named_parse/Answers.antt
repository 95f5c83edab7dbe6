use Rattle.irtext_parse_pieces.proofs.Lenses.{lens_of}
use Rattle.irtext_parse_pieces.proofs.Meanings.{insisted_mean, names_none}
use Rattle.irtext_parse_pieces.proofs.NameSteps.{target_after, target_refused}
use Rattle.irtext_parse_pieces.proofs.lists.named_parse.Goals as goal

pub returns-in-Value-clause-read : goal.returns-in-Value-clause-read
returns-in-Value-clause-read g c = rw c.in-Value.is c.used_parse.ensures.read

pub returns-in-Err-clause-read : goal.returns-in-Err-clause-read
returns-in-Err-clause-read g c =
    rw c.in-Block.is
    (target_refused (lens_of g.world g.met.S.CharStream) c.args.inside c.in-Err.ensures.answers)

pub returns-in_default-clause-read : goal.returns-in_default-clause-read
returns-in_default-clause-read g c =
    let l = lens_of g.world g.met.S.CharStream in
    rw c.in-Block.is
    (target_after l c.args.inside c.used_parse-answer.new.names.names c.in_default.ensures.answers
    (insisted_mean l c.used_parse-answer.result c.committed.result c.used_parse-answer.ensures.read c.committed.ensures))

pub returns-in-Value-clause-names : goal.returns-in-Value-clause-names
returns-in-Value-clause-names g c = c.used_parse.ensures.names

pub returns-in-Err-clause-names : goal.returns-in-Err-clause-names
returns-in-Err-clause-names g c = names_none c.args.names.now

pub returns-in_default-clause-names : goal.returns-in_default-clause-names
returns-in_default-clause-names g c = c.used_parse-answer.ensures.names
