use Rattle.irtext_parse_pieces.proofs.Meanings.{may_miss, names_none}
use Rattle.irtext_parse_pieces.proofs.NameSteps.{nobody}
use Rattle.irtext_parse_pieces.proofs.Lenses.{lens_of}
use Rattle.irtext_parse_pieces.proofs.names.used_parse.Goals as goal

pub returns-clause-read : goal.returns-clause-read
returns-clause-read g c = rw c.if-inside.false (may_miss (lens_of g.world g.met.S.CharStream) nobody c.used_outside.ensures)

pub returns-then-inside-clause-names : goal.returns-then-inside-clause-names
returns-then-inside-clause-names g c = c.name_parse.ensures.names

pub returns-clause-names : goal.returns-clause-names
returns-clause-names g c = names_none c.args.names.now
