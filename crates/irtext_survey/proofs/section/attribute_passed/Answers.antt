use Rattle.std.proofs.Common.{[]}
use Rattle.irtext_grammar.specs.Grammar.Tree.{ident}
use Rattle.irtext_survey.proofs.Passing.{must_pass, must_stop}
use Rattle.irtext_survey.proofs.section.attribute_passed.Goals as goal

pub returns-in-Ok : goal.returns-in-Ok
returns-in-Ok g c = must_pass c.in-Ok.ensures

pub returns-in-Err : goal.returns-in-Err
returns-in-Err g c = must_stop (ident []) c.in-Err.ensures
