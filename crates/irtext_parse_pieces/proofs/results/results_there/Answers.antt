use Rattle.std.proofs.Common.{sym, ◌∙◌}
use Rattle.irtext_parse_pieces.proofs.Looks.{none_there, no_equals, equals_taken}
use Rattle.irtext_parse_pieces.proofs.Lenses.{lens_of}
use Rattle.irtext_parse_pieces.proofs.results.results_there.Goals as goal

pub returns-in-Err-clause-looks : goal.returns-in-Err-clause-looks
returns-in-Err-clause-looks g c = λ fine. (c.in-Err.ensures.looks fine)

pub returns-in-Err-clause-names : goal.returns-in-Err-clause-names
returns-in-Err-clause-names g c = c.in-Err.ensures.names

pub returns-in_default-clause-looks : goal.returns-in_default-clause-looks
returns-in_default-clause-looks g c = λ fine. none_there (lens_of g.world g.met.S.CharStream) ((rw c.in_default.is at c.in-Ok.ensures.looks) fine)

pub returns-in_default-clause-names : goal.returns-in_default-clause-names
returns-in_default-clause-names g c = c.in-Ok.ensures.names

pub returns-then-not-next_is-clause-looks : goal.returns-then-not-next_is-clause-looks
returns-then-not-next_is-clause-looks g c = λ fine. no_equals (lens_of g.world g.met.S.CharStream) ((rw c.in-Some.is at c.in-Ok.ensures.looks) fine) (sym c.next_is.ensures ∙ c.if-not-next_is.true)

pub returns-then-not-next_is-clause-names : goal.returns-then-not-next_is-clause-names
returns-then-not-next_is-clause-names g c = c.in-Ok.ensures.names

pub returns-clause-looks : goal.returns-clause-looks
returns-clause-looks g c = λ fine. equals_taken (lens_of g.world g.met.S.CharStream) ((rw c.in-Some.is at c.in-Ok.ensures.looks) fine) (sym c.next_is.ensures ∙ c.if-not-next_is.false) c.take.ensures.after

pub returns-clause-names : goal.returns-clause-names
returns-clause-names g c = c.in-Ok.ensures.names
