use Rattle.std.proofs.Common.{[], sym, ◌∙◌}
use Rattle.irtext_parse_pieces.proofs.Meanings.{must_fail, names_none}
use Rattle.irtext_parse_pieces.proofs.Lenses.{lens_of}
use Rattle.irtext_parse_pieces.proofs.fronts.front_parse.Goals as goal

pub returns-then-has_failed-clause-read : goal.returns-then-has_failed-clause-read
returns-then-has_failed-clause-read g c = must_fail (lens_of g.world g.met.S.CharStream) [] (sym c.has_failed.ensures ∙ c.if-has_failed.true) c.refuse.ensures

pub returns-in-Err-clause-read : goal.returns-in-Err-clause-read
returns-in-Err-clause-read g c =
    let h = rw c.deref.ensures.value at (c.in-Err.ensures.read (sym c.has_failed.ensures ∙ c.if-has_failed.false)) in
    rw c.in-Custom.is h

pub returns-in-Ok-clause-read : goal.returns-in-Ok-clause-read
returns-in-Ok-clause-read g c =
    rw (c.in-Custom.is, c.custom.ensures) (rw c.deref.ensures.value at (c.in-Ok.ensures.read (sym c.has_failed.ensures ∙ c.if-has_failed.false)))

pub returns-in-Ok-clause-count : goal.returns-in-Ok-clause-count
returns-in-Ok-clause-count g c = rw (c.in-Custom.is, c.custom.ensures) (rw c.deref.ensures.value at c.in-Ok.ensures.count)

pub returns-then-has_failed-clause-names : goal.returns-then-has_failed-clause-names
returns-then-has_failed-clause-names g c = names_none c.args.names.now

pub returns-in-Err-clause-names : goal.returns-in-Err-clause-names
returns-in-Err-clause-names g c = c.in-Err.ensures.names

pub returns-in-Ok-clause-names : goal.returns-in-Ok-clause-names
returns-in-Ok-clause-names g c = c.in-Ok.ensures.names
