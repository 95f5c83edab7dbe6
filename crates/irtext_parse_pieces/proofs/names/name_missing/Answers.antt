use Rattle.std.proofs.Common.{sym, ◌∙◌}
use Rattle.irtext_parse_pieces.proofs.Meanings.{may_fail}
use Rattle.irtext_parse_pieces.proofs.NameSteps.{nobody, no_name}
use Rattle.irtext_parse_pieces.proofs.Lenses.{lens_of}
use Rattle.irtext_parse_pieces.proofs.names.name_missing.Goals as goal

pub returns-then-has_failed : goal.returns-then-has_failed
returns-then-has_failed g c = λ names. may_fail (lens_of g.world g.met.S.CharStream) nobody (sym c.has_failed.ensures ∙ c.if-has_failed.true) c.refuse.ensures

pub returns : goal.returns
returns g c = λ names. let f = sym c.has_failed.ensures ∙ c.if-has_failed.false in no_name (lens_of g.world g.met.S.CharStream) f (c.requires f) c.unexpected.ensures
