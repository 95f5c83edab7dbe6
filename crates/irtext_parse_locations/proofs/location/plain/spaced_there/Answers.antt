use Rattle.std.proofs.Common.{sym, ◌∙◌}
use Rattle.irtext_parse_locations.proofs.location.plain.spaced_there.Goals as goal

pub returns : goal.returns
returns c = record { fine = sym c.has_failed.ensures ∙ c.if-has_failed.false; mid = c.accept.new.self; comes = c.if-not-accept.ensures; space = c.skip_white_space.ensures }
