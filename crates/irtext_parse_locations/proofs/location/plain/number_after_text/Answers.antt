use Rattle.std.specs.Str.{chars}
use Rattle.irtext_parse_locations.proofs.Plain.{number_looks}
use Rattle.irtext_parse_locations.proofs.location.plain.number_after_text.Goals as goal

pub returns : goal.returns
returns c = number_looks (chars c.args.before.now) c.args.stream.now c.digits_after.new.stream c.in_ok-magnitude.magnitude c.from_magnitude.result c.in_ok-magnitude.ensures c.from_magnitude.ensures
