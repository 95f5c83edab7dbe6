use Rattle.std.specs.Str.{chars}
use Rattle.irtext_parse_locations.proofs.Plain.{digits_looks}
use Rattle.irtext_parse_locations.proofs.location.plain.digits_after.Goals as goal

pub returns : goal.returns
returns c = digits_looks (chars c.args.before.now) c.args.stream.now c.accept.new.self c.digits_there.new.stream c.digits_there.result c.if-not-accept.ensures c.digits_there.ensures
