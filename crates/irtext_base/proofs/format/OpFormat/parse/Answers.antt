use Rattle.std.specs.Str.{chars}
use Rattle.irtext_base.proofs.NotationBack.{parsed}
use Rattle.irtext_base.proofs.format.OpFormat.parse.Goals as goal

pub returns : goal.returns
returns c = parsed (chars c.args.text.now) c.in_ok-stream.stream c.format.new.stream c.format.result c.in_ok-stream.ensures c.format.ensures
