use Rattle.irtext_syntax.proofs.MaybeRead.{maybe_read}
use Rattle.irtext_syntax.proofs.maybe.OptionPart.read.Goals as goal

pub returns-in-Err : goal.returns-in-Err
returns-in-Err g c = maybe_read c.args.stream.now c.read.new.stream g.P.Part.text.reading c.in-Err.fault c.unless_committed.result c.unless_committed.ensures c.in-Err.ensures
