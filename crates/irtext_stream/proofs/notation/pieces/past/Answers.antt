use Rattle.irtext_stream.proofs.NotationSteps.{past_is}
use Rattle.irtext_stream.proofs.notation.pieces.past.Goals as goal

pub returns : goal.returns
returns c = past_is c.args.word.now c.accept.result c.args.stream.now c.accept.new.self c.utf8.word c.accept.ensures
