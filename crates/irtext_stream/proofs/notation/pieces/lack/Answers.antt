use Rattle.std.proofs.Common.{refl}
use Rattle.irtext_stream.proofs.notation.pieces.lack.Goals as goal

pub returns : goal.returns
returns c = let v = c.args.stream.now in c.lack_at.ensures v.passed v.rest refl c.position.ensures
