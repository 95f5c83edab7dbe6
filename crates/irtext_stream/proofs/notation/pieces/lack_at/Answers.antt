use Rattle.std.proofs.Common.{refl}
use Rattle.irtext_stream.proofs.notation.pieces.lack_at.Goals as goal

pub returns : goal.returns
returns c = λ passed rest same at. (refl, record { passed = passed; same = same; place = c.locate.ensures passed rest same at })
