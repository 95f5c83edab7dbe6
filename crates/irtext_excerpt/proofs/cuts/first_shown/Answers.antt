use Rattle.std.proofs.Common.{length, ap, arith, length-take}
use Rattle.std.proofs.lemmas.Int.{clamps}
use Rattle.std.specs.Str.{chars}
use Rattle.irtext_excerpt.proofs.cuts.first_shown.Goals as goal

pub fitting-requires : goal.fitting-requires
fitting-requires c = omega (arith, clamps, ap length c.split_after.ensures.first_is, length-take 60 (chars c.args.text.now))
