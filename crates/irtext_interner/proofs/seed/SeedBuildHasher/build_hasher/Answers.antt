use Rattle.irtext_interner.specs.Seeded.{start_of}
use Rattle.irtext_interner.proofs.seed.SeedBuildHasher.build_hasher.Goals as goal

pub returns : goal.returns
unfolding start_of
returns c = rw c.folded_multiply.ensures
