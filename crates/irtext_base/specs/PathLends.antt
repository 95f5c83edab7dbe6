-- What a holder of paths is after its paths were passed out as a `&mut`.
use Rattle.std.specs.Prelude.{ℕ, List}
use Rattle.std.specs.Borrow.{Lends, Fml, RattleType, MutBor}
use Rattle.irtext_base.specs.contracts.location.paths.Paths as paths

-- when the reference ends, the holder has the reference's last value as its paths
abbrev pub LendsPaths : (C : RattleType) → (C.Denot → List (List ℕ) → C.Denot) → MutBor C.Denot → MutBor (List (List ℕ)) → Fml
LendsPaths C with_paths c r = Lends C paths.the_row c r (with_paths c.now)
