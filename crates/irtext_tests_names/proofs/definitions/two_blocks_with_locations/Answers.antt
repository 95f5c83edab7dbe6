use Rattle.std.specs.Prelude.{refl}
use Rattle.std.specs.Fmt.{digits}
use Rattle.irtext_tests_names.proofs.definitions.two_blocks_with_locations.Goals as goal

pub returns : goal.returns
unfolding digits
returns c = record { whole = refl; no_region = refl }
