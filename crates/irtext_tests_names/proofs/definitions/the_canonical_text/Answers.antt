use Rattle.std.specs.Prelude.{refl}
use Rattle.std.specs.Fmt.{digits}
use Rattle.irtext_tests_names.proofs.definitions.the_canonical_text.Goals as goal

pub returns : goal.returns
unfolding digits
returns c = refl
