use Rattle.std.specs.Prelude.{refl}
use Rattle.std.specs.Fmt.{digits}
use Rattle.irtext_tests_names.proofs.labels.a_label_of_an_entry.Goals as goal

pub returns-clause-is_printed : goal.returns-clause-is_printed
unfolding digits
returns-clause-is_printed c = refl
