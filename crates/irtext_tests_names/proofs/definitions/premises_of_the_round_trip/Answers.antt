use Rattle.std.specs.Prelude.{refl}
use Rattle.std.proofs.Common.{arith}
use Rattle.irtext_tests_names.specs.Graphs.{makes_one, uses_one}
use Rattle.irtext_tests_names.proofs.Premises.{fit, keeps, small, wordy}
use Rattle.irtext_tests_names.proofs.definitions.premises_of_the_round_trip.Goals as goal

pub returns : goal.returns
returns c = (
  wordy uses_one makes_one (record { dialect = refl; name = refl; attributes = tt }) (record { dialect = refl; name = refl; attributes = tt }) (omega arith),
  fit uses_one makes_one (refl, record { operands = refl; successors = refl; results = refl; regions = refl; keys_there = refl; symbol = refl; others_outlined = refl })
      (refl, record { operands = refl; successors = refl; results = refl; regions = refl; keys_there = refl; symbol = refl; others_outlined = refl }),
  small uses_one makes_one (record { results = tt; operands = (omega arith, tt); successors = tt }) (record { results = (omega arith, tt); operands = tt; successors = tt }),
  keeps uses_one makes_one refl refl,
  refl,
)
