use Rattle.std.proofs.Common.{arith}
use Rattle.irtext_context.proofs.Kept.{kept_closed}
use Rattle.irtext_tests_low.proofs.tests.contexts.passes.Goals as goal

pub roll_back-requires : goal.roll_back-requires
roll_back-requires g c = record { closed = kept_closed c.made-made.ensures.closed (c.make-op.ensures.kept c.made-made.result (omega (arith, c.made-made.ensures.made))) }
