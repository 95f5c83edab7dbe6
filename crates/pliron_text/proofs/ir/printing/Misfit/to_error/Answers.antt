use Rattle.std.proofs.Common.{inr, refl}
use Rattle.pliron_text.proofs.ir.printing.Misfit.to_error.Goals as goal

pub returns-in-Ok-try_clone : goal.returns-in-Ok-try_clone
returns-in-Ok-try_clone g c = inr (record { kind = refl; message = record { 0 = c.in-Ok.message }; cause = refl; says = c.in-Ok.ensures.ok; location = c.in-Ok-try_clone.ensures.ok })
