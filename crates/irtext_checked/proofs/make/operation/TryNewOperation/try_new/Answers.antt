use Rattle.std.proofs.lemmas.Result.{IfOk-weaker}
use Rattle.irtext_checked.proofs.MadeLive.{live_made}
use Rattle.irtext_checked.proofs.make.operation.TryNewOperation.try_new.Goals as goal

pub returns-clause-live : goal.returns-clause-live
returns-clause-live g c = IfOk-weaker c.new.result _ _ (λ op m. live_made m) c.new.ensures.made
