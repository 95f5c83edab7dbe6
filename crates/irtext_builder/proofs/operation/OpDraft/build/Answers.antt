use Rattle.std.proofs.lemmas.Result.{IfOk-weaker}
use Rattle.irtext_builder.proofs.Fresh.{live_draft}
use Rattle.irtext_builder.proofs.operation.OpDraft.build.Goals as goal

pub returns-clause-live : goal.returns-clause-live
returns-clause-live g c = IfOk-weaker c.make_registered.result _ _ (λ op m. live_draft op m) c.make_registered.ensures.made
