use Rattle.std.proofs.lemmas.Result.{on_ok_weaker}
use Rattle.irtext_builder.proofs.attributes.put_names.Goals as goal

pub returns-clause-ok : goal.returns-clause-ok
returns-clause-ok g c = on_ok_weaker c.put.result (λ e. (c.in_ok-given.given, c.in_ok-given.ensures, e)) c.put.ensures.ok
