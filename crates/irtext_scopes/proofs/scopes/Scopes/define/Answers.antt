use Rattle.std.proofs.Common.{◌∙◌}
use Rattle.irtext_scopes.proofs.Maps.{defines_new, defines_known}
use Rattle.irtext_scopes.proofs.scopes.Scopes.define.Goals as goal

pub returns-in-Some-Pending-clause-ok : goal.returns-in-Some-Pending-clause-ok
returns-in-Some-Pending-clause-ok g c = c.resolve.ensures ∙ defines_known c.args.name c.args.value _ c.args.self.now c.in-Some-Pending.ensures

pub returns-in-Ok-clause-ok : goal.returns-in-Ok-clause-ok
returns-in-Ok-clause-ok g c = c.in-Ok.ensures.ok ∙ defines_new c.args.name c.args.value c.args.self.now c.in-None.ensures
