use Rattle.std.proofs.Common.{sym, ap, ◌∙◌}
use Rattle.irtext_scopes.specs.Scopes.{innermost, outer, first_pending}
use Rattle.irtext_scopes.specs.Bindings.{scopes_at}
use Rattle.irtext_scopes.proofs.Chains.{ended_scopes, last_within, ended_sound}
use Rattle.irtext_scopes.proofs.scopes.Scopes.leave.Goals as goal

pub cut-requires-clause-within : goal.cut-requires-clause-within
cut-requires-clause-within g c =
    let t = c.self.inside in last_within t.heads.items t.marks c.pop.new.self c.in-Some.mark t.bindings.items c.self.invariant c.in-Some.ensures.marks

pub invariant_of-self : goal.invariant_of-self
invariant_of-self g c =
    let t = c.self.inside in
    ended_sound t.heads.items c.cut.new.heads.items t.marks c.pop.new.self c.in-Some.mark t.bindings.items c.cut.new.bindings.items c.self.invariant c.in-Some.ensures.marks c.cut.ensures.left c.cut.ensures.chained

pub returns-in-Some-clause-first : goal.returns-in-Some-clause-first
returns-in-Some-clause-first g c =
    let t = c.self.inside in
    c.cut.ensures.first
    ∙ ap (λ ss. first_pending (innermost ss)) (sym (ended_scopes t.marks c.pop.new.self c.in-Some.mark t.bindings.items c.in-Some.ensures.marks) ∙ c.self.view_is)

pub returns-in-Some-clause-left : goal.returns-in-Some-clause-left
returns-in-Some-clause-left g c =
    let t = c.self.inside in
    ap (scopes_at c.pop.new.self) c.cut.ensures.left
    ∙ ap outer (sym (ended_scopes t.marks c.pop.new.self c.in-Some.mark t.bindings.items c.in-Some.ensures.marks) ∙ c.self.view_is)
