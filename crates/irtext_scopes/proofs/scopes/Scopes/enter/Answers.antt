use Rattle.std.proofs.Common.{◌≡◌, ◌++◌, ◌∷◌, [], length, sym, ap, ◌∙◌, subst}
use Rattle.irtext_scopes.specs.Bindings.{scopes_at, IsSound}
use Rattle.irtext_scopes.proofs.Chains.{begun_scopes, begun_sound}
use Rattle.irtext_scopes.proofs.scopes.Scopes.enter.Goals as goal

pub invariant_of-self : goal.invariant_of-self
invariant_of-self g c = let t = c.self.inside in subst (IsSound t.heads.items t.bindings.items) (sym c.in_err-push.ensures.err) c.self.invariant

pub invariant_of-self-2 : goal.invariant_of-self-2
invariant_of-self-2 g c =
    let t = c.self.inside in
    let is : c.push.new.self ≡ t.marks ++ length t.bindings.items ∷ [] = c.in_ok-push.ensures.ok ∙ ap (λ n. t.marks ++ n ∷ []) (c.len.ensures ∙ t.bindings.ok.0) in
    subst (IsSound t.heads.items t.bindings.items) (sym is) (begun_sound t.heads.items t.marks t.bindings.items c.self.invariant)

pub returns-clause-ok : goal.returns-clause-ok
returns-clause-ok g c =
    let t = c.self.inside in
    let is : c.push.new.self ≡ t.marks ++ length t.bindings.items ∷ [] = c.in_ok-push.ensures.ok ∙ ap (λ n. t.marks ++ n ∷ []) (c.len.ensures ∙ t.bindings.ok.0) in
    ap (λ ms. scopes_at ms t.bindings.items) is ∙ (begun_scopes t.marks t.bindings.items ∙ ap (λ ss. [] ∷ ss) c.self.view_is)
