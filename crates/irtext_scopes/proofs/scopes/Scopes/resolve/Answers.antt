use Rattle.std.proofs.Common.{◌≡◌, Some, None, sym, ap, ◌∙◌}
use Rattle.irtext_scopes.specs.Scopes.{find, innermost, in_innermost, resolved}
use Rattle.irtext_scopes.specs.Bindings.{place_in, scopes_at}
use Rattle.irtext_interner.proofs.Lists.{get_within}
use Rattle.irtext_scopes.proofs.Maps.{in_innermost_unknown}
use Rattle.irtext_scopes.proofs.Chains.{place_resolves, resolved_scopes, resolved_sound}
use Rattle.irtext_scopes.proofs.scopes.Scopes.resolve.Goals as goal

pub returns-in_default : goal.returns-in_default
returns-in_default g c =
    let t = c.self.inside in
    let q : None ≡ place_in t.heads.items t.marks c.args.name = c.in_default.ensures ∙ ap (λ h. place_in h t.marks c.args.name) c.deref.ensures.value in
    let resolves_to : find c.args.name (innermost (scopes_at t.marks t.bindings.items)) ≡ None = place_resolves t.heads.items t.marks t.bindings.items c.args.name None c.self.invariant q in
    in_innermost_unknown c.args.name c.args.value c.args.self.now (sym resolves_to ∙ ap (λ s. find c.args.name (innermost s)) c.self.view_is)

pub rebind-requires : goal.rebind-requires
rebind-requires g c =
    let t = c.self.inside in
    let q : Some c.in-Some.place ≡ place_in t.heads.items t.marks c.args.name = c.in-Some.ensures ∙ ap (λ h. place_in h t.marks c.args.name) c.deref.ensures.value in
    let f = place_resolves t.heads.items t.marks t.bindings.items c.args.name (Some c.in-Some.place) c.self.invariant q in
    get_within t.bindings.items c.in-Some.place f.binding f.there

pub invariant_of-self : goal.invariant_of-self
invariant_of-self g c =
    let t = c.self.inside in
    let q : Some c.in-Some.place ≡ place_in t.heads.items t.marks c.args.name = c.in-Some.ensures ∙ ap (λ h. place_in h t.marks c.args.name) c.deref.ensures.value in
    let f = place_resolves t.heads.items t.marks t.bindings.items c.args.name (Some c.in-Some.place) c.self.invariant q in
    resolved_sound t.heads.items t.marks t.bindings.items c.rebind.new.bindings.items c.args.name c.in-Some.place c.args.value c.self.invariant f
    (c.rebind.ensures f.binding f.there)

pub returns : goal.returns
returns g c =
    let t = c.self.inside in
    let q : Some c.in-Some.place ≡ place_in t.heads.items t.marks c.args.name = c.in-Some.ensures ∙ ap (λ h. place_in h t.marks c.args.name) c.deref.ensures.value in
    let f = place_resolves t.heads.items t.marks t.bindings.items c.args.name (Some c.in-Some.place) c.self.invariant q in
    ap (scopes_at t.marks) (c.rebind.ensures f.binding f.there)
    ∙ (resolved_scopes t.heads.items t.marks t.bindings.items c.args.name c.in-Some.place c.args.value c.self.invariant f
    ∙ ap (in_innermost (resolved c.args.name c.args.value)) c.self.view_is)
