use Rattle.std.proofs.Common.{◌≡◌, Some, None, rules, sym, ap, ◌∙◌}
use Rattle.irtext_scopes.specs.Scopes.{find, innermost}
use Rattle.irtext_scopes.specs.Bindings.{place_in}
use Rattle.irtext_interner.proofs.Lists.{get_or_there, get_within}
use Rattle.irtext_scopes.proofs.Chains.{place_resolves}
use Rattle.irtext_scopes.proofs.scopes.Scopes.find.Goals as goal

pub index-requires : goal.index-requires
index-requires g c =
    let t = c.self.inside in
    let q : Some c.in-Some.place ≡ place_in t.heads.items t.marks c.args.name = c.in-Some.ensures ∙ ap (λ h. place_in h t.marks c.args.name) c.deref.ensures.value in
    let f = place_resolves t.heads.items t.marks t.bindings.items c.args.name (Some c.in-Some.place) c.self.invariant q in
    let k = get_within t.bindings.items c.in-Some.place f.binding f.there in
    search rules

pub returns-in-Some : goal.returns-in-Some
returns-in-Some g c =
    let t = c.self.inside in
    let q : Some c.in-Some.place ≡ place_in t.heads.items t.marks c.args.name = c.in-Some.ensures ∙ ap (λ h. place_in h t.marks c.args.name) c.deref.ensures.value in
    let f = place_resolves t.heads.items t.marks t.bindings.items c.args.name (Some c.in-Some.place) c.self.invariant q in
    ap (λ b. Some b.entry) (c.index.ensures ∙ get_or_there t.bindings.items c.in-Some.place c.index.result.now f.binding f.there)
    ∙ (sym f.means ∙ ap (λ s. find c.args.name (innermost s)) c.self.view_is)

pub returns-in-None : goal.returns-in-None
returns-in-None g c =
    let t = c.self.inside in
    let q : None ≡ place_in t.heads.items t.marks c.args.name = c.in-None.ensures ∙ ap (λ h. place_in h t.marks c.args.name) c.deref.ensures.value in
    sym (place_resolves t.heads.items t.marks t.bindings.items c.args.name None c.self.invariant q) ∙ ap (λ s. find c.args.name (innermost s)) c.self.view_is
