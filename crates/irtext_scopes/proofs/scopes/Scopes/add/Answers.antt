use Rattle.std.proofs.Common.{◌≡◌, true, arith, ◌++◌, ◌∷◌, [], length, None, Some, cond, nat_eq, sym, ◌∙◌, ap, subst}
use Rattle.irtext_scopes.specs.declared.scopes.Binding.{Binding}
use Rattle.irtext_scopes.specs.Scopes.{find, innermost, in_innermost, is_open, mentioned, names_held}
use Rattle.irtext_scopes.specs.Bindings.{head_at, scopes_at, IsSound}
use Rattle.irtext_scopes.proofs.Chains.{longer_sound, added_sound, added_scopes}
use Rattle.irtext_scopes.proofs.Maps.{no_memory, memory_lacks}
use Rattle.irtext_scopes.proofs.scopes.Scopes.add.Goals as goal

pub invariant_of-self : goal.invariant_of-self
invariant_of-self g c = let t = c.self.inside in longer_sound t.heads.items c.grow.new.heads.items t.marks t.bindings.items c.grow.ensures.same c.self.invariant

pub invariant_of-self-in_err-push : goal.invariant_of-self-in_err-push
invariant_of-self-in_err-push g c =
    let t = c.self.inside in
    subst (λ z. IsSound c.grow.new.heads.items z t.marks) (sym c.in_err-push.ensures.items)
    (longer_sound t.heads.items c.grow.new.heads.items t.marks t.bindings.items c.grow.ensures.same c.self.invariant)

pub set_head-requires : goal.set_head-requires
set_head-requires g c = c.in_ok-grow.ensures.ok

pub invariant_of-self-2 : goal.invariant_of-self-2
invariant_of-self-2 g c =
    let t = c.self.inside in
    let b : Binding g.row.V.Denot = record { name = c.args.name; entry = c.args.entry; hidden = c.head_of-hidden.result } in
    let e : c.push.new.items.items ≡ t.bindings.items ++ b ∷ [] = c.in_ok-push.ensures.items in
    let n : c.len-place.result ≡ length t.bindings.items = c.len-place.ensures ∙ t.bindings.ok.0 in
    let hid : b.hidden ≡ head_at t.heads.items b.name = c.head_of-hidden.ensures ∙ ap (λ h. head_at h c.args.name) c.deref.ensures.value in
    let opened : is_open (scopes_at t.marks t.bindings.items) ≡ true = ap is_open c.self.view_is ∙ c.requires.open in
    let none : find b.name (innermost (scopes_at t.marks t.bindings.items)) ≡ None = ap (λ s. find c.args.name (innermost s)) c.self.view_is ∙ c.requires.unknown in
    subst (λ z. IsSound c.set_head.new.heads.items z t.marks) (sym e)
    (added_sound t.heads.items c.set_head.new.heads.items t.marks t.bindings.items b c.self.invariant hid
    (λ m. c.set_head.ensures m ∙ (ap (λ o. cond (nat_eq b.name m) o (head_at c.grow.new.heads.items m)) (c.in_ok-head.ensures.ok ∙ ap (λ k. Some k) n) ∙ ap (cond (nat_eq b.name m) (Some (length t.bindings.items))) (c.grow.ensures.same m))) opened none)

pub returns-clause-ok : goal.returns-clause-ok
returns-clause-ok g c =
    let t = c.self.inside in
    let b : Binding g.row.V.Denot = record { name = c.args.name; entry = c.args.entry; hidden = c.head_of-hidden.result } in
    let e : c.push.new.items.items ≡ t.bindings.items ++ b ∷ [] = c.in_ok-push.ensures.items in
    ap (scopes_at t.marks) e ∙ (added_scopes t.heads.items t.marks t.bindings.items b c.self.invariant ∙ ap (in_innermost (mentioned b.name b.entry)) c.self.view_is)

pub returns-in_err-grow-clause-full : goal.returns-in_err-grow-clause-full
returns-in_err-grow-clause-full g c =
    let t = c.self.inside in
    let held : names_held c.args.self.now ≡ length t.bindings.items = ap names_held (sym c.self.view_is) ∙ sym c.self.invariant.counted in
    let n : c.len-place.result ≡ length t.bindings.items = c.len-place.ensures ∙ t.bindings.ok.0 in
    let below = c.in_ok-head.ensures.below in
    let few = c.if-name.false in
    no_memory c.args.name c.args.self.now c.from_residual-in_err-grow.result
    (memory_lacks c.from_residual-in_err-grow.result c.in_err-grow.field-0.0 c.from_residual-in_err-grow.ensures.1) (omega arith) (omega arith)

pub returns-in_err-push-clause-full : goal.returns-in_err-push-clause-full
returns-in_err-push-clause-full g c =
    let t = c.self.inside in
    let held : names_held c.args.self.now ≡ length t.bindings.items = ap names_held (sym c.self.view_is) ∙ sym c.self.invariant.counted in
    let n : c.len-place.result ≡ length t.bindings.items = c.len-place.ensures ∙ t.bindings.ok.0 in
    let below = c.in_ok-head.ensures.below in
    let few = c.if-name.false in
    no_memory c.args.name c.args.self.now c.from_residual-in_err-push.result c.from_residual-in_err-push.ensures.1 (omega arith) (omega arith)
