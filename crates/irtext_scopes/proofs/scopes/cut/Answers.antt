use Rattle.std.proofs.Common.{◌++◌, ◌∷◌, [], List, length, rules, sym, ◌∙◌, ap, subst, append_assoc, length-append}
use Rattle.std.specs.Option.{option_or}
use Rattle.irtext_scopes.specs.declared.scopes.Binding.{Binding}
use Rattle.irtext_scopes.specs.Scopes.{first_pending, if_pending}
use Rattle.irtext_scopes.specs.Bindings.{Chained, entries_of}
use Rattle.irtext_scopes.proofs.Chains.{taken_chained, last_in_range}
use Rattle.irtext_scopes.proofs.scopes.cut.Goals as goal

pub set_head-requires : goal.set_head-requires
set_head-requires g c =
    let h = c.loop-bindings.heads.items in
    last_in_range h c.pop.new.self.items c.in-Some.b (subst (Chained h) c.in-Some.ensures.items c.loop-bindings.invariant.chained)

pub loop-bindings-preserved-in-Pending : goal.loop-bindings-preserved-in-Pending
loop-bindings-preserved-in-Pending g c =
    let k = c.loop-bindings.invariant.gone in
    let is = c.in-Some.ensures.items in
    let b = c.in-Some.b in
    let bs = c.pop.new.self.items in
    let h = c.loop-bindings.heads.items in
    record {
      gone = (b ∷ k.0, k.1 ∙ (ap (λ z. z ++ k.0) is ∙ append_assoc bs (b ∷ []) k.0), sym (ap (λ z. option_or (if_pending b.name z) (first_pending (entries_of k.0))) c.in-Pending.is));
      chained = taken_chained h c.set_head.new.heads.items bs b (subst (Chained h) is c.loop-bindings.invariant.chained) c.set_head.ensures;
      low = let t = c.loop-bindings-test.true in let e = ap (λ (z : List (Binding g.row.V.Denot)). length z) is in let n = length-append bs (b ∷ []) in search rules;
    }

pub loop-bindings-preserved : goal.loop-bindings-preserved
loop-bindings-preserved g c =
    let h = c.loop-bindings.heads.items in
    let b = c.in-Some.b in
    let bs = c.pop.new.self.items in
    let k = c.loop-bindings.invariant.gone in
    let is = c.in-Some.ensures.items in
    record {
      chained = taken_chained h c.set_head.new.heads.items bs b (subst (Chained h) is c.loop-bindings.invariant.chained) c.set_head.ensures;
      low = let t = c.loop-bindings-test.true in let e = ap (λ (z : List (Binding g.row.V.Denot)). length z) is in let n = length-append bs (b ∷ []) in search rules;
      gone = (b ∷ k.0, k.1 ∙ (ap (λ z. z ++ k.0) is ∙ append_assoc bs (b ∷ []) k.0), k.2 ∙ sym (ap (λ z. option_or (if_pending b.name z) (first_pending (entries_of k.0))) c.in_default-entry.is));
    }
