use Rattle.std.proofs.Common.{◌≢◌, ◌<◌, ◌∙◌, ℕ, sym, ap, subst, arith, inl, inr, refl, IsSome}
use Rattle.std.proofs.lemmas.Bool.{cases_eq}
use Rattle.irtext_graph.specs.Uses.{use_at, val}
use Rattle.irtext_graph.specs.Linking.{site_of}
use Rattle.irtext_graph.specs.Near.{IsNear}
use Rattle.irtext_graph.specs.declared.arena.Ptr.{Ptr}
use Rattle.irtext_graph.specs.declared.object.Operation.{Operation}
use Rattle.irtext_graph.specs.declared.new_uses.Side.{Side}
use Rattle.irtext_graph.specs.declared.new_uses.Side.TheVariants.{Operands, Successors}
use Rattle.irtext_graph.proofs.Linkings.{index_apart}
use Rattle.irtext_graph.proofs.SameSeen.{same_there, same_is_defined, used_of}
use Rattle.irtext_graph.proofs.objects.Objects.attach_all.Goals as goal

pub loop-i-init : goal.loop-i-init
loop-i-init g c = record {
  linked = c.requires.linked;
  used = λ j low. absurd (omega arith);
  later = λ j _. refl;
  kept = λ u _. refl;
  seen = refl;
}

near_site : (s : Side) (p : Ptr Operation) (i n : ℕ) → i < n → n < 2147483648 → IsNear (site_of s p i)
near_site Operands p i n low few = omega (arith, low, few)
near_site Successors p i n low few = omega (arith, low, few)

pub attach-requires-clause-near : goal.attach-requires-clause-near
attach-requires-clause-near g c = subst IsNear (sym c.site_at.ensures) (near_site c.args.side c.args.p c.loop-i.i c.args.count (omega arith) c.requires.few)

pub attach-requires-clause-there : goal.attach-requires-clause-there
attach-requires-clause-there g c = subst (λ u. IsSome (use_at c.loop-i.self u)) (sym c.site_at.ensures) (same_there c.args.self.now c.loop-i.self c.loop-i.invariant.seen (site_of c.args.side c.args.p c.loop-i.i) (c.requires.there c.loop-i.i (omega arith)))

pub attach-requires-clause-free : goal.attach-requires-clause-free
attach-requires-clause-free g c = ap (val c.loop-i.self) c.site_at.ensures ∙ c.loop-i.invariant.later c.loop-i.i (omega arith) ∙ c.requires.free c.loop-i.i

pub attach-requires-clause-alive : goal.attach-requires-clause-alive
attach-requires-clause-alive g c = λ o e.
    same_is_defined c.args.self.now c.loop-i.self c.loop-i.invariant.seen (site_of c.args.side c.args.p c.loop-i.i) (c.requires.alive c.loop-i.i) o
    (sym (ap (use_at c.loop-i.self) c.site_at.ensures) ∙ e)

pub loop-i-preserved : goal.loop-i-preserved
loop-i-preserved g c =
    let inv = c.loop-i.invariant in
    let s = c.attach.ensures in
    let at = c.site_at.ensures in
    let here : IsSome (use_at c.loop-i.self c.site_at.result) = subst (λ u. IsSome (use_at c.loop-i.self u)) (sym at) (same_there c.args.self.now c.loop-i.self inv.seen (site_of c.args.side c.args.p c.loop-i.i) (c.requires.there c.loop-i.i (omega arith))) in
    let apart : (j : ℕ) → j ≢ c.loop-i.i → site_of c.args.side c.args.p j ≢ c.site_at.result = λ j ne e. index_apart c.args.side c.args.p j c.loop-i.i ne (e ∙ at) in
    record {
      linked = s.linked;
      used = λ j low. elim (cases_eq j c.loop-i.i) [
        | inl same ↦ subst (λ u. IsSome (val c.attach.new.self u)) (at ∙ ap (site_of c.args.side c.args.p) (sym same)) (used_of c.loop-i.self c.attach.new.self c.site_at.result here s.used)
        | inr other ↦ subst (λ o. IsSome o) (sym (s.kept _ (apart j other))) (inv.used j (omega (arith, other)))
      ];
      later = λ j high. s.kept _ (apart j (λ e. omega (arith, e, high))) ∙ inv.later j (omega (arith, high));
      kept = λ u away. s.kept u (λ e. away c.loop-i.i (e ∙ at)) ∙ inv.kept u away;
      seen = s.seen ∙ inv.seen;
    }
