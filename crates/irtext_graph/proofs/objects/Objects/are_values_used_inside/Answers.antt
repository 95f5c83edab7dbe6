use Rattle.std.proofs.Common.{◌≡◌, refl, sym, subst, arith, inl, inr, IsSome}
use Rattle.irtext_graph.specs.declared.object.Defined.TheVariants.{OfValue}
use Rattle.irtext_graph.specs.Erasing.{IsUsedInside, sibling}
use Rattle.irtext_graph.specs.Uses.{head_at}
use Rattle.irtext_graph.proofs.Moves.{lower}
use Rattle.irtext_graph.proofs.Sites.{none_beyond}
use Rattle.irtext_graph.proofs.objects.Objects.are_values_used_inside.Goals as goal

pub is_used_inside-requires-clause-alive : goal.is_used_inside-requires-clause-alive
is_used_inside-requires-clause-alive g c = subst (λ v. IsSome (head_at c.args.self.now (OfValue v))) (sym c.sibling.ensures) ((c.value_count-i-end.ensures c.loop-i.i).1 c.loop-i-test.true)

pub loop-i-init : goal.loop-i-init
loop-i-init g c = record { so_far = λ j l. absurd (omega (arith, l)) }

pub loop-i-preserved : goal.loop-i-preserved
loop-i-preserved g c = record {
  so_far = λ j l. elim (lower j c.loop-i.i) [
    | inl low ↦ c.loop-i.invariant.so_far j low
    | inr h ↦ let e : c.loop-i.i ≡ j = omega (arith, l, h) in subst (λ k. IsUsedInside c.args.self.now c.args.o (OfValue (sibling c.args.v k))) e (subst (λ v. IsUsedInside c.args.self.now c.args.o (OfValue v)) c.sibling.ensures (c.is_used_inside.ensures.0 c.if-not-is_used_inside.false))
  ];
}

pub returns-then-not-is_used_inside : goal.returns-then-not-is_used_inside
returns-then-not-is_used_inside g c = (λ t. absurd (cc), λ all. absurd (let yes = c.is_used_inside.ensures.1 (subst (λ v. IsUsedInside c.args.self.now c.args.o (OfValue v)) (sym c.sibling.ensures) (all c.loop-i.i)) in let no = c.if-not-is_used_inside.true in cc))

pub returns : goal.returns
returns g c = (
  λ _. λ j. elim (lower j c.loop-i.i) [
    | inl low ↦ c.loop-i.invariant.so_far j low
    | inr h ↦ none_beyond c.args.self.now c.args.o (OfValue (sibling c.args.v j)) c.requires.linked (λ l. let k = (c.value_count-i-end.ensures j).0 l in let m = c.loop-i-test.false in omega (arith, k, m, h))
  ],
  λ _. refl,
)
