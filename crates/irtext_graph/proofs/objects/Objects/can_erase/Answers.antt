use Rattle.std.proofs.Common.{◌≡◌, ◌∙◌, refl, sym, ap, subst, arith, inl, inr, suc, Some, length}
use Rattle.irtext_graph.specs.Nested.{Within}
use Rattle.irtext_graph.specs.Chained.{Among}
use Rattle.irtext_graph.specs.Objects.{up, Lives}
use Rattle.irtext_graph.specs.Preorder.{left}
use Rattle.irtext_graph.specs.Erasing.{IsAllUsedInside}
use Rattle.irtext_graph.proofs.Nests.{some_eq}
use Rattle.irtext_graph.proofs.Inside.{within_self}
use Rattle.irtext_graph.proofs.Afters.{all_left}
use Rattle.irtext_graph.proofs.objects.Objects.can_erase.Goals as goal

pub loop-at-init : goal.loop-at-init
loop-at-init g c =
    let x = c.args.self.now in
    let o = c.args.o in
    record {
      looked = λ q w. inr (all_left x o q c.requires.forest w);
      inside = λ q e. subst (Within (up x) o) (some_eq e) (within_self (up x) o);
      lives = λ q e. subst (Lives x) (some_eq e) c.requires.lives;
    }

pub is_all_used_inside-requires-clause-lives : goal.is_all_used_inside-requires-clause-lives
is_all_used_inside-requires-clause-lives g c = c.loop-at.invariant.lives c.in-Some.q c.in-Some.is

pub after-at-requires-clause-lives : goal.after-at-requires-clause-lives
after-at-requires-clause-lives g c = c.loop-at.invariant.lives c.in-Some.q c.in-Some.is

pub after-at-requires-clause-inside : goal.after-at-requires-clause-inside
after-at-requires-clause-inside g c = c.loop-at.invariant.inside c.in-Some.q c.in-Some.is

pub loop-at-smaller : goal.loop-at-smaller
loop-at-smaller g c =
    let x = c.args.self.now in
    let o = c.args.o in
    let a : length (left x o c.loop-at.at) ≡ length (left x o (Some c.in-Some.q)) = ap (λ q. length (left x o q)) c.in-Some.is in
    let b : length (left x o (Some c.in-Some.q)) ≡ suc (length (left x o c.after-at.result)) = ap length c.after-at.ensures.next in
    omega (arith, a, b)

pub loop-at-preserved : goal.loop-at-preserved
loop-at-preserved g c =
    let x = c.args.self.now in
    let o = c.args.o in
    let a = c.after-at.ensures in
    record {
      looked = λ q w. elim (c.loop-at.invariant.looked q w) [
        | inl done ↦ inl done
        | inr m ↦ elim (subst (Among q) (ap (left x o) c.in-Some.is ∙ a.next) m) [
          | inl same ↦ inl (subst (IsAllUsedInside x o) (sym same) (c.is_all_used_inside.ensures.0 c.if-not-is_all_used_inside.false))
          | inr later ↦ inr later
        ]
      ];
      inside = a.found;
      lives = a.lives;
    }

pub returns-then-not-is_all_used_inside : goal.returns-then-not-is_all_used_inside
returns-then-not-is_all_used_inside g c = (
  λ t. absurd (cc),
  λ all. absurd (let yes = c.is_all_used_inside.ensures.1 (all c.in-Some.q (c.loop-at.invariant.inside c.in-Some.q c.in-Some.is)) in let no = c.if-not-is_all_used_inside.true in cc),
)

pub returns : goal.returns
returns g c = (
  λ _. λ q w. elim (c.loop-at.invariant.looked q w) [
    | inl done ↦ done
    | inr m ↦ absurd (subst (Among q) (ap (left c.args.self.now c.args.o) c.in_default.is) m)
  ],
  λ _. refl,
)
