use Rattle.std.proofs.Common.{◌≡◌, ◌≢◌, ◌∙◌, ◌+◌, ◌∷◌, sym, ap, subst, arith, suc, Some, None, slice_get}
use Rattle.std.proofs.lemmas.Option.{slice_get_within}
use Rattle.irtext_graph.specs.Nested.{Within}
use Rattle.irtext_graph.specs.Objects.{up, kids, Lives}
use Rattle.irtext_graph.proofs.Depth.{depth_of}
use Rattle.irtext_graph.proofs.Nests.{some_eq}
use Rattle.irtext_graph.proofs.Erased.{up_lives, parent_inside, holder_inside}
use Rattle.irtext_graph.proofs.Places.{depth-less, parent_lives}
use Rattle.irtext_graph.proofs.Afters.{rest, leaf_left, first_left, next_rest, last_rest, end_rest, child_inside, none_follows, empty_list}
use Rattle.irtext_graph.proofs.objects.Objects.after.Goals as goal

pub loop-o-init : goal.loop-o-init
loop-o-init g c =
    let x = c.args.self.now in
    let leaf = empty_list (kids x c.args.q) (let n = c.child_count.ensures in let m = c.if-child_count-gt0.false in omega (arith, n, m)) in
    record { lives = c.requires.lives; inside = c.requires.inside; next = leaf_left x c.args.o c.args.q c.requires.forest leaf }

pub returns-then-child_count-gt0-clause-next : goal.returns-then-child_count-gt0-clause-next
returns-then-child_count-gt0-clause-next g c = first_left c.args.self.now c.args.o c.args.q c.child_at.result c.requires.forest c.requires.inside c.child_at.ensures

pub returns-then-child_count-gt0-clause-found : goal.returns-then-child_count-gt0-clause-found
returns-then-child_count-gt0-clause-found g c = λ r e.
    let x = c.args.self.now in
    subst (Within (up x) c.args.o) (some_eq e) (child_inside x c.args.o c.args.q c.child_at.result c.requires.inside (c.requires.forest.down c.args.q 0 c.child_at.result c.child_at.ensures))

pub returns-then-child_count-gt0-clause-lives : goal.returns-then-child_count-gt0-clause-lives
returns-then-child_count-gt0-clause-lives g c = λ r e.
    let x = c.args.self.now in
    subst (Lives x) (some_eq e) (up_lives x c.child_at.result c.args.q (c.requires.forest.down c.args.q 0 c.child_at.result c.child_at.ensures))

pub unreachable-requires : goal.unreachable-requires
unreachable-requires g c =
    let ne : c.loop-o.at ≢ c.args.o = λ e. let yes = c.same_object.ensures.1 e in let none = c.loop-o-test.true in absurd (cc) in
    let p = parent_inside c.args.self.now c.args.o c.loop-o.at c.loop-o.invariant.inside ne in
    c.in_default.not-Some p.0 (c.parent_of.ensures ∙ p.1)

pub overflow_add-i : goal.overflow_add-i
overflow_add-i g c =
    let low = slice_get_within (kids c.args.self.now c.in-Some.k) c.index_in-i.result c.loop-o.at c.index_in-i.ensures in
    let n = c.child_count-count.ensures in
    let m = c.child_count-count.type_inv in
    omega (arith, low, n, m)

pub returns-then-i-count-clause-next : goal.returns-then-i-count-clause-next
returns-then-i-count-clause-next g c =
    let x = c.args.self.now in
    let k = c.in-Some.k in
    let ne : c.loop-o.at ≢ c.args.o = λ e. let yes = c.same_object.ensures.1 e in let none = c.loop-o-test.true in absurd (cc) in
    let w = holder_inside x c.args.o c.loop-o.at k c.loop-o.invariant.inside ne (sym c.parent_of.ensures ∙ c.in-Some.is) in
    let i = c.index_in-i.result in
    let z : suc i ≡ i + 1 = omega arith in
    let f : slice_get (kids x k) (suc i) ≡ Some c.child_at-then-i-count.result = ap (slice_get (kids x k)) z ∙ c.child_at-then-i-count.ensures in
    c.loop-o.invariant.next ∙ ap (λ ys. c.args.q ∷ ys) (next_rest x c.args.o c.loop-o.at k c.child_at-then-i-count.result i c.requires.forest ne w c.index_in-i.ensures f)

pub returns-then-i-count-clause-found : goal.returns-then-i-count-clause-found
returns-then-i-count-clause-found g c = λ r e.
    let x = c.args.self.now in
    let k = c.in-Some.k in
    let d = c.child_at-then-i-count in
    let ne : c.loop-o.at ≢ c.args.o = λ e. let yes = c.same_object.ensures.1 e in let none = c.loop-o-test.true in absurd (cc) in
    let w = holder_inside x c.args.o c.loop-o.at k c.loop-o.invariant.inside ne (sym c.parent_of.ensures ∙ c.in-Some.is) in
    subst (Within (up x) c.args.o) (some_eq e) (child_inside x c.args.o k d.result w (c.requires.forest.down k (c.index_in-i.result + 1) d.result d.ensures))

pub returns-then-i-count-clause-lives : goal.returns-then-i-count-clause-lives
returns-then-i-count-clause-lives g c = λ r e.
    let x = c.args.self.now in
    let d = c.child_at-then-i-count in
    subst (Lives x) (some_eq e) (up_lives x d.result c.in-Some.k (c.requires.forest.down c.in-Some.k (c.index_in-i.result + 1) d.result d.ensures))

pub loop-o-smaller : goal.loop-o-smaller
loop-o-smaller g c =
    let x = c.args.self.now in
    let k = c.in-Some.k in
    let a : depth_of x (up x c.loop-o.at) ≡ depth_of x (Some k) = ap (depth_of x) (sym c.parent_of.ensures ∙ c.in-Some.is) in
    let l = depth-less x c.loop-o.at c.requires.forest in
    omega (arith, a, l)

pub loop-o-preserved : goal.loop-o-preserved
loop-o-preserved g c =
    let x = c.args.self.now in
    let k = c.in-Some.k in
    let i = c.index_in-i.result in
    let e : up x c.loop-o.at ≡ Some k = sym c.parent_of.ensures ∙ c.in-Some.is in
    let ne : c.loop-o.at ≢ c.args.o = λ e. let yes = c.same_object.ensures.1 e in let none = c.loop-o-test.true in absurd (cc) in
    let f : slice_get (kids x k) (suc i) ≡ None = none_follows (kids x k) (suc i) (let n = c.child_count-count.ensures in let m = c.if-i-count.false in omega (arith, n, m)) in
    record {
      lives = parent_lives x c.loop-o.at k c.requires.forest e;
      inside = holder_inside x c.args.o c.loop-o.at k c.loop-o.invariant.inside ne e;
      next = c.loop-o.invariant.next ∙ ap (λ ys. c.args.q ∷ ys) (last_rest x c.args.o c.loop-o.at k i c.requires.forest ne c.index_in-i.ensures f);
    }

pub returns-clause-next : goal.returns-clause-next
returns-clause-next g c =
    let x = c.args.self.now in
    let here : c.loop-o.at ≡ c.args.o = c.same_object.ensures.0 c.loop-o-test.false in
    c.loop-o.invariant.next ∙ ap (λ ys. c.args.q ∷ ys) (ap (λ z. rest x c.args.o z) here ∙ end_rest x c.args.o c.requires.forest)

pub index_in-i-requires-clause-alive : goal.index_in-i-requires-clause-alive
index_in-i-requires-clause-alive g c = sym c.parent_of.ensures ∙ c.in-Some.is

pub child_count-count-requires : goal.child_count-count-requires
child_count-count-requires g c = parent_lives c.args.self.now c.loop-o.at c.in-Some.k c.requires.forest (sym c.parent_of.ensures ∙ c.in-Some.is)
