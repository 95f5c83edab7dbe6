use Rattle.std.proofs.Common.{◌≡◌, ◌-◌, sym, arith, Some, [], List, length, refl, ◌∷◌}
use Rattle.irtext_graph.specs.declared.object.Object.{Object}
use Rattle.irtext_graph.specs.Objects.{up, kids}
use Rattle.irtext_graph.proofs.Inside.{within_self, within_up, within_on}
use Rattle.irtext_graph.proofs.Erased.{up_lives}
use Rattle.irtext_graph.proofs.Walks.{lower-down}
use Rattle.irtext_graph.proofs.objects.Objects.innermost.Goals as goal

pub loop-count-init : goal.loop-count-init
loop-count-init g c = record { inside = within_self (up c.args.self.now) c.args.o; lives = c.requires.lives; counted = c.child_count-count.ensures }

pub loop-count-smaller : goal.loop-count-smaller
loop-count-smaller g c =
    let x = c.args.self.now in
    lower-down x c.loop-count.at c.child_at-at.result c.requires.forest (c.requires.forest.down c.loop-count.at (c.loop-count.count - 1) c.child_at-at.result c.child_at-at.ensures)

pub loop-count-preserved : goal.loop-count-preserved
loop-count-preserved g c =
    let x = c.args.self.now in
    let e : up x c.child_at-at.result ≡ Some c.loop-count.at = c.requires.forest.down c.loop-count.at (c.loop-count.count - 1) c.child_at-at.result c.child_at-at.ensures in
    record {
      inside = within_on (up x) c.args.o c.loop-count.at c.child_at-at.result c.loop-count.invariant.inside (within_up (up x) c.loop-count.at c.child_at-at.result c.loop-count.at e (within_self (up x) c.loop-count.at));
      lives = up_lives x c.child_at-at.result c.loop-count.at e;
      counted = c.child_count-count-in-loop-count.ensures;
    }

pub returns-clause-leaf : goal.returns-clause-leaf
returns-clause-leaf g c = none (kids c.args.self.now c.loop-count.at) (sym c.loop-count.invariant.counted)
  where
    none : (xs : List Object) → length xs ≡ c.loop-count.count → xs ≡ []
    none [] e = refl
    none (x ∷ xs) e = absurd (omega (arith, e))

pub child_count-count-requires-in-loop-count : goal.child_count-count-requires-in-loop-count
child_count-count-requires-in-loop-count g c =
    let x = c.args.self.now in
    let e : up x c.child_at-at.result ≡ Some c.loop-count.at = c.requires.forest.down c.loop-count.at (c.loop-count.count - 1) c.child_at-at.result c.child_at-at.ensures in
    up_lives x c.child_at-at.result c.loop-count.at e
