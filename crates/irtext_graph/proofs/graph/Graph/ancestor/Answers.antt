use Rattle.std.proofs.Common.{rules, refl, ◌≡◌, ◌<◌, ◌∙◌, ◌-◌, ◌+◌, sym, arith, Some, None}
use Rattle.irtext_graph.specs.Graph.{parent}
use Rattle.irtext_graph.proofs.Rounds.{ended, risen}
use Rattle.irtext_graph.proofs.graph.Graph.ancestor.Goals as goal

pub returns-in_err-at-clause-ancestor : goal.returns-in_err-at-clause-ancestor
returns-in_err-at-clause-ancestor g c =
    let n = c.args.levels - c.loop.counter in
    let below = c.loop-test.true in
    let so : n + c.loop.counter ≡ c.args.levels = omega (arith, below) in
    let some : 0 < n = omega (arith, below) in
    let none : parent c.args.self.now c.loop.at ≡ None = sym c.get_parent.ensures.parent ∙ c.in_err-at.was in
    let last : c.from_residual.result ≡ None = search (rules) in
    last ∙ sym (sym (c.loop.invariant.on n so) ∙ ended (parent c.args.self.now) c.loop.at n none some)

pub loop-preserved : goal.loop-preserved
loop-preserved g c = record {
  there = search rules;
  on = λ n e.
      let m = n + 1 in
      let so : m + c.loop.counter ≡ c.args.levels = omega (arith, e) in
      let some : parent c.args.self.now c.loop.at ≡ Some c.in_ok-at.at = sym c.get_parent.ensures.parent ∙ c.in_ok-at.was in
      risen (parent c.args.self.now) c.loop.at c.in_ok-at.at n m some refl ∙ c.loop.invariant.on m so;
}

pub returns-clause-ancestor : goal.returns-clause-ancestor
returns-clause-ancestor g c =
    let over = c.loop-test.false in
    let end = c.loop.auto.counter-end in
    let so : 0 + c.loop.counter ≡ c.args.levels = omega (arith, over, end) in
    c.loop.invariant.on 0 so
