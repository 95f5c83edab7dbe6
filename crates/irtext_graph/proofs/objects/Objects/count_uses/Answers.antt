use Rattle.std.proofs.Common.{◌∙◌, refl, sym, ap, arith, length, Some}
use Rattle.irtext_graph.specs.Uses.{next_of}
use Rattle.irtext_graph.proofs.Linked.{there}
use Rattle.irtext_graph.proofs.Listed.{walk_begins, walk_on, walk_ends}
use Rattle.irtext_graph.proofs.objects.Objects.count_uses.Goals as goal

pub loop-at-init : goal.loop-at-init
loop-at-init g c =
    let w = walk_begins c.requires.linked c.args.d c.site-at.result (c.head_of.ensures ∙ ap Some (sym c.site-at.ensures.value)) in
    record { walk = w.0; count = let k = ap length w.1 in omega (arith, k) }

pub use_of-requires : goal.use_of-requires
use_of-requires g c = there _ c.args.d (walk_on c.requires.linked c.args.d c.loop-at.at _ c.in-Some.u c.in-Some.is refl c.loop-at.invariant.walk).3

pub loop-at-preserved : goal.loop-at-preserved
loop-at-preserved g c =
    let w = walk_on c.requires.linked c.args.d c.loop-at.at _ c.in-Some.u c.in-Some.is (ap next_of c.use_of.ensures ∙ sym c.site-at-in-Some.ensures.value) c.loop-at.invariant.walk in
    let same = ap length w.1 in
    let more = ap length w.2 in
    let count = c.loop-at.invariant.count in
    record { walk = w.0; count = omega (arith, same, more, count) }

pub returns-then-n : goal.returns-then-n
returns-then-n g c =
    let inv = c.loop-at.invariant in
    let count = inv.count in
    record { list = inv.walk.list; lists = inv.walk.lists; within = omega (arith, count); exact = λ low. absurd (omega (arith, low)) }

pub returns : goal.returns
returns g c =
    let inv = c.loop-at.invariant in
    let ends = ap length (walk_ends c.requires.linked c.args.d c.loop-at.at c.in_default.is inv.walk) in
    let count = inv.count in
    record { list = inv.walk.list; lists = inv.walk.lists; within = omega (arith, count); exact = λ low. omega (arith, ends, count) }
