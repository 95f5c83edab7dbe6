use Rattle.std.proofs.Common.{◌-◌, ◌∙◌, Some, ap, arith, refl}
use Rattle.std.proofs.lemmas.Option.{slice_get-get_or}
use Rattle.irtext_graph.proofs.Logs.{later, in_all}
use Rattle.irtext_graph.proofs.log.count_before.Goals as goal

pub returns-then-is_older-clause-all : goal.returns-then-is_older-clause-all
returns-then-is_older-clause-all g c = λ o young.
    let n = c.loop-count.count - 1 in
    let r = slice_get-get_or c.args.log.now n c.object_at-last.result (omega (arith, c.loop-count.invariant.low, c.loop-count-test.true)) in
    let k = later c.requires.0 c.args.mark n c.args.log.now c.args.objects.now c.object_at-last.result c.requires.1 (r ∙ ap Some (c.object_at-last.ensures _ r)) (c.if-is_older.ensures.0 refl) o young in
    (k.0, omega (arith, k.1, c.loop-count-test.true), k.2)

pub returns-clause-all : goal.returns-clause-all
returns-clause-all g c = λ o young.
    let k = in_all c.requires.0 c.args.mark c.args.log.now c.args.objects.now c.requires.1 o young in
    (k.0, omega (arith, c.loop-count-test.false), k.2)
