use Rattle.std.proofs.Common.{◌≡◌, ◌∙◌, ◌+◌, ◌<◌, length, get_or, sym, ap, arith, length-append}
use Rattle.std.proofs.lemmas.Iterator.{YieldsList-from_chars}
use Rattle.std.proofs.lemmas.Iterator.Consumers.{YieldsList-turn, YieldsList-end}
use Rattle.std.specs.Str.{chars}
use Rattle.irtext_excerpt.proofs.Fitting.{ending-fits, excess_step, excess_end}
use Rattle.irtext_excerpt.proofs.cuts.excess.Goals as goal

pub returns-then-width-le-REACH : goal.returns-then-width-le-REACH
returns-then-width-le-REACH c =
    let k = c.loop-c.invariant in
    sym (k.2 ∙ ending-fits _ (omega (arith, k.1, c.if-width-le-REACH.true)))

pub loop-c-preserved : goal.loop-c-preserved
loop-c-preserved c =
    let cs = chars c.args.text.now in
    let n = c.loop-c.passed in
    let k = c.loop-c.invariant in
    let turn = YieldsList-turn (YieldsList-from_chars c.args.text.now c.utf8.text cc) c.loop-c.yielded _ c.loop-c.yielded_by _ _ c.in-Some.c c.in-Some.is c.next.ensures.steps in
    let more : n < length cs = omega (arith, k.0, turn.0) in
    let is : c.in-Some.c ≡ get_or cs n c.in-Some.c = turn.1 ∙ ap (λ i. get_or cs i c.in-Some.c) (sym k.0) in
    let step = excess_step cs n c.in-Some.c _ more is c.shown_columns-width.ensures.value c.loop-c.width (omega (arith, c.if-width-le-REACH.false)) k.1 k.2 in
    (ap (λ i. i + 1) k.0 ∙ sym (length-append c.loop-c.yielded _), step.0, step.1)

pub returns : goal.returns
returns c =
    let k = c.loop-c.invariant in
    let all = YieldsList-end (YieldsList-from_chars c.args.text.now c.utf8.text cc) c.loop-c.yielded _ c.loop-c.yielded_by _ _ c.in-None.is c.next.ensures.steps in
    excess_end (chars c.args.text.now) c.loop-c.passed (k.0 ∙ all.1) k.2
