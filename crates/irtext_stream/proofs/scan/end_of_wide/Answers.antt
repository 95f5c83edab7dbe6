use Rattle.std.proofs.Common.{◌∙◌, sym, arith}
use Rattle.irtext_stream.specs.Classes.{has}
use Rattle.irtext_stream.proofs.Slices.{ahead_none, ahead_more, ahead_ends}
use Rattle.irtext_stream.proofs.scan.end_of_wide.Goals as goal

pub loop-class-init : goal.loop-class-init
loop-class-init c = ahead_none c.args.text.now c.args.from (has c.args.class) c.requires.within c.requires.passed_utf8 c.requires.rest_utf8

pub returns-then-width-eq0 : goal.returns-then-width-eq0
returns-then-width-eq0 c = ahead_ends c.args.text.now c.args.from (has c.args.class) c.loop-class.at c.loop-class.invariant (sym c.if-width-eq0.true ∙ c.width_at-width.ensures)

pub overflow_add-at : goal.overflow_add-at
overflow_add-at c =
    let a = ahead_more c.args.text.now c.args.from (has c.args.class) c.loop-class.at c.width_at-width.result c.loop-class.invariant c.width_at-width.ensures c.if-width-eq0.false in
    omega (arith, a.within)

pub loop-class-preserved : goal.loop-class-preserved
loop-class-preserved c = ahead_more c.args.text.now c.args.from (has c.args.class) c.loop-class.at c.width_at-width.result c.loop-class.invariant c.width_at-width.ensures c.if-width-eq0.false

pub loop-class-smaller : goal.loop-class-smaller
loop-class-smaller c =
    let a = ahead_more c.args.text.now c.args.from (has c.args.class) c.loop-class.at c.width_at-width.result c.loop-class.invariant c.width_at-width.ensures c.if-width-eq0.false in
    omega (arith, a.within, c.if-width-eq0.false)
