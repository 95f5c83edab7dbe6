use Rattle.std.proofs.Common.{refl, length, arith}
use Rattle.std.proofs.lemmas.Option.{slice_get_read}
use Rattle.irtext_base.specs.FormatViews.{directive_of}
use Rattle.irtext_alike.proofs.Directives.{differ, agree, agree_each}
use Rattle.irtext_alike.proofs.format.are_same_directives.Goals as goal

pub returns-then-not-is_same_directive : goal.returns-then-not-is_same_directive
returns-then-not-is_same_directive c =
    let a = c.args.a.now in
    let b = c.args.b.now in
    let i = c.loop-i.i in
    let sizes = c.if-a-b.false in
    let within = c.loop-i-test.true in
    differ directive_of a b i c.index-a-i.result c.index-b-i.result c.is_same_directive.result (slice_get_read a (length a) i c.index-a-i.result refl within c.index-a-i.is) (slice_get_read b (length b) i c.index-b-i.result refl (omega (arith, sizes, within)) c.index-b-i.is) c.is_same_directive.ensures c.if-not-is_same_directive.true

pub loop-i-preserved : goal.loop-i-preserved
loop-i-preserved c =
    let a = c.args.a.now in
    let b = c.args.b.now in
    let i = c.loop-i.i in
    let sizes = c.if-a-b.false in
    let within = c.loop-i-test.true in
    agree directive_of a b i c.index-a-i.result c.index-b-i.result (slice_get_read a (length a) i c.index-a-i.result refl within c.index-a-i.is) (slice_get_read b (length b) i c.index-b-i.result refl (omega (arith, sizes, within)) c.index-b-i.is) (c.is_same_directive.ensures.0 c.if-not-is_same_directive.false) c.loop-i.invariant

pub returns : goal.returns
returns c =
    let sizes = c.if-a-b.false in
    let end = c.loop-i-test.false in
    agree_each directive_of c.args.a.now c.args.b.now c.loop-i.i sizes (omega (arith, end)) c.loop-i.invariant
