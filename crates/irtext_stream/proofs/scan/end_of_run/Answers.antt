use Rattle.std.proofs.Common.{sym, arith}
use Rattle.irtext_stream.specs.Classes.{has}
use Rattle.irtext_stream.proofs.Slices.{ahead_more, ahead_ends, ends_after, byte_of, byte_not_of, no_width}
use Rattle.irtext_stream.proofs.scan.end_of_run.Goals as goal

pub returns-then-b-lt128 : goal.returns-then-b-lt128
returns-then-b-lt128 c =
    let h = c.in-Some.ensures.lookup in
    ahead_ends c.args.text.now c.args.from (has c.args.class) c.loop-b.at c.loop-b.invariant (byte_not_of c.args.text.now c.as_bytes.result.now c.loop-b.at c.in-Some.b.now (has c.args.class) c.as_bytes.ensures.value c.loop-b.invariant.rest_utf8 h.3.0 (h.3.1 0) c.if-b-lt128.true c.if-not-has_byte.ensures)

pub returns-then-not-has_byte : goal.returns-then-not-has_byte
returns-then-not-has_byte c = ends_after c.args.text.now c.args.from (has c.args.class) c.loop-b.at _ c.loop-b.invariant c.end_of_wide.ensures

pub loop-b-preserved : goal.loop-b-preserved
loop-b-preserved c =
    let h = c.in-Some.ensures.lookup in
    ahead_more c.args.text.now c.args.from (has c.args.class) c.loop-b.at 1 c.loop-b.invariant (byte_of c.args.text.now c.as_bytes.result.now c.loop-b.at c.in-Some.b.now (has c.args.class) c.as_bytes.ensures.value c.loop-b.invariant.rest_utf8 h.3.0 (h.3.1 0) c.if-not-has_byte.ensures) (λ e. omega (arith, e))

pub returns : goal.returns
returns c = ahead_ends c.args.text.now c.args.from (has c.args.class) c.loop-b.at c.loop-b.invariant (sym (no_width c.args.text.now c.as_bytes.result.now c.loop-b.at (has c.args.class) c.as_bytes.ensures.value c.in_default.ensures.lookup.3))
