use Rattle.std.proofs.Common.{◌≡◌, ◌∙◌, ◌+◌, ◌∷◌, [], suc, ap, arith, length, length-append}
use Rattle.std.specs.Str.{chars}
use Rattle.irtext_stream.specs.Index.{BeginsLine}
use Rattle.irtext_stream.proofs.Lines.{no_line, coming, line_found, lines_end, entries_more, rest_of}
use Rattle.irtext_stream.proofs.index.line_starts.Goals as goal

pub loop-i-init : goal.loop-i-init
loop-i-init c = record { is = c.as_bytes-bytes.ensures.value; within = omega arith; here = rw c.new-starts.ensures.items (no_line (chars c.args.text.now)); each = λ k h. absurd (omega (arith, h, ap length c.new-starts.ensures.items)) }

pub loop-i-preserved : goal.loop-i-preserved
loop-i-preserved c =
    let v = c.loop-i.invariant in
    let bs = c.args.text.now in
    let xs = c.loop-i.starts.items in
    let n : BeginsLine (chars bs) (c.loop-i.at + (c.in-Some.i + 1)) (suc (length xs)) = line_found bs _ c.loop-i.at (length xs) c.in-Some.i c.utf8.text v.here (rest_of c.args.text.now c.as_bytes-bytes.result.now c.loop-i.at v.is) c.in-Some.ensures in
    let p = c.in_ok-push.ensures.items in
    let size : length c.push.new.items.items ≡ suc (length xs) = ap length p ∙ omega (arith, length-append xs ((c.loop-i.at + (c.in-Some.i + 1)) ∷ [])) in
    record {
      is = v.is;
      within = omega (arith, (coming bs _ _ c.utf8.text n).within, ap length v.is);
      here = rw size n;
      each = rw p (entries_more (λ o k. BeginsLine (chars bs) o (suc k)) xs (c.loop-i.at + (c.in-Some.i + 1)) v.each n);
    }

pub returns : goal.returns
returns c =
    let v = c.loop-i.invariant in
    lines_end c.args.text.now _ c.loop-i.starts.items c.loop-i.at c.utf8.text v.here (rest_of c.args.text.now c.as_bytes-bytes.result.now c.loop-i.at v.is) c.in_default.ensures v.each
