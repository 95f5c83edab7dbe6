use Rattle.std.proofs.Common.{◌≡◌, ◌∙◌, ◌+◌, ◌-◌, ◌*◌, ◌∷◌, [], ℕ, suc, ap, arith, length, length-append, take, drop, count_by}
use Rattle.irtext_stream.specs.Index.{begins_character}
use Rattle.irtext_stream.proofs.Lines.{counted_more, entries_more}
use Rattle.irtext_stream.proofs.index.block_counts.Goals as goal

pub loop-at-preserved : goal.loop-at-preserved
loop-at-preserved c =
    let v = c.loop-at.invariant in
    let bs = c.args.bytes.now in
    let xs = c.loop-at.blocks.items in
    let at = c.loop-at.at in
    let n : ℕ = c.loop-at.count + c.count_characters-count.result in
    let p = c.in_ok-push.ensures.items in
    let width : (at + 512) - at ≡ 512 = omega arith in
    let part : c.count_characters-count.result ≡ count_by begins_character (take 512 (drop at bs)) = c.count_characters-count.ensures ∙ ap (λ k. count_by begins_character (take k (drop at bs))) width in
    let all : n ≡ count_by begins_character (take (at + 512) bs) = omega (arith, v.counted, part, counted_more bs at 512) in
    let size : length c.push.new.items.items ≡ suc (length xs) = ap length p ∙ omega (arith, length-append xs (n ∷ [])) in
    let here : at + 512 ≡ 512 * suc (length xs) = omega (arith, v.so_far) in
    record {
      so_far = omega (arith, v.so_far, size);
      within = omega (arith, c.loop-at-test.true, v.within);
      counted = all;
      each = rw p (entries_more (λ m k. m ≡ count_by begins_character (take (512 * suc k) bs)) xs n v.each (all ∙ ap (λ k. count_by begins_character (take k bs)) here));
    }
