use Rattle.std.proofs.Common.{◌≡◌, ◌+◌, ◌-◌, arith, take, count_by, ap}
use Rattle.irtext_stream.specs.Index.{begins_character}
use Rattle.irtext_stream.proofs.Lines.{single_before, counted_more, counted_less}
use Rattle.irtext_stream.proofs.index.TextIndex.characters_between.Goals as goal

pub returns-then-self : goal.returns-then-self
returns-then-self c =
    let s = single_before c.args.bytes.now c.args.start (c.requires.indexed.single c.if-self.true) (omega arith) in
    let e = single_before c.args.bytes.now c.args.end (c.requires.indexed.single c.if-self.true) c.requires.within in
    omega (arith, s, e)

pub returns-then-end-start-lt-BLOCK : goal.returns-then-end-start-lt-BLOCK
returns-then-end-start-lt-BLOCK c =
    let whole : c.args.start + (c.args.end - c.args.start) ≡ c.args.end = omega arith in
    let m : count_by begins_character (take (c.args.start + (c.args.end - c.args.start)) c.args.bytes.now) ≡ count_by begins_character (take c.args.end c.args.bytes.now) = ap (λ k. count_by begins_character (take k c.args.bytes.now)) whole in
    omega (arith, m, c.count_characters.ensures, counted_more c.args.bytes.now c.args.start (c.args.end - c.args.start))

pub overflow_sub-result-2 : goal.overflow_sub-result-2
overflow_sub-result-2 c = omega (arith, c.characters_before.ensures, c.characters_before-2.ensures, counted_less c.args.bytes.now c.args.start c.args.end c.requires.order)

pub returns : goal.returns
returns c = omega (arith, c.characters_before.ensures, c.characters_before-2.ensures, counted_less c.args.bytes.now c.args.start c.args.end c.requires.order)
