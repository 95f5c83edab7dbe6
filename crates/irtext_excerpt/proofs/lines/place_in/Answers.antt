use Rattle.std.proofs.Common.{◌≡◌, ◌∙◌, ◌-◌, [], take, drop, sym, ap, arith}
use Rattle.std.proofs.lemmas.Str.{chars-nil}
use Rattle.std.specs.Str.{chars}
use Rattle.irtext_stream.specs.Text.{front}
use Rattle.irtext_excerpt.specs.Excerpt.{place_in, is_in_line, without_return}
use Rattle.irtext_excerpt.proofs.Excerpts.{broken, unbroken, next_line, last_line, in_line, in_place}
use Rattle.irtext_excerpt.proofs.lines.place_in.Goals as goal

pub loop-line-init : goal.loop-line-init
loop-line-init c =
    let n : c.args.lines - 0 ≡ c.args.lines = omega arith in
    (c.utf8.text, ap (λ n. place_in (chars c.args.text.now) n c.args.characters) n)

pub returns-in-None : goal.returns-in-None
returns-in-None c =
    let rest = c.loop-line.rest.now in
    let kept = c.loop-line.invariant in
    let last = unbroken rest kept.0 c.in-None.ensures.cases in
    in_place (chars c.args.text.now) c.args.lines c.args.characters (record { before = without_return (chars rest); rest = [] }) c.without_return.result.now [] (sym kept.1 ∙ last_line (chars rest) c.args.lines c.loop-line._line c.args.characters c.loop-line-test.true last.1)
    (record { first_is = c.without_return.ensures; second_is = chars-nil })

pub loop-line-preserved : goal.loop-line-preserved
loop-line-preserved c =
    let rest = c.loop-line.rest.now in
    let kept = c.loop-line.invariant in
    let k = c.in-Some.ensures.cases in
    let b = broken rest c.in-Some.field-0-0.now c.in-Some.next.now k.0 k.1 kept.0 k.2 k.3 k.4 in
    (b.utf8, sym (next_line (chars rest) c.args.lines c.loop-line._line c.args.characters c.loop-line-test.true (chars c.in-Some.next.now) b.rest) ∙ kept.1)

pub returns : goal.returns
returns c =
    let rest = c.loop-line.rest.now in
    let n = c.args.characters in
    let kept = c.loop-line.invariant in
    let none : c.args.lines - c.loop-line._line ≡ 0 = omega (arith, c.loop-line-test.false) in
    let line = chars c.without_return-2.result.now in
    let same : without_return (front is_in_line (chars rest)) ≡ line = sym (c.without_return-2.ensures ∙ ap without_return c.first_line.ensures) in
    in_place (chars c.args.text.now) c.args.lines n (record { before = take n line; rest = drop n line }) _ _ (sym kept.1 ∙ in_line (chars rest) line (c.args.lines - c.loop-line._line) n none same) c.split_after.ensures
