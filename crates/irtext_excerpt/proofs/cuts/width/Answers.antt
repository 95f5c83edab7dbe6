use Rattle.std.proofs.Common.{◌∙◌, ◌+◌, ◌<◌, [], ◌∷◌, length, sym, ap, arith, length-append}
use Rattle.std.proofs.lemmas.Iterator.{YieldsList-from_chars}
use Rattle.std.proofs.lemmas.Iterator.Consumers.{YieldsList-turn, YieldsList-end}
use Rattle.std.proofs.lemmas.List.{map-id}
use Rattle.std.specs.Str.{chars}
use Rattle.irtext_excerpt.specs.Excerpt.{columns, shown}
use Rattle.irtext_excerpt.proofs.Excerpts.{width-more}
use Rattle.irtext_excerpt.proofs.cuts.width.Goals as goal

pub overflow_add-width : goal.overflow_add-width
overflow_add-width c =
    let turn = YieldsList-turn (YieldsList-from_chars c.args.text.now c.utf8.text cc) c.loop-c.yielded _ c.loop-c.yielded_by _ _ c.in-Some.c c.in-Some.is c.next.ensures.steps in
    let short : length c.loop-c.yielded < length (chars c.args.text.now) = turn.0 in
    omega (arith, c.loop-c.invariant.1, short, c.requires, c.shown_columns-width.ensures.bound)

pub loop-c-preserved : goal.loop-c-preserved
loop-c-preserved c =
    let ys = c.loop-c.yielded in
    let longer = length-append ys (c.in-Some.c ∷ []) in (
      ap (λ k. k + c.shown_columns-width.result) c.loop-c.invariant.0 ∙ ap (λ k. columns (shown ys) + k) c.shown_columns-width.ensures.value ∙ width-more ys c.in-Some.c,
      omega (arith, c.loop-c.invariant.1, longer, c.shown_columns-width.ensures.bound),
    )

pub returns : goal.returns
returns c =
    let all = YieldsList-end (YieldsList-from_chars c.args.text.now c.utf8.text cc) c.loop-c.yielded _ c.loop-c.yielded_by _ _ c.in-None.is c.next.ensures.steps in
    c.loop-c.invariant.0 ∙ ap (λ t. columns (shown t)) (sym (map-id c.loop-c.yielded) ∙ all.0)
