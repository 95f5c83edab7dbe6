use Rattle.std.proofs.Common.{◌∙◌, sym, refl, arith}
use Rattle.std.proofs.lemmas.Iterator.{YieldsList-from_chars, YieldsList-from_take}
use Rattle.std.proofs.lemmas.Iterator.Consumers.{YieldsList-so_far, YieldsList-turn, YieldsList-end}
use Rattle.std.proofs.lemmas.List.{map-id}
use Rattle.irtext_excerpt.proofs.Excerpts.{Advances, advances, boundary_at, parts_at}
use Rattle.irtext_excerpt.proofs.lines.split_after.Goals as goal

pub loop-c-init : goal.loop-c-init
loop-c-init c = refl

pub overflow_add-at : goal.overflow_add-at
overflow_add-at c =
    let road = YieldsList-from_take c.args.n (YieldsList-from_chars c.args.text.now c.utf8.text cc) cc in
    let so_far = YieldsList-so_far road c.loop-c.yielded _ c.loop-c.yielded_by in
    let turn = YieldsList-turn road c.loop-c.yielded _ c.loop-c.yielded_by _ _ c.in-Some.c c.in-Some.is c.next.ensures.steps in
    let next : Advances c.args.text.now c.loop-c.yielded c.in-Some.c = advances c.args.text.now c.loop-c.yielded c.args.n c.in-Some.c c.utf8.text (sym (map-id c.loop-c.yielded) ∙ so_far) turn in
    omega (arith, next.within, c.len_utf8-at.ensures.value, c.loop-c.invariant)

pub loop-c-preserved : goal.loop-c-preserved
loop-c-preserved c =
    let road = YieldsList-from_take c.args.n (YieldsList-from_chars c.args.text.now c.utf8.text cc) cc in
    let so_far = YieldsList-so_far road c.loop-c.yielded _ c.loop-c.yielded_by in
    let turn = YieldsList-turn road c.loop-c.yielded _ c.loop-c.yielded_by _ _ c.in-Some.c c.in-Some.is c.next.ensures.steps in
    let next : Advances c.args.text.now c.loop-c.yielded c.in-Some.c = advances c.args.text.now c.loop-c.yielded c.args.n c.in-Some.c c.utf8.text (sym (map-id c.loop-c.yielded) ∙ so_far) turn in
    omega (arith, next.size, c.len_utf8-at.ensures.value, c.loop-c.invariant)

pub split_at-requires : goal.split_at-requires
split_at-requires c =
    let road = YieldsList-from_take c.args.n (YieldsList-from_chars c.args.text.now c.utf8.text cc) cc in
    let all = YieldsList-end road c.loop-c.yielded _ c.loop-c.yielded_by _ _ c.in-None.is c.next.ensures.steps in
    boundary_at c.args.text.now c.loop-c.yielded c.args.n c.loop-c.at c.utf8.text (sym (map-id c.loop-c.yielded) ∙ all.0) c.loop-c.invariant

pub returns : goal.returns
returns c =
    let road = YieldsList-from_take c.args.n (YieldsList-from_chars c.args.text.now c.utf8.text cc) cc in
    let all = YieldsList-end road c.loop-c.yielded _ c.loop-c.yielded_by _ _ c.in-None.is c.next.ensures.steps in
    parts_at c.args.text.now c.loop-c.yielded c.split_at.result.0.now c.split_at.result.1.now c.args.n c.loop-c.at c.utf8.text (sym (map-id c.loop-c.yielded) ∙ all.0) c.loop-c.invariant c.split_at.ensures.front c.split_at.ensures.back
