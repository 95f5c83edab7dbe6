use Rattle.std.proofs.Common.{rules, ◌≡◌, refl, sym, subst}
use Rattle.irtext_context.proofs.Contexts.{same-keeps}
use Rattle.irtext_context.proofs.Kept.{kept_trans}
use Rattle.irtext_parse_locations.specs.Applied.{GivesAll, ItemsAreNewer}
use Rattle.irtext_parse_locations.proofs.GivenSteps.{newer_still}
use Rattle.irtext_parse_locations.proofs.applied.items_given.Goals as goal

pub loop-entry-init : goal.loop-entry-init
loop-entry-init g c =
    let ctx = c.args.ctx.now in
    let once = c.args.once.now.entries in
    let e : c.into_iter-entry-iterator.result.rest.items ≡ c.args.items.items = search rules in
    (λ new h. subst (λ es. GivesAll once es ctx new) e h, λ mark n. (same-keeps mark ctx ctx refl, subst (λ es. ItemsAreNewer mark ctx es) (sym e) n), λ mark k. k)

pub loop-entry-preserved : goal.loop-entry-preserved
loop-entry-preserved g c =
    let i = c.loop-entry.invariant in
    let once = c.args.once.now.entries in
    let steps = c.in-Some.ensures.steps.0 in
    let h = c.in_ok-item_given.ensures in (
      λ new k. i.0 new (subst (λ es. GivesAll once es c.loop-entry.ctx new) (sym steps) (c.item_given.new.ctx, h.gives, k)),
      λ mark n. let j = i.1 mark n in let m = subst (λ es. ItemsAreNewer mark c.args.ctx.now es) steps j.1 in (kept_trans j.0 (h.kept mark (newer_still mark c.in-Some.entry.item j.0 m.0)), m.1),
      λ mark k. h.closed mark (i.2 mark k),
    )

pub returns-in_err-item_given-clause-kept : goal.returns-in_err-item_given-clause-kept
returns-in_err-item_given-clause-kept g c = λ mark n.
    let i = c.loop-entry.invariant in
    let j = i.1 mark n in
    let m = subst (λ es. ItemsAreNewer mark c.args.ctx.now es) c.in-Some.ensures.steps.0 j.1 in
    kept_trans j.0 (c.in_err-item_given.ensures.kept mark (newer_still mark c.in-Some.entry.item j.0 m.0))

pub returns-in_err-item_given-clause-closed : goal.returns-in_err-item_given-clause-closed
returns-in_err-item_given-clause-closed g c = λ mark k. c.in_err-item_given.ensures.closed mark (c.loop-entry.invariant.2 mark k)

pub returns-clause-kept : goal.returns-clause-kept
returns-clause-kept g c = λ mark n. (c.loop-entry.invariant.1 mark n).0
