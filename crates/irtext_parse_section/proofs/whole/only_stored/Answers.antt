use Rattle.std.proofs.Common.{sym, subst}
use Rattle.irtext_parse_locations.specs.Applied.{ItemsAreNewer}
use Rattle.irtext_parse_section.proofs.OnlyEntry.{gives_one, gives_same}
use Rattle.irtext_parse_section.proofs.whole.only_stored.Goals as goal

pub returns-then-earlier-clause-gives : goal.returns-then-earlier-clause-gives
returns-then-earlier-clause-gives g c =
    gives_same c.items_given_together.result c.with_hasher-once.result.entries c.in_ok-items.items.items c.args.entry c.args.ctx.now c.items_given_together.new.ctx c.with_hasher-once.ensures.empty c.in_ok-items.ensures c.items_given_together.ensures.gives

pub returns-then-earlier-clause-kept : goal.returns-then-earlier-clause-kept
returns-then-earlier-clause-kept g c = λ mark n. c.items_given_together.ensures.kept mark (subst (λ es. ItemsAreNewer mark c.args.ctx.now es) (sym c.in_ok-items.ensures) n)

pub returns-clause-gives : goal.returns-clause-gives
returns-clause-gives g c = gives_one c.item_given.result c.with_hasher-once.result.entries c.args.entry c.args.ctx.now c.item_given.new.ctx c.with_hasher-once.ensures.empty c.item_given.ensures.gives

pub returns-clause-kept : goal.returns-clause-kept
returns-clause-kept g c = λ mark n. c.item_given.ensures.kept mark n.0
