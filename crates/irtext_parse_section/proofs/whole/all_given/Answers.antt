use Rattle.std.proofs.Common.{subst, sym}
use Rattle.irtext_parse_locations.specs.Applied.{ItemsAreNewer}
use Rattle.irtext_parse_section.specs.Entries.{items_of}
use Rattle.irtext_parse_section.proofs.whole.all_given.Goals as goal

pub returns-in-Only-clause-kept : goal.returns-in-Only-clause-kept
returns-in-Only-clause-kept g c = λ mark newer.
    c.only_given.ensures.kept mark (subst (λ z. ItemsAreNewer mark c.args.ctx.now (items_of z)) c.in-Only.is newer)

pub returns-in-All-clause-kept : goal.returns-in-All-clause-kept
returns-in-All-clause-kept g c = λ mark newer.
    let here = subst (λ z. ItemsAreNewer mark c.args.ctx.now (items_of z)) c.in-All.is newer in
    c.many_given.ensures.kept mark (subst (λ n. ItemsAreNewer mark c.args.ctx.now n.items.items) (sym c.into_inner.ensures) here)
