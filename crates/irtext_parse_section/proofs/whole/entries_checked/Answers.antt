use Rattle.std.proofs.Common.{◌∙◌, ap, subst}
use Rattle.irtext_parse_locations.specs.Checked.{Checks, items_wrong}
use Rattle.irtext_parse_section.proofs.whole.entries_checked.Goals as goal

pub returns-in-All : goal.returns-in-All
returns-in-All g c =
    let all = c.in-All.all.value in
    let items = c.as_slice.ensures.value ∙ ap (λ n. n.items.items) c.deref-in-All.ensures in
    let here = subst (λ n. Checks (items_wrong n.once.entries c.as_slice.result.now) c.args.stream.now c.items_checked.result c.items_checked.new.stream) c.deref.ensures c.items_checked.ensures in
    rw c.in-All.is (subst (λ is. Checks (items_wrong all.once.entries is) c.args.stream.now c.items_checked.result c.items_checked.new.stream) items here)
