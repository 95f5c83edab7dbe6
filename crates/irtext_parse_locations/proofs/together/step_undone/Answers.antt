use Rattle.irtext_parse_locations.proofs.TakenBack.{none_put}
use Rattle.irtext_parse_locations.proofs.together.step_undone.Goals as goal

pub item_swapped-requires : goal.item_swapped-requires
item_swapped-requires g c = c.is_live.ensures.0 c.if-not-is_live.false

pub returns-then-not-is_live : goal.returns-then-not-is_live
returns-then-not-is_live g c = rw c.in-Some.is (none_put c.args.step.item c.is_live.result c.args.ctx.now c.in-Some.before c.is_live.ensures c.if-not-is_live.true)

pub returns : goal.returns
returns g c = rw c.in-Some.is c.item_swapped.ensures.puts
