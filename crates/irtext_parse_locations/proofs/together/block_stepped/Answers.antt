use Rattle.irtext_context.specs.Context.{block}
use Rattle.irtext_parse_locations.specs.Applied.{all_stored}
use Rattle.irtext_parse_locations.proofs.TakenBack.{is_there}
use Rattle.irtext_parse_locations.proofs.AllOrNone.{block_swapped_in}
use Rattle.irtext_parse_locations.proofs.together.block_stepped.Goals as goal

pub returns-clause-stores : goal.returns-clause-stores
returns-clause-stores g c =
    block_swapped_in (all_stored c.args.once.now.entries c.args.pairs.items) c.args.ctx.now c.item_swapped.new.ctx c.args.at c.in_ok-next.label c.in_ok-next.next
    (is_there c.contains_block.result (block c.args.ctx.now c.args.at) c.contains_block.ensures.alive c.if-not-contains_block.false) c.in_ok-next.ensures.stored c.in_ok-next.ensures.label c.item_swapped.ensures.puts

pub returns-clause-takes : goal.returns-clause-takes
returns-clause-takes g c = record { left = c.in_ok-next.next; edits = c.item_swapped.ensures.puts; had_these = c.item_swapped.ensures.had }
