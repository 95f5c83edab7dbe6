use Rattle.std.proofs.Common.{None}
use Rattle.irtext_context.specs.Context.{operation}
use Rattle.irtext_parse_locations.specs.Applied.{all_stored}
use Rattle.irtext_parse_locations.proofs.TakenBack.{is_there}
use Rattle.irtext_parse_locations.proofs.AllOrNone.{operation_swapped_in}
use Rattle.irtext_parse_locations.proofs.together.operation_stepped.Goals as goal

pub returns-clause-stores : goal.returns-clause-stores
returns-clause-stores g c =
    operation_swapped_in (all_stored c.args.once.now.entries c.args.pairs.items) c.args.ctx.now c.item_swapped.new.ctx c.args.op None c.in_ok-next.next
    (is_there c.contains_operation.result (operation c.args.ctx.now c.args.op) c.contains_operation.ensures.alive c.if-not-contains_operation.false) c.in_ok-next.ensures c.item_swapped.ensures.puts

pub returns-clause-takes : goal.returns-clause-takes
returns-clause-takes g c = record { left = c.in_ok-next.next; edits = c.item_swapped.ensures.puts; had_these = c.item_swapped.ensures.had }
