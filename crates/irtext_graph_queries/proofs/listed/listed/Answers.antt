use Rattle.irtext_graph_queries.proofs.Gathered.{none_each, next_each, counted_each}
use Rattle.irtext_graph_queries.proofs.listed.listed.Goals as goal

pub loop-i-init : goal.loop-i-init
loop-i-init g c = record { each = none_each _ c.in_ok-all.all.items c.in_ok-all.ensures.items }

pub loop-i-preserved : goal.loop-i-preserved
loop-i-preserved g c = record { each = next_each _ c.loop-i.all.items c.push.new.items.items c.loop-i.i c.item.result c.item.ensures c.loop-i.invariant.each c.in_ok-push.ensures.items }

pub returns : goal.returns
returns g c = counted_each _ c.loop-i.all.items c.loop-i.i c.args.count c.loop-i.auto.i-end c.loop-i-test.false c.loop-i.invariant.each
