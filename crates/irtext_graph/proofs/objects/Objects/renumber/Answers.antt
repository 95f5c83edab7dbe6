use Rattle.irtext_graph.proofs.Kept.{same_self, same_then, room_self, room_on}
use Rattle.irtext_graph.proofs.objects.Objects.renumber.Goals as goal

pub loop-index-init : goal.loop-index-init
loop-index-init g c = record { same = same_self c.args.self.now; room = room_self c.args.self.now }

pub loop-index-preserved : goal.loop-index-preserved
loop-index-preserved g c = record { same = same_then c.loop-index.invariant.same c.note.ensures.same; room = room_on c.loop-index.invariant.room c.note.ensures.room }
