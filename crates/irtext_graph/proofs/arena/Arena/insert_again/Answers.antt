use Rattle.std.proofs.Common.{refl}
use Rattle.irtext_graph.proofs.Slots.{inserted_again}
use Rattle.irtext_graph.proofs.arena.Arena.insert_again.Goals as goal

pub returns-clause-inserts : goal.returns-clause-inserts
returns-clause-inserts g c = inserted_again c.args.self.now _ _ c.args.freed.last c.args.freed.next _ c.requires.slot c.requires.index c.requires.last refl refl
