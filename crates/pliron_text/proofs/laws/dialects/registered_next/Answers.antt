use Rattle.pliron_text.proofs.Alike.Orders as orders
use Rattle.pliron_text.proofs.laws.dialects.registered_next.Goals as goal

pub returns : goal.returns
returns c = orders.registered_next
