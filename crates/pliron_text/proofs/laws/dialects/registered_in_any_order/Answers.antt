use Rattle.pliron_text.proofs.Alike.Orders.{any_order}
use Rattle.pliron_text.proofs.laws.dialects.registered_in_any_order.Goals as goal

pub returns : goal.returns
returns c = any_order
