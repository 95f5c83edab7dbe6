use Rattle.std.proofs.Common.{Ok, Err, refl}
use Rattle.irtext_parse_pieces.proofs.lists.next_kept.Goals as goal

pub returns-in-Ok : goal.returns-in-Ok
returns-in-Ok g c = record { item = Ok c.in-Ok.item; mid = c.committed.new.stream; demands = c.in-Ok.ensures; kept = c.with_spaced.ensures }

pub returns-in-Err : goal.returns-in-Err
returns-in-Err g c = record { item = Err c.in-Err.fault; mid = c.committed.new.stream; demands = c.in-Err.ensures; kept = (c.failed.ensures, refl) }
