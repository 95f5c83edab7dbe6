use Rattle.std.proofs.Common.{length}
use Rattle.irtext_parse_nested.proofs.LaterPieces.{known_in}
use Rattle.irtext_parse_nested.proofs.later.piece_done.Goals as goal

pub gather_fault-requires : goal.gather_fault-requires
gather_fault-requires g c = known_in (length c.args.names.now.names) c.args.piece c.in-Err.refusal c.in-Err.ensures.refused

pub returns-in-Err-clause-refused : goal.returns-in-Err-clause-refused
returns-in-Err-clause-refused g c = record { why = c.in-Err.refusal; refuses = c.in-Err.ensures.refused; says = c.gather_fault.ensures }
