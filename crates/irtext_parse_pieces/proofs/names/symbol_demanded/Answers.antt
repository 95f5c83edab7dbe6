use Rattle.irtext_parse_pieces.proofs.NameSteps.{symbol_read, symbol_refused}
use Rattle.irtext_parse_pieces.proofs.Lenses.{lens_of}
use Rattle.irtext_parse_pieces.proofs.names.symbol_demanded.Goals as goal

pub returns-in-Err : goal.returns-in-Err
returns-in-Err g c = (symbol_refused (lens_of g.world g.met.S.CharStream) c.in-Err.ensures)

pub returns-in-Ok : goal.returns-in-Ok
returns-in-Ok g c = symbol_read (lens_of g.world g.met.S.CharStream) (record { name = c.in-Ok.name; at = c.position-at.result }) c.in-Ok.ensures c.position-at.ensures
