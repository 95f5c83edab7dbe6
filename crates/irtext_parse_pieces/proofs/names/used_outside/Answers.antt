use Rattle.std.proofs.Common.{ap}
use Rattle.irtext_base.specs.Faults.{fault_of}
use Rattle.irtext_parse_pieces.proofs.OutsideNames.{none_outside, name_outside}
use Rattle.irtext_parse_pieces.proofs.Lenses.{lens_of}
use Rattle.irtext_parse_pieces.proofs.names.used_outside.Goals as goal

pub returns-in-Ok : goal.returns-in-Ok
returns-in-Ok g c =
    let r = c.refuse_at.ensures in
    name_outside (lens_of g.world g.met.S.CharStream) c.in-Ok.name c.position-at.result c.in-Ok.ensures c.position-at.ensures
    (record { because = ap fault_of r.cause; committed = r.committed; position = λ passed rest e p. r.at passed rest e p; left = r.left })

pub returns-in-Err : goal.returns-in-Err
returns-in-Err g c = none_outside (lens_of g.world g.met.S.CharStream) c.in-Err.ensures
