use Rattle.irtext_base.specs.Text.{Text}
use Rattle.irtext_tokens.proofs.Steps.{alone, begins_with, begun_by, last}
use Rattle.irtext_syntax.specs.Sequences.{inside_at}
use Rattle.irtext_syntax.proofs.sequence.WithinPart.read.Goals as goal

pub returns-in-Ok : goal.returns-in-Ok
returns-in-Ok g c =
    let next = λ (u : Unit {0}) (t : Text). inside_at g.B.Brackets.closer g.P.Part.text.reading t in
    begun_by alone next c.in-Ok.ensures (last alone (begins_with alone next c.in-Ok.ensures) c.inside_parse.ensures)
