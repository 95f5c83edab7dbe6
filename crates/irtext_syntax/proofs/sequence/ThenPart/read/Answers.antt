use Rattle.irtext_tokens.proofs.Steps.{alone, begins_with, begun_by, last}
use Rattle.irtext_syntax.specs.Sequences.{second_at}
use Rattle.irtext_syntax.proofs.sequence.ThenPart.read.Goals as goal

pub returns-in-Ok : goal.returns-in-Ok
returns-in-Ok g c =
    let next = second_at g.W.Between.text g.Q.Part.text.reading in
    begun_by alone next c.in-Ok.ensures (last alone (begins_with alone next c.in-Ok.ensures) c.second_parse.ensures)
