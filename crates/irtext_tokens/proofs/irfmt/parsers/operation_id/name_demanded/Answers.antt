use Rattle.irtext_tokens.proofs.Steps.{lens, first, last}
use Rattle.irtext_tokens.proofs.irfmt.parsers.operation_id.name_demanded.Goals as goal

pub returns : goal.returns
returns g c =
    let m = g.met.S.CharStream in
    let l = lens g.S.CharStream.view g.S.CharStream.at m.view_at m.at_view m.at_at in
    last l (first l _ c.in_ok-text_demanded.ensures) c.identifier_demanded.ensures
