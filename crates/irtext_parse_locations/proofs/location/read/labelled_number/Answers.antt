use Rattle.irtext_tokens.proofs.Exits.{propagated}
use Rattle.irtext_grammar.proofs.Readers.Steps.{lens, first, more, last, refuses}
use Rattle.irtext_parse_locations.proofs.location.read.labelled_number.Goals as goal

pub returns-in_err-spaced_text_demanded : goal.returns-in_err-spaced_text_demanded
returns-in_err-spaced_text_demanded g c =
    let l = lens g.S.CharStream.view g.S.CharStream.at g.met.S.CharStream.view_at g.met.S.CharStream.at_view g.met.S.CharStream.at_at in
    rw (propagated c.from_residual-in_err-spaced_text_demanded.result c.from_residual-in_err-spaced_text_demanded.ensures.1) (refuses l _ (first l _ c.in_ok-text_demanded.ensures) c.in_err-spaced_text_demanded.ensures)

pub returns : goal.returns
returns g c =
    let l = lens g.S.CharStream.view g.S.CharStream.at g.met.S.CharStream.view_at g.met.S.CharStream.at_view g.met.S.CharStream.at_at in
    last l (more l _ (first l _ c.in_ok-text_demanded.ensures) c.in_ok-spaced_text_demanded.ensures) c.i32_demanded.ensures.read
