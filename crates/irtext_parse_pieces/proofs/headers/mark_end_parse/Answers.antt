use Rattle.irtext_parse_pieces.proofs.HeaderSteps.{no_mark, colon_closed}
use Rattle.irtext_parse_pieces.proofs.Lenses.{lens_of}
use Rattle.irtext_parse_pieces.proofs.headers.mark_end_parse.Goals as goal

pub returns-in-Err : goal.returns-in-Err
returns-in-Err g c = λ fine. (no_mark (lens_of g.world g.met.S.CharStream) fine c.skip_white_space.ensures c.in-Err.ensures)

pub returns : goal.returns
returns g c = λ fine.
    colon_closed (lens_of g.world g.met.S.CharStream) fine c.skip_white_space.ensures c.in-Ok.ensures c.skip_white_space-2.ensures c.text_demanded-answer.result c.closed_by.ensures c.text_demanded-answer.ensures
