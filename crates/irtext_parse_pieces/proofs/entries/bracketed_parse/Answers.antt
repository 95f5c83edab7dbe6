use Rattle.irtext_tokens.specs.AttrTexts.{attr_at}
use Rattle.irtext_parse_pieces.proofs.EntrySteps.{no_bracket, no_entry_read, bracket_ended}
use Rattle.irtext_parse_pieces.proofs.Lenses.{lens_of}
use Rattle.irtext_parse_pieces.proofs.entries.bracketed_parse.Goals as goal

pub returns-in-Err : goal.returns-in-Err
returns-in-Err g c =
    no_bracket (lens_of g.world g.met.S.CharStream) (attr_at g.A.IrText.reading) c.args.any_key c.in-Err.ensures

pub returns-in-Err-entries_parse : goal.returns-in-Err-entries_parse
returns-in-Err-entries_parse g c =
    no_entry_read (lens_of g.world g.met.S.CharStream) (attr_at g.A.IrText.reading) c.args.any_key c.in_default.ensures c.skip_white_space.ensures c.in-Err-entries_parse.ensures

pub returns : goal.returns
returns g c =
    bracket_ended (lens_of g.world g.met.S.CharStream) (attr_at g.A.IrText.reading) c.args.any_key c.in_default.ensures c.skip_white_space.ensures c.in-Ok.ensures c.text_demanded-answer.result c.closed_by.ensures c.text_demanded-answer.ensures
