use Rattle.irtext_tokens.specs.AttrTexts.{attr_at}
use Rattle.irtext_parse_pieces.proofs.HeaderSteps.{no_closing, no_dictionary, end_read}
use Rattle.irtext_parse_pieces.proofs.Lenses.{lens_of}
use Rattle.irtext_parse_pieces.proofs.headers.head_end_parse.Goals as goal

pub returns-in-Err : goal.returns-in-Err
returns-in-Err g c = (no_closing (lens_of g.world g.met.S.CharStream) (attr_at g.A.IrText.reading) c.in-Err.ensures)

pub returns-in-Err-dictionary_alone : goal.returns-in-Err-dictionary_alone
returns-in-Err-dictionary_alone g c =
    no_dictionary (lens_of g.world g.met.S.CharStream) (attr_at g.A.IrText.reading) c.in_default.ensures c.in-Err-dictionary_alone.ensures.space c.in-Err-dictionary_alone.ensures.read

pub returns : goal.returns
returns g c = end_read (lens_of g.world g.met.S.CharStream) (attr_at g.A.IrText.reading) c.in_default.ensures c.in-Ok.ensures.space c.in-Ok.ensures.read c.mark_end_parse-answer.result c.beside.ensures c.mark_end_parse-answer.ensures
