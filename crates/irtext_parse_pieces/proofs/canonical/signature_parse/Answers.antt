use Rattle.irtext_tokens.specs.AttrTexts.{attr_at}
use Rattle.irtext_parse_pieces.proofs.Lenses.{lens_of}
use Rattle.irtext_parse_pieces.proofs.SignatureParts.{no_colon, no_angle, no_inputs, no_arrow, no_results, types_ended}
use Rattle.irtext_parse_pieces.proofs.canonical.signature_parse.Goals as goal

pub returns-in-Err : goal.returns-in-Err
returns-in-Err g c = λ names fine.
    no_colon (lens_of g.world g.met.S.CharStream) g.T.IrText.reading (attr_at g.A.IrText.reading) c.args.setting names fine c.in-Err.ensures

pub returns-in-Err-word_parse : goal.returns-in-Err-word_parse
returns-in-Err-word_parse g c = λ names fine.
    no_angle (lens_of g.world g.met.S.CharStream) g.T.IrText.reading (attr_at g.A.IrText.reading) c.args.setting names fine c.in_default.ensures c.in-Err-word_parse.ensures

pub returns-in-Err-parenthesized_parse : goal.returns-in-Err-parenthesized_parse
returns-in-Err-parenthesized_parse g c = λ names fine.
    no_inputs (lens_of g.world g.met.S.CharStream) g.T.IrText.reading (attr_at g.A.IrText.reading) c.args.setting names fine c.in_default.ensures c.in_default-word_parse.ensures c.in-Err-parenthesized_parse.ensures

pub returns-in-Err-word_parse-2 : goal.returns-in-Err-word_parse-2
returns-in-Err-word_parse-2 g c = λ names fine.
    rw c.failed.ensures
    (no_arrow (lens_of g.world g.met.S.CharStream) g.T.IrText.reading (attr_at g.A.IrText.reading) c.args.setting names fine c.in_default.ensures c.in_default-word_parse.ensures c.in-Ok.ensures c.in-Err-word_parse-2.ensures)

pub returns-in-Err-parenthesized_parse-2 : goal.returns-in-Err-parenthesized_parse-2
returns-in-Err-parenthesized_parse-2 g c = λ names fine.
    rw c.failed-in-Err-parenthesized_parse-2.ensures
    (no_results (lens_of g.world g.met.S.CharStream) g.T.IrText.reading (attr_at g.A.IrText.reading) c.args.setting names fine c.in_default.ensures c.in_default-word_parse.ensures c.in-Ok.ensures c.in_default-word_parse-2.ensures c.in-Err-parenthesized_parse-2.ensures)

pub returns : goal.returns
returns g c = λ names fine.
    types_ended (lens_of g.world g.met.S.CharStream) g.T.IrText.reading (attr_at g.A.IrText.reading) c.args.setting names fine c.in_default.ensures c.in_default-word_parse.ensures c.in-Ok.ensures c.in_default-word_parse-2.ensures c.in-Ok-parenthesized_parse.ensures c.word_parse-answer.result c.closed_by.ensures c.word_parse-answer.ensures
