use Rattle.irtext_tokens.specs.AttrTexts.{attr_at}
use Rattle.irtext_grammar.specs.Contexts.Held.{attribute_of}
use Rattle.irtext_grammar.specs.Readers.Directives.{attribute_at}
use Rattle.irtext_parse_pieces.proofs.Lenses.{lens_of}
use Rattle.irtext_parse_pieces.proofs.PairSteps.{pair_unnamed, pair_alone, pair_ended}
use Rattle.irtext_parse_pieces.proofs.entries.pair_parse.Goals as goal

pub returns-in-Err : goal.returns-in-Err
returns-in-Err g c =
    pair_unnamed (lens_of g.world g.met.S.CharStream) (attribute_at (attr_at g.A.IrText.reading)) attribute_of c.in-Err.ensures

pub returns-in-Err-spaced_text_demanded : goal.returns-in-Err-spaced_text_demanded
returns-in-Err-spaced_text_demanded g c =
    rw c.failed.ensures
    (pair_alone (lens_of g.world g.met.S.CharStream) (attribute_at (attr_at g.A.IrText.reading)) attribute_of c.in-Ok.ensures c.in-Err-spaced_text_demanded.ensures)

pub returns : goal.returns
returns g c = pair_ended (lens_of g.world g.met.S.CharStream) (attribute_at (attr_at g.A.IrText.reading)) attribute_of c.in-Ok.ensures c.in_default.ensures c.attr_demanded-answer.result c.beside.ensures c.attr_demanded-answer.ensures
