use Rattle.irtext_tokens.proofs.Steps.{insisted}
use Rattle.irtext_parse_pieces.proofs.Lenses.{lens_of}
use Rattle.irtext_parse_pieces.proofs.PairSteps.{pair_unnamed, pair_alone, pair_ended}
use Rattle.irtext_parse_pieces.proofs.arguments.argument_parse.Goals as goal

pub returns-in-Err-spaced_text_demanded-clause-read : goal.returns-in-Err-spaced_text_demanded-clause-read
returns-in-Err-spaced_text_demanded-clause-read g c =
    pair_alone (lens_of g.world g.met.S.CharStream) g.T.IrText.reading (λ t. t) c.in-Ok.ensures.read c.in-Err-spaced_text_demanded.ensures

pub returns-in-Err-clause-read : goal.returns-in-Err-clause-read
returns-in-Err-clause-read g c = pair_unnamed (lens_of g.world g.met.S.CharStream) g.T.IrText.reading (λ t. t) c.in-Err.ensures.read

pub returns-clause-read : goal.returns-clause-read
returns-clause-read g c =
    let l = lens_of g.world g.met.S.CharStream in
    pair_ended l g.T.IrText.reading (λ t. t) c.in-Ok.ensures.read c.in_default.ensures c.committed-ty.result c.beside.ensures (insisted l c.read_own-answer.ensures c.committed-ty.ensures)

pub returns-in-Err-spaced_text_demanded-clause-names : goal.returns-in-Err-spaced_text_demanded-clause-names
returns-in-Err-spaced_text_demanded-clause-names g c = c.in-Ok.ensures.names

pub returns-in-Err-clause-names : goal.returns-in-Err-clause-names
returns-in-Err-clause-names g c = c.in-Err.ensures.names

pub returns-clause-names : goal.returns-clause-names
returns-clause-names g c = c.in-Ok.ensures.names
