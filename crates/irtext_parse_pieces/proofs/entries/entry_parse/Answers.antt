use Rattle.irtext_tokens.specs.AttrTexts.{attr_at}
use Rattle.irtext_grammar.specs.Heads.{pair_at}
use Rattle.irtext_parse_pieces.proofs.AllowedSteps.{may_keep}
use Rattle.irtext_parse_pieces.proofs.Lenses.{lens_of}
use Rattle.irtext_parse_pieces.proofs.entries.entry_parse.Goals as goal

pub returns-then-any_key : goal.returns-then-any_key
returns-then-any_key g c = rw c.if-any_key.true c.pair_parse.ensures

pub returns : goal.returns
returns g c =
    rw c.if-any_key.false
    (may_keep (lens_of g.world g.met.S.CharStream) {raw = pair_at (attr_at g.A.IrText.reading)} c.position-at.result c.pair_parse-answer.result c.allowed.result c.pair_parse-answer.ensures c.position-at.ensures c.allowed.ensures)
