use Rattle.irtext_tokens.specs.AttrTexts.{attr_at}
use Rattle.irtext_parse_pieces.specs.Canonical.{canonical_front}
use Rattle.irtext_grammar.specs.Forms.{pieces_of}
use Rattle.irtext_parse_pieces.proofs.CanonicalSteps.{steps_failed, steps_seen}
use Rattle.irtext_parse_pieces.proofs.Lenses.{lens_of}
use Rattle.irtext_parse_pieces.proofs.fronts.canonical_pieces.Goals as goal

pub returns-in-Err-clause-read : goal.returns-in-Err-clause-read
returns-in-Err-clause-read g c = λ fine.
    steps_failed (lens_of g.world g.met.S.CharStream) g.T.IrText.reading (attr_at g.A.IrText.reading) c.args.setting c.canonical_parse.new.names.names canonical_front pieces_of (λ ps. ps) (c.in-Err.ensures.read fine)

pub returns-in-Ok-clause-read : goal.returns-in-Ok-clause-read
returns-in-Ok-clause-read g c = λ fine.
    steps_seen (lens_of g.world g.met.S.CharStream) g.T.IrText.reading (attr_at g.A.IrText.reading) c.args.setting c.canonical_parse.new.names.names canonical_front pieces_of (λ ps. ps) c.canonical.result c.canonical.ensures (c.in-Ok.ensures.read fine)

pub returns-in-Err-clause-names : goal.returns-in-Err-clause-names
returns-in-Err-clause-names g c = c.in-Err.ensures.names

pub returns-in-Ok-clause-names : goal.returns-in-Ok-clause-names
returns-in-Ok-clause-names g c = c.in-Ok.ensures.names
