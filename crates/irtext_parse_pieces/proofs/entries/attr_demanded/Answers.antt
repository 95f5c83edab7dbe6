use Rattle.irtext_tokens.proofs.Steps.{insisted}
use Rattle.irtext_parse_pieces.proofs.EntrySteps.{as_tree}
use Rattle.irtext_parse_pieces.proofs.Lenses.{lens_of}
use Rattle.irtext_parse_pieces.proofs.entries.attr_demanded.Goals as goal

pub returns : goal.returns
returns g c = as_tree (lens_of g.world g.met.S.CharStream) c.committed.result (insisted (lens_of g.world g.met.S.CharStream) c.attr_parse-answer.ensures.read c.committed.ensures)
