use Rattle.irtext_base.specs.Faults.{characters}
use Rattle.irtext_parse_pieces.proofs.FrontSteps.{word_found, word_missed}
use Rattle.irtext_parse_pieces.proofs.Lenses.{lens_of}
use Rattle.irtext_parse_pieces.proofs.Meanings.{names_none}
use Rattle.irtext_parse_pieces.proofs.fronts.piece_found.Goals as goal

pub returns-in-Err-clause-read : goal.returns-in-Err-clause-read
returns-in-Err-clause-read g c =
    rw c.in-Some.ensures (word_missed (lens_of g.world g.met.S.CharStream) c.args.found.now _ (characters c.in-Some.word.now) c.in-Err.ensures)

pub returns-in-Err-clause-names : goal.returns-in-Err-clause-names
returns-in-Err-clause-names g c = names_none c.args.names.now

pub returns-in-Some-clause-names : goal.returns-in-Some-clause-names
returns-in-Some-clause-names g c = names_none c.args.names.now

pub returns-in-Some-clause-read : goal.returns-in-Some-clause-read
returns-in-Some-clause-read g c = rw c.in-Some.ensures (word_found (lens_of g.world g.met.S.CharStream) c.args.found.now _ (characters c.in-Some.word.now) c.push_word.ensures c.in_default-text_demanded.ensures)

pub returns-clause-read : goal.returns-clause-read
returns-clause-read g c = c.piece_kept.ensures c.step_parse-answer.new.names.names _ c.args.stream.now c.step_parse-answer.ensures.read

pub returns-clause-names : goal.returns-clause-names
returns-clause-names g c = c.step_parse-answer.ensures.names
